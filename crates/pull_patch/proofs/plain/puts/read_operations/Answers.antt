use Rattle.std.proofs.Common.{◌≡◌, ◌-◌, ◌<◌, length, Some, None, sym, ap, ◌∙◌, subst, arith}
use Rattle.json.specs.Json.{after_end_array, value, parse_map}
use Rattle.serde_json.specs.Data.{no_items}
use Rattle.pull_patch.specs.Inside.Plain.{ArePatch}
use Rattle.pull_patch.proofs.Patches.{joined, pushed, joined-none, unjoined, turn, ArePatch-none, ArePatch-push}
use Rattle.pull_patch.proofs.Turns.{item_read, items_over}
use Rattle.pull_patch.proofs.plain.puts.read_operations.Goals as goal

pub operations-init : goal.operations-init
operations-init c = (
  length c.args.reader.now,
  omega arith,
  omega arith,
  no_items,
  unjoined _,
  subst (ArePatch no_items) (sym c.new-patch.ensures.items) ArePatch-none,
)

pub operations-preserved : goal.operations-preserved
operations-preserved c =
    let l = c.operations in
    let n = l.invariant.0 in
    let going : (after_end_array l.reader ≡ None) × (c.take_end_array.new.self ≡ l.reader) = grind arith in
    let done = c.in_ok-operation.ensures.read in
    let r = c.read_operation.new.reader in
    let less : length r < length l.reader = rw (← going.1) c.in_ok-operation.ensures.shorter in
    let read = item_read (value 125) n l.reader r done.tree (omega (arith, l.invariant.1)) going.0
    (rw (← going.1) done.reads) in (
      n - 1,
      omega (arith, l.invariant.1),
      omega (arith, l.invariant.2),
      pushed l.invariant.3 done.tree,
      turn l.invariant.3 done.tree _ _ _ l.invariant.4 read,
      subst (ArePatch (pushed l.invariant.3 done.tree)) (sym c.in_ok-push.ensures.items)
          (ArePatch-push l.invariant.3 l.patch.items done.tree c.in_ok-operation.operation l.invariant.5 done.says),
    )

pub returns-clause-read : goal.returns-clause-read
returns-clause-read c =
    let l = c.operations in
    let r = c.take_end_array.new.self in
    let over : after_end_array l.reader ≡ Some r = grind arith in record {
      tree = l.invariant.3;
      reads = l.invariant.4 ∙ ap (parse_map (joined l.invariant.3))
          (items_over (value 125) l.invariant.0 l.reader r l.invariant.1 over) ∙ ap (λ ds. Some (ds, r))
          (joined-none l.invariant.3);
      say = l.invariant.5;
    }
