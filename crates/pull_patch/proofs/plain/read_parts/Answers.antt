use Rattle.std.proofs.Common.{◌≡◌, ◌-◌, length, Some, None, refl, ◌∙◌, arith}
use Rattle.json.specs.Json.{read_key, value}
use Rattle.json.proofs.Grammar.{read_key-shorter}
use Rattle.serde_json.specs.Data.{no_members, put}
use Rattle.pull_patch.proofs.Turns.{member_read, members_over}
use Rattle.pull_patch.proofs.plain.read_parts.Goals as goal

pub parts-init : goal.parts-init
parts-init c = (
  length c.args.reader.now,
  omega arith,
  omega arith,
  no_members,
  refl,
  record { cookie = tt; changes = tt; patch = tt; no_error = refl },
)

pub parts-preserved : goal.parts-preserved
parts-preserved c =
    let l = c.parts in
    let n = l.invariant.0 in
    let ms = l.invariant.3 in
    let k = c.in-Some.name.now in
    let s = c.next_key.new.self in
    let r = c.read_part.new.reader in
    let key : read_key l.reader ≡ Some (Some k, s) = grind arith in
    let less = read_key-shorter l.reader (Some k) s key in
    let lesser = c.in_ok-read_part.ensures.shorter in
    let done = c.in_ok-read_part.ensures.read in (
      n - 1,
      omega (arith, l.invariant.1),
      omega (arith, l.invariant.2),
      put k done.tree ms,
      l.invariant.4 ∙ member_read (value 126) ms n k l.reader s r done.tree
          (omega (arith, l.invariant.1)) key done.reads,
      done.parts ms l.invariant.5,
    )

pub returns : goal.returns
returns c =
    let l = c.parts in
    let r = c.next_key.new.self in
    let over : read_key l.reader ≡ Some (None, r) = grind arith in record {
      tree = l.invariant.3;
      reads = l.invariant.4 ∙ members_over (value 126) l.invariant.3 l.invariant.0 l.reader r l.invariant.1 over;
      parts = l.invariant.5;
    }
