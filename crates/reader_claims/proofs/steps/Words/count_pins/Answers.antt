use Rattle.std.proofs.Common.{◌≡◌, [], ◌∷◌, ◌+◌, rules, refl, ap, sym, ◌∙◌, arith}
use Rattle.reader_claims.specs.Counts as counts
use Rattle.reader_claims.specs.Counts.{Found}
use Rattle.reader_claims.specs.Inside.Known.{view}
use Rattle.reader_claims.specs.Machine as machine
use Rattle.reader_claims.specs.Words.{pin_at}
use Rattle.reader_claims.specs.declared.counts.SlotCounts.{SlotCounts}
use Rattle.reader_claims.specs.declared.view.View.{View}
use Rattle.reader_claims.proofs.Counting.{few_pinned, pin_more}
use Rattle.reader_claims.proofs.Finding.{HasMore, then_more, found_later, counts_pins}
use Rattle.reader_claims.proofs.Moving.{one_move, moves_moves}
use Rattle.reader_claims.proofs.steps.Words.count_pins.Goals as goal

pub add_pin-requires : goal.add_pin-requires
add_pin-requires c = let so = c.loop-other.invariant.counts in let few = few_pinned so.0 c.args.slots c.requires.none in
    let is = ap (λ (n : SlotCounts). n.pinned_seats) so.3 in let all = so.1 in omega arith

pub loop-other-init : goal.loop-other-init
loop-other-init c = record {
  table = refl;
  moves = machine.still _;
  kept = refl;
  more = ([], refl);
  counts = ([], refl, tt, refl);
}

pub loop-other-preserved : goal.loop-other-preserved
loop-other-preserved c =
    let old = c.loop-other.invariant in let first : View = view c.args.reader.now in
    let was : View = view c.loop-other.reader in let now : View = view c.load_pin-word.new.reader in
    let is : now ≡ _ = c.load_pin-word.ensures.view in let i = c.loop-other.other in let w = c.load_pin-word.result in
    let notes : HasMore was.notes now.notes = ([], ap (λ (v : View). v.notes) is) in
    let read : HasMore was.read now.read = ((i + 1, w) ∷ [], ap (λ (v : View). v.read) is) in
    let here : Found first now (pin_at (i + 1)) w = counts.pin (i + 1) w [] old.more.0
    (ap (λ (v : View). v.read) is ∙ ap (λ l. (i + 1, w) ∷ l) old.more.1) in record {
      table = search rules;
      moves = moves_moves first was now old.moves (one_move was now _ _ _ c.load_pin-word.ensures.step);
      kept = is ∙ ap (λ (v : View). record v { read = (i + 1, w) ∷ was.read }) old.kept
          ∙ ap (λ l. record first { read = l }) (sym (ap (λ (v : View). v.read) is));
      more = then_more first.read was.read now.read old.more read;
      counts = pin_more (Found first now) i (pin_at (i + 1)) w c.of_word.result c.args.slots c.loop-other.counts
          c.add_pin.new.self
          (counts_pins (Found first was) (Found first now) (λ p x. found_later first was now p x notes read) i
          c.args.slots c.loop-other.counts old.counts) refl here c.of_word.ensures.word c.add_pin.ensures;
    }
