use Rattle.std.proofs.Common.{◌≡◌, [], ◌∷◌, rules, refl, ap, sym, ◌∙◌, arith}
use Rattle.reader_claims.specs.Counts as counts
use Rattle.reader_claims.specs.Counts.{Found, all_slots}
use Rattle.reader_claims.specs.Inside.Known.{view}
use Rattle.reader_claims.specs.Machine as machine
use Rattle.reader_claims.specs.Notes.{lost}
use Rattle.reader_claims.specs.Views.{sought}
use Rattle.reader_claims.specs.Seats.{first_reserved}
use Rattle.reader_claims.specs.Words.{slot_at}
use Rattle.reader_claims.specs.declared.view.View.{View}
use Rattle.reader_claims.proofs.Counting.{all_counted, slot_more}
use Rattle.reader_claims.proofs.Finding.{HasMore, then_more, found_later, counts_slots}
use Rattle.reader_claims.proofs.Moving.{one_move, moves_moves}
use Rattle.reader_claims.proofs.steps.Words.count_slots.Goals as goal

pub add_slot-requires : goal.add_slot-requires
add_slot-requires c = let so = c.loop-slot.invariant.counts in
    let all = ap all_slots so.3 ∙ all_counted (first_reserved c.args.self.now.sizes) so.0 ∙ so.1 in omega arith

pub loop-slot-init : goal.loop-slot-init
loop-slot-init c = record {
  table = refl;
  moves = machine.still _;
  kept = refl;
  more = ([], refl);
  counts = ([], refl, tt, refl);
}

pub loop-slot-preserved : goal.loop-slot-preserved
loop-slot-preserved c =
    let old = c.loop-slot.invariant in let first : View = view c.args.reader.now in
    let was : View = view c.loop-slot.reader in let now : View = view c.look_slot-word.new.reader in
    let is : now ≡ _ = c.look_slot-word.ensures.view in let i = c.loop-slot.slot in let w = c.look_slot-word.result in
    let notes : HasMore was.notes now.notes = (lost i (sought w) w ∷ [], ap (λ (v : View). v.notes) is) in
    let read : HasMore was.read now.read = ([], ap (λ (v : View). v.read) is) in
    let here : Found first now (slot_at i) w = counts.slot i w [] old.more.0
    (ap (λ (v : View). v.notes) is ∙ ap (λ l. lost i (sought w) w ∷ l) old.more.1) in record {
      table = search rules;
      moves = moves_moves first was now old.moves (one_move was now _ _ _ c.look_slot-word.ensures.step);
      kept = is ∙ ap (λ (v : View). record v { notes = lost i (sought w) w ∷ was.notes }) old.kept
          ∙ ap (λ l. record first { notes = l }) (sym (ap (λ (v : View). v.notes) is));
      more = then_more first.notes was.notes now.notes old.more notes;
      counts = slot_more (Found first now) (first_reserved c.args.self.now.sizes) i (slot_at i) w c.of_word.result
          c.loop-slot.counts c.add_slot.new.self
          (counts_slots (Found first was) (Found first now) (λ p x. found_later first was now p x notes read)
          (first_reserved c.args.self.now.sizes) i c.loop-slot.counts old.counts) refl here c.of_word.ensures.word
          c.add_slot.ensures;
    }

pub returns-clause-counts : goal.returns-clause-counts
returns-clause-counts c = search rules
