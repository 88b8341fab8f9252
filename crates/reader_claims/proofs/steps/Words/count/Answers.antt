use Rattle.std.proofs.Common.{[], arith, ◌∙◌, ap, sym}
use Rattle.reader_claims.specs.Counts.{Counts, Found}
use Rattle.reader_claims.specs.Inside.Known.{view}
use Rattle.reader_claims.specs.Seats.{first_reserved}
use Rattle.reader_claims.specs.declared.counts.SlotCounts.{SlotCounts}
use Rattle.reader_claims.specs.declared.view.View.{View}
use Rattle.reader_claims.proofs.Counting.{all_bare, same_pins, slots_within, slots_all}
use Rattle.reader_claims.proofs.Finding.{HasMore, found_later, found_since, counts_slots, counts_pins}
use Rattle.reader_claims.proofs.Moving.{moves_moves}
use Rattle.reader_claims.proofs.steps.Words.count.Goals as goal

pub count_pins-requires-clause-none : goal.count_pins-requires-clause-none
count_pins-requires-clause-none c = let so = c.count_slots-slots.ensures.counts in
    ap (λ (n : SlotCounts). n.pinned_seats) so.3 ∙ (all_bare _ so.0).0

pub returns : goal.returns
returns c =
    let v : View = view c.args.reader.now in let t : View = view c.count_slots-slots.new.reader in
    let u : View = view c.count_pins.new.reader in
    let a = c.count_slots-slots.ensures in let b = c.count_pins.ensures in
    let k = c.args.self.now.sizes in let slots = c.count_slots-slots.result in let all = c.count_pins.result in
    let notes : HasMore t.notes u.notes = ([], ap (λ (x : View). x.notes) b.kept) in
    let read : HasMore v.read t.read = ([], ap (λ (x : View). x.read) a.kept) in
    let found = Found v u in
    let h : Counts found k all = record {
      slots = slots;
      of_slots = counts_slots (Found v t) found (λ p x. found_later v t u p x notes b.more)
          (first_reserved k) k.slots slots a.counts;
      of_pins = counts_pins (Found t u) found (λ p x. found_since v t u p x a.more read) k.readers slots all b.counts;
    } in
    let same = same_pins found k all h in let few = slots_within found k all h in record {
      table = b.table ∙ a.table;
      moves = moves_moves v t u a.moves b.moves;
      looks = b.kept ∙ ap (λ (x : View). record x { read = u.read }) a.kept
          ∙ ap (λ l. record v { read = u.read; notes = l }) (sym notes.1);
      counts = h;
      all = same.all ∙ slots_all found k all h;
      ordinary = (let is = same.ordinary_free in let few = few.0 in omega arith);
      reserved = (let is = same.reserved_free in let few = few.1 in omega arith);
      pins = same.pinned;
      oldest = same.oldest;
    }
