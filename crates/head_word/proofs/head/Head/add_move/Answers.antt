use Rattle.std.proofs.Common.{◌≡◌, ◌≢◌, ◌++◌, [], ◌∷◌, List, sym, refl, ◌∙◌, ap, subst, Some, Option, ℕ, suc, Bool}
use Rattle.std.proofs.Common.{if◌then◌else◌, MatchBool, nat_eq, arith}
use mathlib.Core.List.{IsPrefix}
use Rattle.head_word.specs.declared.entry.Entry.{Entry}
use Rattle.head_word.specs.declared.mark.MarkSeat.{MarkSeat}
use Rattle.head_word.specs.Books.{drawn, last_move, moved, IsChangeFrom, IsOpened}
use Rattle.head_word.specs.Tallies.{mine}
use Rattle.head_word.specs.Marks.{Known, own, own_of}
use Rattle.head_word.specs.Rules.{head_says}
use Rattle.head_word.specs.Inside.Seats.{IfHasTally, number_of_seat}
use Rattle.head_word.specs.Inside.Steps.{Taken, AddsEntry, Misses}
use Rattle.head_word.proofs.Stepping.{move_moves}
use Rattle.head_word.proofs.Owning.{count_told, own_added, move_told}
use Rattle.head_word.proofs.head.Head.add_move.Goals as goal

pub compare_exchange-found-requires : goal.compare_exchange-found-requires
compare_exchange-found-requires g c =
    let means = g.M.Means.means in
    let words = c.self.invariant.0 in
    let offer = c.offered-offer.ensures in
    let pen = c.no_pen-pen.ensures in
    let book = ap (λ (m : Known). m.book) c.mark.view_is ∙ (c.requires.book ∙ sym c.self.view_is) in
    let follows : IsChangeFrom means (drawn c.mark.inside.seen.log) c.args.base c.args.new c.args.change.now = subst
    (λ (m : Known). IsChangeFrom means (drawn m.log) c.args.base c.args.new c.args.change.now)
    (sym c.mark.view_is) c.requires.follows in
    let sits = subst (IfHasTally c.mark.inside.seen.names c.mark.inside.seen.log)
    (sym c.take.ensures.value ∙ c.in-Some.is) c.mark.invariant.1 in (
      ap (λ w. w.tracked) words,
      book,
      pen.0 ∙ book,
      offer.0 ∙ sits.names_are,
      rw (ap (λ w. w.key) words, pen.1, offer.1, offer.3, c.bits-from.ensures, c.bits-to.ensures)
          (move_moves means c.mark.inside.seen.log
          (Some c.in-Some.seat.number) c.args.base c.args.new c.args.change.now c.mark.invariant.0.1
          (omega arith, omega (arith, sits.among)) follows),
    )

pub returns-clause-own : goal.returns-clause-own
returns-clause-own g c =
    let log = c.mark.inside.seen.log in
    let log' = c.compare_exchange-found.new.seen.log in
    let number = c.in-Some.seat.number in
    let ask = moved (Some number) c.args.new c.args.change.now in
    let won : Bool = nat_eq c.compare_exchange-found.result c.bits-from.result in
    let seat_is : c.mark.inside.seat ≡ Some c.in-Some.seat = sym c.take.ensures.value ∙ c.in-Some.is in
    let sits = subst (IfHasTally c.mark.inside.seen.names log) seat_is c.mark.invariant.1 in
    let offer = c.offered-offer.ensures in
    let step = c.compare_exchange-found.ensures in
    let gain = c.into_gain.ensures in
    let a = c.into_gain.result.answer in
    let told = c.regained.ensures.3 ∙ count_told c.into_gain.result.about ask c.in-Some.seat.tally.count
    (gain.1 ∙ (step.4 ∙ offer.2)) in
    let t : Taken = record {
      ask = ask;
      expected = c.bits-from.result;
      new = c.bits-to.result;
      found = c.compare_exchange-found.result;
      before = log;
      after = log';
      answer = c.compare_exchange-found.new.offer.state;
    } in
    let own' : mine (suc number) log' ≡ mine (suc number) log ++ (if won then ask ∷ [] else []) =
    own_added head_says g.M.Means.means (suc number) c.in-Some.seat.tally.count t a won refl sits.count_is
    told gain.2 step.6
    (subst (λ (e : Entry). MatchBool won (AddsEntry head_says g.M.Means.means (record t { ask = e }))
    (Misses head_says (record t { ask = e }))) offer.1 step.7.outcome) in
    let placed = subst (λ (s : Option MarkSeat). mine (suc number) log'
    ≡ own_of (number_of_seat s) log ++ (if won then moved (number_of_seat s) c.args.new c.args.change.now
    ∷ [] else [])) (sym seat_is) own' in
    subst (λ (m : Known). mine (suc number) log'
    ≡ own m ++ (if won then moved m.seat c.args.new c.args.change.now ∷ [] else [])) c.mark.view_is placed

pub returns-clause-added : goal.returns-clause-added
returns-clause-added g c =
    let means = g.M.Means.means in
    let log' = c.compare_exchange-found.new.seen.log in
    let ask = moved (Some c.in-Some.seat.number) c.args.new c.args.change.now in
    let won : Bool = nat_eq c.compare_exchange-found.result c.bits-from.result in
    let seat_is : c.mark.inside.seat ≡ Some c.in-Some.seat = sym c.take.ensures.value ∙ c.in-Some.is in
    let seated : Some c.in-Some.seat.number
    ≡ c.args.mark.now.seat = sym (ap number_of_seat seat_is) ∙ ap (λ (m : Known). m.seat) c.mark.view_is in
    let t : Taken = record {
      ask = ask;
      expected = c.bits-from.result;
      new = c.bits-to.result;
      found = c.compare_exchange-found.result;
      before = c.mark.inside.seen.log;
      after = log';
      answer = c.compare_exchange-found.new.offer.state;
    } in
    let told = move_told means t c.args.base won c.bits-from.ensures refl
    (subst (λ (e : Entry). MatchBool won (AddsEntry head_says means (record t { ask = e }))
    (Misses head_says (record t { ask = e }))) c.offered-offer.ensures.1
    c.compare_exchange-found.ensures.7.outcome) in
    let here = subst (λ (m : Known). MatchBool won
    ((log : List Entry) × IsPrefix m.log log × IsOpened means log × (last_move log ≡ c.args.base)
    × (log' ≡ log ++ ask ∷ [])) (last_move log' ≢ c.args.base)) c.mark.view_is told in
    subst (λ (s : Option ℕ). MatchBool won
    ((log : List Entry) × IsPrefix c.args.mark.now.log log × IsOpened means log × (last_move log ≡ c.args.base)
    × (log' ≡ log ++ moved s c.args.new c.args.change.now ∷ [])) (last_move log' ≢ c.args.base)) seated here
