use Rattle.std.proofs.Common.{◌≡◌, ◌+◌, ◌≤◌, ◌++◌, [], ◌∷◌, sym, ◌∙◌, ap, subst, Some, Option, suc, ℕ, Bool, arith}
use Rattle.std.proofs.Common.{if◌then◌else◌, MatchBool, nat_eq}
use Rattle.group_history.specs.Refs.{stamps}
use Rattle.head_word.specs.declared.entry.Entry.{Entry}
use Rattle.head_word.specs.declared.mark.MarkSeat.{MarkSeat}
use Rattle.head_word.specs.Books.{next_stamp, drafted, AreAfter}
use Rattle.head_word.specs.Tallies.{key_of, mine}
use Rattle.head_word.specs.Marks.{Known, own, own_of}
use Rattle.head_word.specs.Rules.{drafts_say}
use Rattle.head_word.specs.Inside.Seats.{IfHasTally, number_of_seat}
use Rattle.head_word.specs.Inside.Steps.{Taken, AddsEntry, Misses}
use Rattle.head_word.proofs.Stepping.{draft_moves}
use Rattle.head_word.proofs.Owning.{count_told, own_added}
use Rattle.head_word.proofs.head.Head.add_draft.Goals as goal

pub compare_exchange-found-requires : goal.compare_exchange-found-requires
compare_exchange-found-requires g c =
    let words = c.self.invariant.1 in
    let offer = c.offered-offer.ensures in
    let pen = c.no_pen-pen.ensures in
    let asked = c.requires.asked in
    let book = ap (λ (m : Known). m.book) c.mark.view_is ∙
    (c.requires.book ∙ (sym c.self.view_is ∙ sym (ap (λ w. w.book) words))) in
    let seat_is : c.mark.inside.seat ≡ Some c.in-Some.seat = sym c.take.ensures.value ∙ c.in-Some.is in
    let seated = sym (ap (λ (m : Known). m.seat) c.mark.view_is) ∙ ap number_of_seat seat_is in
    let ask_is = offer.1 ∙ (asked.1 ∙ ap (λ (s : Option ℕ). drafted s c.args.first asked.0) seated) in
    let after = subst (λ (m : Known). AreAfter (next_stamp m.log) 0 asked.0) (sym c.mark.view_is) asked.3 in
    let room = subst (λ (n : ℕ). c.args.first + n ≤ stamps) (sym asked.2) c.requires.room in
    let sits = subst (IfHasTally c.mark.inside.seen.names c.mark.inside.seen.log) seat_is c.mark.invariant.1 in (
      ap (λ w. w.tracked) words,
      book,
      pen.0 ∙ book,
      offer.0 ∙ sits.names_are,
      rw (ap (λ w. w.key) words, pen.1, ask_is, offer.3, sym asked.2)
          (draft_moves g.M.Means.means c.mark.inside.seen.log
          (Some c.in-Some.seat.number) asked.0 c.args.first c.mark.invariant.0.1
          (omega arith, omega (arith, sits.among)) after room),
    )

pub returns-clause-own : goal.returns-clause-own
returns-clause-own g c =
    let log = c.mark.inside.seen.log in
    let log' = c.compare_exchange-found.new.seen.log in
    let number = c.in-Some.seat.number in
    let asked = c.requires.asked in
    let ask : Entry = g.P.Plain.ask c.args.about.now in
    let won : Bool = nat_eq c.compare_exchange-found.result c.args.first in
    let seat_is : c.mark.inside.seat ≡ Some c.in-Some.seat = sym c.take.ensures.value ∙ c.in-Some.is in
    let seated = sym (ap (λ (m : Known). m.seat) c.mark.view_is) ∙ ap number_of_seat seat_is in
    let key : key_of ask ≡ suc number = ap key_of
    (asked.1 ∙ ap (λ (s : Option ℕ). drafted s c.args.first asked.0) seated) in
    let sits = subst (IfHasTally c.mark.inside.seen.names log) seat_is c.mark.invariant.1 in
    let offer = c.offered-offer.ensures in
    let step = c.compare_exchange-found.ensures in
    let gain = c.into_gain.ensures in
    let a = c.into_gain.result.answer in
    let told = c.regained.ensures.3 ∙ count_told c.into_gain.result.about ask c.in-Some.seat.tally.count
    (gain.1 ∙ (step.4 ∙ offer.2)) in
    let t : Taken = record {
      ask = ask;
      expected = c.args.first;
      new = c.args.first + c.args.count;
      found = c.compare_exchange-found.result;
      before = log;
      after = log';
      answer = c.compare_exchange-found.new.offer.state;
    } in
    let own' : mine (suc number) log' ≡ mine (suc number) log ++ (if won then ask ∷ [] else []) =
    own_added drafts_say g.M.Means.means (suc number) c.in-Some.seat.tally.count t a won key sits.count_is
    told gain.2 step.6
    (subst (λ (e : Entry). MatchBool won (AddsEntry drafts_say g.M.Means.means (record t { ask = e }))
    (Misses drafts_say (record t { ask = e }))) offer.1 step.7.outcome) in
    let placed = subst (λ (s : Option MarkSeat). mine (suc number) log'
    ≡ own_of (number_of_seat s) log ++ (if won then ask ∷ [] else [])) (sym seat_is) own' in
    subst (λ (m : Known). mine (suc number) log' ≡ own m ++ (if won then ask ∷ [] else [])) c.mark.view_is placed
