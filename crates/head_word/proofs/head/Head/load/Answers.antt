use Rattle.std.proofs.Common.{rules, ◌≡◌, sym, ◌∙◌, ap, subst, Some, Option, suc, []}
use Rattle.head_word.specs.declared.entry.Entry.{Entry}
use Rattle.head_word.specs.declared.mark.MarkSeat.{MarkSeat}
use Rattle.head_word.specs.Books.{drafted}
use Rattle.head_word.specs.Tallies.{key_of, count}
use Rattle.head_word.specs.Marks.{Known, own, own_of}
use Rattle.head_word.specs.Inside.Seats.{IfHasTally, number_of_seat}
use Rattle.head_word.specs.Inside.Steps.{tallied}
use Rattle.head_word.proofs.Stepping.{head_counted}
use Rattle.head_word.proofs.Owning.{count_told, own_same}
use Rattle.head_word.proofs.head.Head.load.Goals as goal

pub load-bits-requires : goal.load-bits-requires
load-bits-requires g c =
    let words = c.self.invariant.0 in
    let offer = c.offered-offer.ensures in
    let sits = subst (IfHasTally c.mark.inside.seen.names c.mark.inside.seen.log)
    (sym c.take.ensures.value ∙ c.in-Some.is) c.mark.invariant.1 in (
      ap (λ w. w.tracked) words,
      ap (λ (m : Known). m.book) c.mark.view_is ∙ (c.requires.book ∙ sym c.self.view_is),
      offer.0 ∙ sits.names_are,
      rw (ap (λ w. w.key) words, offer.1, offer.3)
          (head_counted g.M.Means.means c.mark.inside.seen.log
          (drafted (Some c.in-Some.seat.number) 0 []) c.mark.invariant.0.1),
    )

pub returns-in-Some-clause-own : goal.returns-in-Some-clause-own
returns-in-Some-clause-own g c =
    let log = c.mark.inside.seen.log in
    let log' = c.load-bits.new.seen.log in
    let number = c.in-Some.seat.number in
    let seat_is : c.mark.inside.seat ≡ Some c.in-Some.seat = sym c.take.ensures.value ∙ c.in-Some.is in
    let sits = subst (IfHasTally c.mark.inside.seen.names log) seat_is c.mark.invariant.1 in
    let offer = c.offered-offer.ensures in
    let load = c.load-bits.ensures in
    let gain = c.into_gain.ensures in
    let tally = c.regained.ensures in
    let told = tally.3 ∙ count_told c.into_gain.result.about
    (drafted (Some number) 0 []) c.in-Some.seat.tally.count (gain.1 ∙ (load.4 ∙ offer.2)) in
    let counted = subst (λ (e : Entry). c.load-bits.new.offer.state
    ≡ Some (tallied (count (key_of e) log') (count (key_of e) log'))) offer.1 load.6.1.counted in
    own_same (suc number) c.in-Some.seat.tally.count log log' load.5 sits.count_is c.into_gain.result.answer
    (count (suc number) log') (sym gain.2 ∙ counted) told
    ∙ (sym (ap (λ (s : Option MarkSeat). own_of (number_of_seat s) log) seat_is) ∙ ap own c.mark.view_is)

pub returns-in-Some-clause-last : goal.returns-in-Some-clause-last
returns-in-Some-clause-last g c = search rules
