use Rattle.std.proofs.Common.{◌≡◌, sym, ◌∙◌, ap, subst, Some, Option, suc, []}
use Rattle.head_word.specs.declared.entry.Entry.{Entry}
use Rattle.head_word.specs.declared.mark.MarkSeat.{MarkSeat}
use Rattle.head_word.specs.Books.{drafted}
use Rattle.head_word.specs.Tallies.{key_of, count}
use Rattle.head_word.specs.Marks.{Known, own, own_of}
use Rattle.head_word.specs.Inside.Seats.{IfHasTally, number_of_seat}
use Rattle.head_word.specs.Inside.Steps.{tallied}
use Rattle.head_word.proofs.Stepping.{drafts_counted}
use Rattle.head_word.proofs.Owning.{count_told, own_same}
use Rattle.head_word.proofs.head.Head.next.Goals as goal

pub load-next-requires : goal.load-next-requires
load-next-requires g c =
    let words = c.self.invariant.1 in
    let offer = c.offered-offer.ensures in
    let sits = subst (IfHasTally c.mark.inside.seen.names c.mark.inside.seen.log)
    (sym c.take.ensures.value ∙ c.in-Some.is) c.mark.invariant.1 in (
      ap (λ w. w.tracked) words,
      ap (λ (m : Known). m.book) c.mark.view_is ∙
          (c.requires.book ∙ (sym c.self.view_is ∙ sym (ap (λ w. w.book) words))),
      offer.0 ∙ sits.names_are,
      rw (ap (λ w. w.key) words, offer.1, offer.3)
          (drafts_counted g.M.Means.means c.mark.inside.seen.log
          (drafted (Some c.in-Some.seat.number) 0 []) c.mark.invariant.0.1),
    )

pub returns-clause-own : goal.returns-clause-own
returns-clause-own g c =
    let log = c.mark.inside.seen.log in
    let log' = c.load-next.new.seen.log in
    let number = c.in-Some.seat.number in
    let seat_is : c.mark.inside.seat ≡ Some c.in-Some.seat = sym c.take.ensures.value ∙ c.in-Some.is in
    let sits = subst (IfHasTally c.mark.inside.seen.names log) seat_is c.mark.invariant.1 in
    let offer = c.offered-offer.ensures in
    let load = c.load-next.ensures in
    let gain = c.into_gain.ensures in
    let tally = c.regained.ensures in
    let told = tally.3 ∙ count_told c.into_gain.result.about
    (drafted (Some number) 0 []) c.in-Some.seat.tally.count (gain.1 ∙ (load.4 ∙ offer.2)) in
    let counted = subst (λ (e : Entry). c.load-next.new.offer.state
    ≡ Some (tallied (count (key_of e) log') (count (key_of e) log'))) offer.1 load.6.1.counted in
    own_same (suc number) c.in-Some.seat.tally.count log log' load.5 sits.count_is c.into_gain.result.answer
    (count (suc number) log') (sym gain.2 ∙ counted) told
    ∙ (sym (ap (λ (s : Option MarkSeat). own_of (number_of_seat s) log) seat_is) ∙ ap own c.mark.view_is)
