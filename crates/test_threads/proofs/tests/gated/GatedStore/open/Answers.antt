use Rattle.std.proofs.Common.{◌≡◌, subst, sym}
use Rattle.chunk_slots.specs.Seats.{IsIdle, IsOpening}
use Rattle.test_threads.proofs.Numbering.{all_borne, map_borne}
use Rattle.test_threads.proofs.tests.gated.GatedStore.open.Goals as goal

pub returns-clause-seats : goal.returns-clause-seats
returns-clause-seats g c =
    let S = g.S.Slots in
    all_borne (λ seat. (S.home seat ≡ S.serves c.in_ok-store.store) × (S.reused → IsIdle (S.view seat)))
    (λ numbered. numbered.seat) c.in_ok-numbered.numbered.items c.in_ok-store.dealt.items c.in_ok-numbered.ensures
    c.in_ok-store.ensures.seats

pub returns-clause-marks : goal.returns-clause-marks
returns-clause-marks g c =
    let S = g.S.Slots in let marks = c.in_ok-store.ensures.marks in (
      marks.0,
      marks.1,
      λ used. subst (λ views. IsOpening (S.serves c.in_ok-store.store).sizes views marks.0)
          (sym (map_borne (λ numbered. numbered.seat) S.view c.in_ok-numbered.numbered.items
          c.in_ok-store.dealt.items c.in_ok-numbered.ensures)) (marks.2 used),
    )
