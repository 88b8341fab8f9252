use Rattle.std.proofs.Common.{subst, ap, sym, ℕ}
use Rattle.reader_claims.specs.declared.view.View.{View}
use Rattle.reader_claims.specs.declared.words.SlotState.TheVariants.{Live, Retired}
use Rattle.reader_claims.specs.Words.{slot_at, slot_word}
use Rattle.reader_claims.specs.Machine.{Move, left_there}
use Rattle.reader_claims.specs.Seats.{Seated}
use Rattle.reader_claims.proofs.claims.Claims.retire.Goals as goal

pub returns-then-retire-eq-LIVE-clause-step : goal.returns-then-retire-eq-LIVE-clause-step
returns-then-retire-eq-LIVE-clause-step c = let x : ℕ = c.retire.result in
    let y : ℕ = left_there (slot_word Live) (slot_word (Retired c.args.r)) x in
    let u : View = c.retire.new.reader.seat.me.0 in
    let move = subst (λ i. Move c.seat.inside.reader.seat.me.0 (slot_at i) x y u) c.number.ensures
    c.retire.ensures.step in (
      x,
      subst (λ (w : View). Move c.args.seat.now.view (slot_at c.args.slot) x y w)
          (ap (λ (s : Seated). s.view) (sym c.dropped.ensures))
          (subst (λ (v : View). Move v (slot_at c.args.slot) x y u) (ap (λ (s : Seated). s.view) c.seat.view_is) move),
    )
