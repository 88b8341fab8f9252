use Rattle.std.proofs.Common.{◌≤◌, subst}
use Rattle.std.specs.Prelude.{IfSome}
use Rattle.reader_claims.specs.Passes.{KnowsNone}
use Rattle.reader_claims.specs.Seats.{ClaimsId, first_reserved}
use Rattle.reader_claims.specs.declared.view.View.{View}
use Rattle.chunk_slots.proofs.arena.ArenaStore.take_slot.Goals as goal

pub returns-clause-reserve : goal.returns-clause-reserve
returns-clause-reserve g c = λ _. let v : View = c.args.seat.now.view in let u : View = c.take.new.self.view in
    subst (λ (z : ClaimsId). IfSome c.take.result
    (λ slot. first_reserved z.sizes ≤ slot → ∥ KnowsNone v u (first_reserved z.sizes) ∥₁))
    c.requires.seat c.take.ensures.reserve
