use Rattle.std.proofs.Common.{◌≤◌, ap, sym, subst, rules}
use Rattle.std.specs.Prelude.{IfSome}
use Rattle.reader_claims.specs.Passes.{KnowsNone}
use Rattle.reader_claims.specs.Seats.{ClaimsId, Seated, first_reserved}
use Rattle.reader_claims.specs.declared.view.View.{View}
use Rattle.chunk_slots.proofs.arena_seat.ArenaSeat.take.Goals as goal

pub returns-clause-moves : goal.returns-clause-moves
returns-clause-moves c = search rules

pub returns-clause-taken : goal.returns-clause-taken
returns-clause-taken c = search rules

pub returns-clause-none : goal.returns-clause-none
returns-clause-none c = search rules

pub returns-clause-reserve : goal.returns-clause-reserve
returns-clause-reserve c = let v : View = c.self.inside.seat.view in let u : View = c.take_slot.new.seat.view in
    let first = first_reserved c.args.claims.now.sizes in
    let here : IfSome c.match-take_slot.result (λ slot. first ≤ slot → ∥ KnowsNone v u first ∥₁) = search rules in
    subst (λ (z : ClaimsId). IfSome c.match-take_slot.result
    (λ slot. first_reserved z.sizes ≤ slot → ∥ KnowsNone c.args.self.now.view u (first_reserved z.sizes) ∥₁))
    (sym c.requires)
    (subst (λ (w : View). IfSome c.match-take_slot.result (λ slot. first ≤ slot → ∥ KnowsNone w u first ∥₁))
    (ap (λ (s : Seated). s.view) c.self.view_is) here)
