use Rattle.std.proofs.Common.{subst, rules}
use Rattle.reader_claims.specs.Passes.{Raises}
use Rattle.reader_claims.specs.Seats.{Seated}
use Rattle.reader_claims.proofs.Raising.{loads_only, loads_and_raises}
use Rattle.chunk_slots.proofs.Claiming.{one_from, two_from}
use Rattle.chunk_slots.proofs.arena_seat.ArenaSeat.raise.Goals as goal

pub returns-then-n-ge-LAST_EPOCH-clause-moves : goal.returns-then-n-ge-LAST_EPOCH-clause-moves
returns-then-n-ge-LAST_EPOCH-clause-moves c = one_from c.self.inside.seat c.args.self.now c.epoch-n.new.seat.view _ _ _
    c.self.view_is c.epoch-n.ensures.step

pub returns-clause-moves : goal.returns-clause-moves
returns-clause-moves c =
    two_from c.self.inside.seat c.args.self.now c.epoch-n.new.seat.view c.raise.new.seat.view _ _ _ _ _ _ c.self.view_is
    c.epoch-n.ensures.step c.raise.ensures.step.1

pub returns-then-n-ge-LAST_EPOCH-clause-kept : goal.returns-then-n-ge-LAST_EPOCH-clause-kept
returns-then-n-ge-LAST_EPOCH-clause-kept c = subst
    (λ (s : Seated). Raises s.view c.epoch-n.new.seat.view) c.self.view_is
    (loads_only c.self.inside.seat.view c.epoch-n.new.seat.view _ c.epoch-n.ensures.view c.epoch-n.ensures.bound.0)

pub returns-clause-kept : goal.returns-clause-kept
returns-clause-kept c = subst (λ (s : Seated). Raises s.view c.raise.new.seat.view) c.self.view_is
    (loads_and_raises c.self.inside.seat.view c.epoch-n.new.seat.view c.raise.new.seat.view _ _ c.epoch-n.ensures.view
    c.epoch-n.ensures.bound.0 c.raise.ensures.view c.raise.ensures.reached.1)

pub returns-clause-raised : goal.returns-clause-raised
returns-clause-raised c = search rules
