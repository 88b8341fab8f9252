use Rattle.std.proofs.Common.{rules, ◌≡◌, suc, refl, ap, ◌∙◌, arith}
use Rattle.reader_claims.specs.declared.view.View.{View}
use Rattle.reader_claims.specs.Machine as machine
use Rattle.reader_claims.proofs.Moving.{moves_moves}
use Rattle.chunk_slots.specs.Seats as seats
use Rattle.chunk_slots.proofs.Pinning.{lost_again, held_at_last, lost_at_last}
use Rattle.chunk_slots.proofs.arena_seat.ArenaSeat.pin.Goals as goal

pub loop-init : goal.loop-init
loop-init c = record {
  table = c.requires;
  same = refl;
  moves = machine.still _;
  kept = refl;
  rose = omega arith;
  few = omega arith;
  lost = (0, omega arith, seats.none _);
}

pub loop-preserved : goal.loop-preserved
loop-preserved c =
    let i = c.loop.invariant in let t = c.try_pin.ensures in let lost = c.if-try_pin.ensures.raised refl in
    let a = lost.1 in let b = lost.2 in let rose = i.rose in
    let at : c.try_pin.new.self.view.reached ≡ c.try_pin.new.self.view.loaded = ap (λ (v : View). v.reached) lost.0 in
    record {
      table = t.table ∙ i.table;
      same = t.table ∙ i.same;
      moves = moves_moves _ _ _ i.moves t.moves;
      kept = lost_again c.args.self.now.view c.loop.self.view c.try_pin.new.self.view i.kept lost;
      rose = omega arith;
      few = let left = c.loop-test.true in omega arith;
      lost = (
        suc i.lost.0,
        let n = i.lost.1 in omega arith,
        seats.more i.lost.0 c.args.self.now.view c.loop.self.view c.try_pin.new.self.view i.lost.2 lost,
      );
    }

pub returns-then-try_pin-clause-moves : goal.returns-then-try_pin-clause-moves
returns-then-try_pin-clause-moves c = moves_moves _ _ _ c.loop.invariant.moves c.try_pin.ensures.moves

pub returns-then-try_pin-2-clause-moves : goal.returns-then-try_pin-2-clause-moves
returns-then-try_pin-2-clause-moves c = search (rules, moves_moves)

pub returns-else-try_pin-2-clause-moves : goal.returns-else-try_pin-2-clause-moves
returns-else-try_pin-2-clause-moves c = moves_moves _ _ _ c.loop.invariant.moves c.try_pin-2.ensures.moves

pub returns-then-try_pin-clause-pin : goal.returns-then-try_pin-clause-pin
returns-then-try_pin-clause-pin c =
    let i = c.loop.invariant in let rose = i.rose in let held = c.if-try_pin.ensures.pinned refl in
    let at = c.loop.auto.counter in let n = i.lost.1 in let left = c.loop-test.true in
    held_at_last c.args.self.now.view c.loop.self.view c.try_pin.new.self.view held.0 i.lost.0 c.args.tries i.kept
    (omega arith) (omega arith) i.lost.2 held.1

pub returns-then-try_pin-2-clause-pin : goal.returns-then-try_pin-2-clause-pin
returns-then-try_pin-2-clause-pin c =
    let i = c.loop.invariant in let rose = i.rose in let held = c.if-try_pin-2.ensures.pinned refl in
    let at = c.loop.auto.counter in let n = i.lost.1 in let few = i.few in
    held_at_last c.args.self.now.view c.loop.self.view c.try_pin-2.new.self.view held.0 i.lost.0 c.args.tries i.kept
    (omega arith) (omega arith) i.lost.2 held.1

pub returns-else-try_pin-2-clause-pin : goal.returns-else-try_pin-2-clause-pin
returns-else-try_pin-2-clause-pin c =
    let i = c.loop.invariant in let rose = i.rose in let lost = c.if-try_pin-2.ensures.raised refl in
    let at = c.loop.auto.counter in let n = i.lost.1 in let few = i.few in
    let done = c.loop-test.false in
    lost_at_last c.args.self.now.view c.loop.self.view c.try_pin-2.new.self.view c.args.tries i.lost.0 i.kept
    (omega arith) (omega arith) i.lost.2 lost
