use Rattle.std.proofs.Common.{◌<◌, refl, arith}
use Rattle.reader_claims.specs.Inside.Known.{view}
use Rattle.reader_claims.specs.Machine as machine
use Rattle.reader_claims.specs.Passes.{retired_at}
use Rattle.reader_claims.specs.declared.view.View.{View}
use Rattle.reader_claims.proofs.Opens.{opened}
use Rattle.reader_claims.proofs.Scans.{later_self, later_offered, taken_offered}
use Rattle.reader_claims.proofs.Moving.{one_move}
use Rattle.reader_claims.proofs.steps.Words.give_if_open.Goals as goal

pub returns-in_default : goal.returns-in_default
returns-in_default c = record { table = refl; moves = machine.still _; later = later_self _; taken = refl }

pub returns-then-reader-r-clause-moves : goal.returns-then-reader-r-clause-moves
returns-then-reader-r-clause-moves c = machine.still _

pub returns-then-reader-r-clause-later : goal.returns-then-reader-r-clause-later
returns-then-reader-r-clause-later c = later_self _

pub give-requires-clause-open_at : goal.give-requires-clause-open_at
give-requires-clause-open_at c =
    let some : 0 < c.in-Retired.r = omega (arith, c.if-reader-r.false) in
    opened (view c.args.reader.now) c.in-Retired.r
    (c.args.reader.now.opens c.in-Retired.r some (omega (arith, c.if-reader-r.false)))

pub returns-clause-moves : goal.returns-clause-moves
returns-clause-moves c = one_move (view c.args.reader.now) (view c.give.new.reader) _ _ _ c.give.ensures.step

pub returns-clause-later : goal.returns-clause-later
returns-clause-later c = let v : View = view c.args.reader.now in let u : View = view c.give.new.reader in
    later_offered c.give.result (retired_at c.in-Retired.r) _ c.in-Retired.r v u c.give.ensures.won c.give.ensures.lost

pub returns-clause-taken : goal.returns-clause-taken
returns-clause-taken c = let v : View = view c.args.reader.now in let u : View = view c.give.new.reader in
    taken_offered c.give.result (retired_at c.in-Retired.r) _ c.in-Retired.r v u c.give.ensures.won c.give.ensures.lost
