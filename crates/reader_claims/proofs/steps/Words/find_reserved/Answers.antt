use Rattle.std.proofs.Math.Logic.{∥∥₁_map}
use Rattle.reader_claims.specs.Inside.Known.{view}
use Rattle.reader_claims.specs.declared.view.View.{View}
use Rattle.reader_claims.specs.Seats.{first_reserved}
use Rattle.reader_claims.proofs.Moving.{moves_moves}
use Rattle.reader_claims.proofs.Options.{known_passed}
use Rattle.reader_claims.proofs.Scans.{known_before, later_looks, later_self}
use Rattle.reader_claims.proofs.steps.Words.find_reserved.Goals as goal

pub returns-then-not-passed-clause-reserve : goal.returns-then-not-passed-clause-reserve
returns-then-not-passed-clause-reserve c = let v : View = view c.args.reader.now in
    let t : View = view c.pass.new.reader in
    known_passed c.pass.result v v t _ _ (later_self v) c.pass.ensures.taken c.pass.ensures.reserve

pub returns-in-Some-clause-reserve : goal.returns-in-Some-clause-reserve
returns-in-Some-clause-reserve c = λ far. let v : View = view c.args.reader.now in
    let u : View = view c.quick_over.new.reader in
    ∥∥₁_map (c.requires.passed c.if-not-passed.false) (known_before v u _ c.quick_over.ensures.later)

pub returns-in-None-clause-moves : goal.returns-in-None-clause-moves
returns-in-None-clause-moves c = let v : View = view c.args.reader.now in
    let u : View = view c.quick_over.new.reader in let t : View = view c.pass-in-None.new.reader in
    moves_moves v u t c.quick_over.ensures.moves c.pass-in-None.ensures.moves

pub returns-in-None-clause-looks : goal.returns-in-None-clause-looks
returns-in-None-clause-looks c = let v : View = view c.args.reader.now in
    let u : View = view c.quick_over.new.reader in let t : View = view c.pass-in-None.new.reader in
    later_looks v u t c.quick_over.ensures.later c.pass-in-None.ensures.looks

pub returns-in-None-clause-reserve : goal.returns-in-None-clause-reserve
returns-in-None-clause-reserve c = let v : View = view c.args.reader.now in
    let u : View = view c.quick_over.new.reader in let t : View = view c.pass-in-None.new.reader in
    known_passed c.pass-in-None.result v u t _ _ c.quick_over.ensures.later c.pass-in-None.ensures.taken
    c.pass-in-None.ensures.reserve
