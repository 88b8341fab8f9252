use Rattle.std.proofs.Common.{subst, ◌≤◌}
use Rattle.reader_claims.specs.Inside.Known.{view}
use Rattle.reader_claims.specs.declared.view.View.{View}
use Rattle.reader_claims.specs.Seats.{first_reserved, kind_end}
use Rattle.reader_claims.specs.Passes.{AreShut, FindsNone}
use Rattle.reader_claims.proofs.Scans.{open_later, closed_later, later_later, looks_over, passed_over, passed_ordinary}
use Rattle.reader_claims.proofs.Options.{none_then, some_always}
use Rattle.reader_claims.proofs.Moving.{moves_moves}
use Rattle.reader_claims.proofs.steps.Words.pass.Goals as goal

pub scan_ahead-requires-2-clause-below : goal.scan_ahead-requires-2-clause-below
scan_ahead-requires-2-clause-below c = λ r h. let v : View = view c.open_below-bound.new.reader in
    let u : View = view c.scan_ahead.new.reader in
    open_later r v u c.scan_ahead.ensures.later (c.open_below-bound.ensures.open_at r h)

pub scan_ahead-requires-2-clause-above : goal.scan_ahead-requires-2-clause-above
scan_ahead-requires-2-clause-above c = λ r h. let v : View = view c.open_below-bound.new.reader in
    let u : View = view c.scan_ahead.new.reader in
    closed_later r v u c.scan_ahead.ensures.later (c.open_below-bound.ensures.shut_at r h)

pub scan-requires-clause-below : goal.scan-requires-clause-below
scan-requires-clause-below c = λ r h. let v : View = view c.open_below-bound.new.reader in
    let u : View = view c.scan_ahead.new.reader in let t : View = view c.scan_ahead-2.new.reader in
    open_later r v t (later_later v u t c.scan_ahead.ensures.later c.scan_ahead-2.ensures.later)
    (c.open_below-bound.ensures.open_at r h)

pub scan-requires-clause-above : goal.scan-requires-clause-above
scan-requires-clause-above c = λ r h. let v : View = view c.open_below-bound.new.reader in
    let u : View = view c.scan_ahead.new.reader in let t : View = view c.scan_ahead-2.new.reader in
    closed_later r v t (later_later v u t c.scan_ahead.ensures.later c.scan_ahead-2.ensures.later)
    (c.open_below-bound.ensures.shut_at r h)

pub returns-clause-none : goal.returns-clause-none
returns-clause-none c = let old : View = view c.args.reader.now in let v : View = view c.open_below-bound.new.reader in
    let a : View = view c.scan_ahead.new.reader in let b : View = view c.scan_ahead-2.new.reader in
    let t : View = view c.scan.new.reader in
    let k = c.args.self.now.sizes in let begin = c.args.begin in let ordinary = c.ordinary-ordinary.result in
    let end = c.end_of.result in
    none_then c.scan.result (AreShut t.taken ordinary end t) (FindsNone old t (kind_end k c.args.kind))
    (λ shut. subst (FindsNone old t) c.end_of.ensures.0
    (passed_over old v a b t begin ordinary end c.open_below-bound.ensures.view c.open_below-bound.ensures.read
    c.scan_ahead.ensures.later c.scan_ahead-2.ensures.later c.scan.ensures.later c.in_default.ensures.shut
    c.in_default-scan_ahead.ensures.shut shut))
    c.scan.ensures.shut

pub returns-clause-reserve : goal.returns-clause-reserve
returns-clause-reserve c = let old : View = view c.args.reader.now in
    let v : View = view c.open_below-bound.new.reader in let a : View = view c.scan_ahead.new.reader in
    let b : View = view c.scan_ahead-2.new.reader in let t : View = view c.scan.new.reader in
    let k = c.args.self.now.sizes in let begin = c.args.begin in let ordinary = c.ordinary-ordinary.result in
    some_always c.scan.result (λ i. first_reserved k ≤ i → FindsNone old t (first_reserved k))
    (λ i over. subst (FindsNone old t) c.ordinary-ordinary.ensures.0
    (passed_ordinary old v a b t begin ordinary c.open_below-bound.ensures.view c.open_below-bound.ensures.read
    c.scan_ahead.ensures.later c.scan_ahead-2.ensures.later c.scan.ensures.later c.in_default.ensures.shut
    c.in_default-scan_ahead.ensures.shut))

pub returns-in-Some-clause-moves : goal.returns-in-Some-clause-moves
returns-in-Some-clause-moves c = let old : View = view c.args.reader.now in
    let v : View = view c.open_below-bound.new.reader in let a : View = view c.scan_ahead.new.reader in
    moves_moves old v a c.open_below-bound.ensures.moves c.scan_ahead.ensures.moves

pub returns-in-Some-scan_ahead-clause-moves : goal.returns-in-Some-scan_ahead-clause-moves
returns-in-Some-scan_ahead-clause-moves c = let old : View = view c.args.reader.now in
    let v : View = view c.open_below-bound.new.reader in let a : View = view c.scan_ahead.new.reader in
    let b : View = view c.scan_ahead-2.new.reader in
    moves_moves old v b c.open_below-bound.ensures.moves
    (moves_moves v a b c.scan_ahead.ensures.moves c.scan_ahead-2.ensures.moves)

pub returns-clause-moves : goal.returns-clause-moves
returns-clause-moves c = let old : View = view c.args.reader.now in let v : View = view c.open_below-bound.new.reader in
    let a : View = view c.scan_ahead.new.reader in let b : View = view c.scan_ahead-2.new.reader in
    let t : View = view c.scan.new.reader in
    moves_moves old v t c.open_below-bound.ensures.moves
    (moves_moves v b t (moves_moves v a b c.scan_ahead.ensures.moves c.scan_ahead-2.ensures.moves) c.scan.ensures.moves)

pub returns-in-Some-clause-looks : goal.returns-in-Some-clause-looks
returns-in-Some-clause-looks c = looks_over (view c.args.reader.now) (view c.open_below-bound.new.reader)
    (view c.scan_ahead.new.reader) c.open_below-bound.ensures.view c.open_below-bound.ensures.reached
    c.scan_ahead.ensures.later

pub returns-in-Some-scan_ahead-clause-looks : goal.returns-in-Some-scan_ahead-clause-looks
returns-in-Some-scan_ahead-clause-looks c = let v : View = view c.open_below-bound.new.reader in
    let a : View = view c.scan_ahead.new.reader in let b : View = view c.scan_ahead-2.new.reader in
    looks_over (view c.args.reader.now) v b c.open_below-bound.ensures.view c.open_below-bound.ensures.reached
    (later_later v a b c.scan_ahead.ensures.later c.scan_ahead-2.ensures.later)

pub returns-clause-looks : goal.returns-clause-looks
returns-clause-looks c = let v : View = view c.open_below-bound.new.reader in
    let a : View = view c.scan_ahead.new.reader in let b : View = view c.scan_ahead-2.new.reader in
    let t : View = view c.scan.new.reader in
    looks_over (view c.args.reader.now) v t c.open_below-bound.ensures.view c.open_below-bound.ensures.reached
    (later_later v b t (later_later v a b c.scan_ahead.ensures.later c.scan_ahead-2.ensures.later) c.scan.ensures.later)
