use Rattle.std.proofs.Common.{◌<◌, sym, ◌∙◌, arith}
use Rattle.reader_claims.specs.Inside.Known.{view}
use Rattle.reader_claims.specs.Machine as machine
use Rattle.reader_claims.specs.declared.view.View.{View}
use Rattle.reader_claims.proofs.Opens.{opened}
use Rattle.reader_claims.proofs.Scans.{later_given, later_later, later_note, later_self, later_tried}
use Rattle.reader_claims.proofs.Moving.{moves_moves, one_move}
use Rattle.reader_claims.proofs.steps.Words.quick_give.Goals as goal

pub returns-then-r-eq0-clause-moves : goal.returns-then-r-eq0-clause-moves
returns-then-r-eq0-clause-moves c = machine.still _

pub returns-then-r-eq0-clause-later : goal.returns-then-r-eq0-clause-later
returns-then-r-eq0-clause-later c = later_self _

pub give-requires-clause-open_at : goal.give-requires-clause-open_at
give-requires-clause-open_at c =
    let some : 0 < c.args.r = omega (arith, c.if-r-eq0.false) in
    opened (view c.args.reader.now) c.args.r
    (c.args.reader.now.opens c.args.r some (omega (arith, c.if-reader-r.false)))

pub returns-then-give-word-clause-moves : goal.returns-then-give-word-clause-moves
returns-then-give-word-clause-moves c =
    one_move (view c.args.reader.now) (view c.give.new.reader) _ _ _ c.give.ensures.step

pub returns-then-give-word-clause-later : goal.returns-then-give-word-clause-later
returns-then-give-word-clause-later c =
    let v : View = view c.args.reader.now in let u : View = view c.give.new.reader in
    later_note v u _ _ _ (c.give.ensures.lost (λ e. c.if-give-word.true (e ∙ sym c.word.ensures)))

pub returns-then-take-eq-FREE-clause-moves : goal.returns-then-take-eq-FREE-clause-moves
returns-then-take-eq-FREE-clause-moves c =
    let v : View = view c.args.reader.now in let u : View = view c.give.new.reader in
    let t : View = view c.take.new.reader in
    moves_moves v u t (one_move v u _ _ _ c.give.ensures.step) (one_move u t _ _ _ c.take.ensures.step)

pub returns-else-take-eq-FREE-clause-moves : goal.returns-else-take-eq-FREE-clause-moves
returns-else-take-eq-FREE-clause-moves c =
    let v : View = view c.args.reader.now in let u : View = view c.give.new.reader in
    let t : View = view c.take.new.reader in
    moves_moves v u t (one_move v u _ _ _ c.give.ensures.step) (one_move u t _ _ _ c.take.ensures.step)

pub returns-then-take-eq-FREE-clause-later : goal.returns-then-take-eq-FREE-clause-later
returns-then-take-eq-FREE-clause-later c =
    let v : View = view c.args.reader.now in let u : View = view c.give.new.reader in
    let t : View = view c.take.new.reader in
    later_later v u t (later_given v u _ _ (c.give.ensures.won (c.if-give-word.false ∙ c.word.ensures)))
    (later_tried c.take.result _ u t c.take.ensures.won c.take.ensures.lost)

pub returns-else-take-eq-FREE-clause-later : goal.returns-else-take-eq-FREE-clause-later
returns-else-take-eq-FREE-clause-later c =
    let v : View = view c.args.reader.now in let u : View = view c.give.new.reader in
    let t : View = view c.take.new.reader in
    later_later v u t (later_given v u _ _ (c.give.ensures.won (c.if-give-word.false ∙ c.word.ensures)))
    (later_tried c.take.result _ u t c.take.ensures.won c.take.ensures.lost)
