use Rattle.std.proofs.Common.{◌≡◌, sym, ◌∙◌, ◌≢◌, eq-eqb, eqb-true, true≢false}
use Rattle.reader_claims.specs.Inside.Known.{view}
use Rattle.reader_claims.specs.Words.{slot_word}
use Rattle.reader_claims.specs.declared.words.SlotState.TheVariants.{Retired}
use Rattle.reader_claims.specs.declared.view.View.{View}
use Rattle.reader_claims.proofs.Scans.{open_later, closed_later, later_note, later_given, later_later, later_tried}
use Rattle.reader_claims.proofs.Scans.{shut_at_once, shut_as_closed, shut_at_give, shut_after_give, shut_since}
use Rattle.reader_claims.proofs.Scans.{taken_after_give}
use Rattle.reader_claims.proofs.Moving.{one_move, moves_moves}
use Rattle.reader_claims.proofs.steps.Words.try_slot.Goals as goal

pub returns-in_default : goal.returns-in_default
returns-in_default c = let lost = c.take_if_free-found.ensures.lost c.if-found-eq-FREE.false in
    let v : View = view c.args.reader.now in let u : View = view c.take_if_free-found.new.reader in record {
      table = c.take_if_free-found.ensures.table;
      moves = c.take_if_free-found.ensures.moves;
      later = c.take_if_free-found.ensures.later;
      taken = λ no. absurd (true≢false (sym no));
      shut = λ no. shut_since _ v lost.0 u lost.2 (shut_at_once _ _ lost.0 u c.of_word.result lost.3
          c.of_word.ensures.word lost.4 c.if-found-eq-FREE.false c.in_default.not-Retired);
    }

pub returns-then-bound-r-clause-later : goal.returns-then-bound-r-clause-later
returns-then-bound-r-clause-later c = c.take_if_free-found.ensures.later

pub returns-then-bound-r-clause-shut : goal.returns-then-bound-r-clause-shut
returns-then-bound-r-clause-shut c = λ no. let lost = c.take_if_free-found.ensures.lost c.if-found-eq-FREE.false in
    let v : View = view c.args.reader.now in let u : View = view c.take_if_free-found.new.reader in
    shut_since _ v lost.0 u lost.2
    (shut_as_closed _ c.in-Retired.r _ lost.0 u lost.3 (sym c.in-Retired.ensures.word)
    (closed_later _ v u c.take_if_free-found.ensures.later (c.requires.above c.in-Retired.r c.if-bound-r.true)))

pub give-requires-clause-open_at : goal.give-requires-clause-open_at
give-requires-clause-open_at c = let v : View = view c.args.reader.now in
    let u : View = view c.take_if_free-found.new.reader in
    open_later _ v u c.take_if_free-found.ensures.later (c.requires.below c.in-Retired.r c.if-bound-r.false)

pub returns-then-give-found-clause-later : goal.returns-then-give-found-clause-later
returns-then-give-found-clause-later c = let v : View = view c.args.reader.now in
    let u : View = view c.take_if_free-found.new.reader in let t : View = view c.give.new.reader in
    let lost = c.give.ensures.lost (λ e. c.if-give-found.true (e ∙ c.in-Retired.ensures.word)) in
    later_later v u t c.take_if_free-found.ensures.later (later_note u t _ _ _ lost)

pub returns-then-give-found-clause-shut : goal.returns-then-give-found-clause-shut
returns-then-give-found-clause-shut c = λ no. let v : View = view c.args.reader.now in
    let u : View = view c.take_if_free-found.new.reader in let t : View = view c.give.new.reader in
    let lost = c.take_if_free-found.ensures.lost c.if-found-eq-FREE.false in
    let ne : c.give.result ≢ slot_word (Retired c.in-Retired.r) = λ e. c.if-give-found.true
    (e ∙ c.in-Retired.ensures.word) in
    shut_since _ v lost.0 t lost.2
    (shut_at_give _ c.in-Retired.r _ _ lost.0 u t lost.3 (sym c.in-Retired.ensures.word) ne (c.give.ensures.lost ne))

pub returns-clause-later : goal.returns-clause-later
returns-clause-later c = let v : View = view c.args.reader.now in
    let u : View = view c.take_if_free-found.new.reader in
    let t : View = view c.give.new.reader in let x : View = view c.take.new.reader in
    let won = c.give.ensures.won (c.if-give-found.false ∙ sym c.in-Retired.ensures.word) in
    later_later v u x c.take_if_free-found.ensures.later (later_later u t x (later_given u t _ _ won)
    (later_tried c.take.result _ t x c.take.ensures.won c.take.ensures.lost))

pub returns-clause-shut : goal.returns-clause-shut
returns-clause-shut c = λ no. let v : View = view c.args.reader.now in
    let u : View = view c.take_if_free-found.new.reader in
    let t : View = view c.give.new.reader in let x : View = view c.take.new.reader in
    let lost = c.take_if_free-found.ensures.lost c.if-found-eq-FREE.false in
    let ne : c.take.result ≢ 0 = λ e. true≢false (sym (eq-eqb _ _ e) ∙ no) in
    let won = c.give.ensures.won (c.if-give-found.false ∙ sym c.in-Retired.ensures.word) in
    shut_since _ v lost.0 x lost.2
    (shut_after_give _ c.in-Retired.r _ _ lost.0 u t x lost.3 (sym c.in-Retired.ensures.word) won ne
    (c.take.ensures.lost ne))

pub returns-then-give-found-clause-moves : goal.returns-then-give-found-clause-moves
returns-then-give-found-clause-moves c = let v : View = view c.args.reader.now in
    let u : View = view c.take_if_free-found.new.reader in let t : View = view c.give.new.reader in
    moves_moves v u t c.take_if_free-found.ensures.moves (one_move u t _ _ _ c.give.ensures.step)

pub returns-clause-moves : goal.returns-clause-moves
returns-clause-moves c = let v : View = view c.args.reader.now in
    let u : View = view c.take_if_free-found.new.reader in
    let t : View = view c.give.new.reader in let x : View = view c.take.new.reader in
    moves_moves v t x (moves_moves v u t c.take_if_free-found.ensures.moves (one_move u t _ _ _ c.give.ensures.step))
    (one_move t x _ _ _ c.take.ensures.step)

pub returns-clause-taken : goal.returns-clause-taken
returns-clause-taken c = λ yes. let v : View = view c.args.reader.now in
    let u : View = view c.take_if_free-found.new.reader in
    let t : View = view c.give.new.reader in let x : View = view c.take.new.reader in
    let free : c.take.result ≡ 0 = eqb-true _ _ yes in
    taken_after_give v u t x _ _ _ (c.take_if_free-found.ensures.lost c.if-found-eq-FREE.false)
    (c.give.ensures.won (c.if-give-found.false ∙ sym c.in-Retired.ensures.word)) (c.take.ensures.fresh free)
    (c.take.ensures.won free)
