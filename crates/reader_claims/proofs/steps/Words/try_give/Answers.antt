use Rattle.std.proofs.Common.{◌≢◌, sym, subst, ◌∙◌, inl, inr, eqb-true, eq-eqb, true≢false}
use Rattle.reader_claims.specs.Inside.Known.{view}
use Rattle.reader_claims.specs.Views.{IsOpen}
use Rattle.reader_claims.specs.declared.view.View.{View}
use Rattle.reader_claims.specs.declared.words.SlotState.TheVariants.{Retired}
use Rattle.reader_claims.specs.Words.{slot_word}
use Rattle.reader_claims.proofs.Scans.{given_passed, noted_passed}
use Rattle.reader_claims.proofs.Moving.{moves_moves, one_move}
use Rattle.reader_claims.proofs.steps.Words.try_give.Goals as goal

pub give-requires-clause-open_at : goal.give-requires-clause-open_at
give-requires-clause-open_at c = c.open_below-highest.ensures.open_at c.in-Retired.r c.if-highest-r.false

pub returns-clause-given : goal.returns-clause-given
returns-clause-given c = λ is. let r = c.in-Retired.r in let v : View = view c.args.reader.now in
    let q : View = view c.open_below-highest.new.reader in let u : View = view c.give.new.reader in
    let won = c.give.ensures.won (eqb-true _ _ is ∙ c.word.ensures) in (
      r,
      subst (λ (y : View). IsOpen y r) (sym won) (c.open_below-highest.ensures.open_at r c.if-highest-r.false),
      given_passed v q u c.args.slot r c.open_below-highest.ensures.view won,
    )

pub returns-clause-moves : goal.returns-clause-moves
returns-clause-moves c = let v : View = view c.args.reader.now in let u : View = view c.open_below-highest.new.reader in
    let t : View = view c.give.new.reader in
    moves_moves v u t c.open_below-highest.ensures.moves (one_move u t _ _ _ c.give.ensures.step)

pub returns-in_default-clause-not_given : goal.returns-in_default-clause-not_given
returns-in_default-clause-not_given c = λ no. inl c.open_below-highest.ensures.view

pub returns-then-highest-r-clause-not_given : goal.returns-then-highest-r-clause-not_given
returns-then-highest-r-clause-not_given c = λ no. inl c.open_below-highest.ensures.view

pub returns-clause-not_given : goal.returns-clause-not_given
returns-clause-not_given c = λ no. let r = c.in-Retired.r in let v : View = view c.args.reader.now in
    let q : View = view c.open_below-highest.new.reader in let u : View = view c.give.new.reader in
    let ne : c.give.result ≢ slot_word (Retired r) = λ e. true≢false (sym (eq-eqb _ _ (e ∙ sym c.word.ensures)) ∙ no) in
    inr (
      r,
      c.give.result,
      ne,
      noted_passed v q u c.args.slot
          (slot_word (Retired r)) c.give.result c.open_below-highest.ensures.view (c.give.ensures.lost ne),
    )
