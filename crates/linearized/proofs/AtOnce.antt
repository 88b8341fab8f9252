-- The point of a call beside which nobody moved the head.
use Rattle.std.proofs.Common.{◌≡◌, ℕ, suc, List, [], ◌∷◌, ◌++◌, length, Option, Some, None, refl, ap, sym, ◌∙◌, arith}
use Rattle.std.proofs.Common.{length-append}
use Rattle.std.proofs.lemmas.List.{append-nil}
use Rattle.group_history.specs.declared.changes.Change.{Change}
use Rattle.group_history.specs.declared.refs.Ref.{Ref}
use Rattle.group_history.specs.Meaning.{Meanings}
use Rattle.head_word.specs.declared.entry.Entry.{Entry}
use Rattle.head_word.specs.Books.{record_of, with_change}
use Rattle.head_word.proofs.BookLaws.{record_begins}
use Rattle.head_word.proofs.Books.{record_more}
use Rattle.linearized.specs.Answered.{moves_for}
use Rattle.linearized.specs.Laws.{IsAtOnce}

-- the record that a point's move adds
change_in : (seat : Option ℕ) (to : Ref) (change : Option Change)
    → record_of (moves_for seat to change) ≡ with_change change []
change_in seat to None = refl
change_in seat to (Some c) = refl

pub record_at : (seat : Option ℕ) (to : Ref) (change : Option Change) (log : List Entry)
    → record_of (log ++ moves_for seat to change) ≡ record_of log ++ with_change change []
record_at seat to change log = record_more log (moves_for seat to change) ∙ ap (λ w. record_of log ++ w)
    (change_in seat to change)

nothing_left : {A : Type 0} (xs : List A) → length xs ≡ 0 → xs ≡ []
nothing_left [] h = refl
nothing_left (x ∷ xs) h = absurd (let e : suc (length xs) ≡ 0 = h in omega (arith, e))

-- what stands between two lists that differ by w alone is nothing
pub nothing_between : {A : Type 0} (xs ys w ps qs : List A) → xs ++ ps ≡ ys → (ys ++ w) ++ qs ≡ xs ++ w → ys ≡ xs
nothing_between xs ys w ps qs p q =
    let a = length-append xs ps in
    let b = length-append (ys ++ w) qs in
    let c = length-append ys w in
    let d = length-append xs w in
    let e = ap length p in
    let f = ap length q in
    let none : length ps ≡ 0 = omega (arith, a, b, c, d, e, f) in
    sym p ∙ (ap (λ w. xs ++ w) (nothing_left ps none) ∙ append-nil xs)

pub at_once : (means : Meanings) → IsAtOnce means
at_once means old new change log is grew =
    let before = record_begins old.log log is.since in
    let after = record_begins (log ++ moves_for old.seat is.to change) new.log is.until in
    let mid = record_at old.seat is.to change log in
    nothing_between (record_of old.log) (record_of log) (with_change change []) before.0 after.0 before.1
    (sym (ap (λ w. w ++ after.0) mid) ∙ (after.1 ∙ grew))
