-- The slots taken, as a stack.
use Rattle.std.proofs.Common.{◌≡◌, ℕ, ◌==◌, inl, inr, List, [], ◌∷◌, ◌++◌, length, refl, sym, ap, subst, ◌∙◌}
use Rattle.std.specs.Prelude.{reverse}
use Rattle.std.proofs.lemmas.List.{length-reverse, reverse-append}
use Rattle.std.proofs.lemmas.Bool.{cond-true, eq-eqb}
use Rattle.std.proofs.lemmas.Bool.Decides.{eqb_tells}
use Rattle.reader_claims.specs.declared.view.View.{View}
use Rattle.reader_claims.specs.Lists.{In, without}
use Rattle.reader_claims.specs.Passes.{Takes}
use Rattle.reader_claims.specs.Views.{with_settled, with_withdrawn}
use Rattle.commit_publishing.specs.Inside.Stacks.{AreOnce, HasTaken, IsButWithdrawn}

without_absent : (x : ℕ) (xs : List ℕ) → (In xs x → ⊥) → without x xs ≡ xs
without_absent x [] absent = refl
without_absent x (y ∷ ys) absent = elim (eqb_tells x y) [
  | inl is ↦ absurd (absent (inl is.1))
  | inr other ↦ rw other.0 (ap (λ w. y ∷ w) (without_absent x ys (λ h. absent (inr h))))
]

-- what is taken is the last slot and those before it
last_first : (taken slots rest : List ℕ) (x : ℕ) → taken ≡ reverse slots → slots ≡ rest ++ x ∷ []
    → taken ≡ x ∷ reverse rest
last_first taken slots rest x is split = is ∙ (ap reverse split ∙ reverse-append rest (x ∷ []))

without_first : (x : ℕ) (xs : List ℕ) → AreOnce (x ∷ xs) → without x (x ∷ xs) ≡ xs
without_first x xs once = cond-true (x == x) (without x xs) (x ∷ without x xs)
    (eq-eqb x x refl) ∙ without_absent x xs once.0

-- when the last slot is taken no more, the others are
popped : (v u : View) (slots rest : List ℕ) (x : ℕ) → slots ≡ rest ++ x ∷ [] → HasTaken v slots
    → u.taken ≡ without x v.taken → HasTaken u rest
popped v u slots rest x split has is =
    let top = last_first v.taken slots rest x has.0 split in
    let once = subst AreOnce top has.1 in
    let left : u.taken ≡ reverse rest = is ∙ (ap (without x) top ∙ without_first x (reverse rest) once) in
    (left, subst AreOnce (sym left) once.1)

pub withdrawn : (v u : View) (slots rest : List ℕ) (x : ℕ) → slots ≡ rest ++ x ∷ [] → HasTaken v slots
    → u ≡ with_withdrawn v x → HasTaken u rest
withdrawn v u slots rest x split has is = popped v u slots rest x split has (ap (λ (w : View). w.taken) is)

pub settled : (v u : View) (slots rest : List ℕ) (x : ℕ) → slots ≡ rest ++ x ∷ [] → HasTaken v slots
    → u ≡ with_settled v x → HasTaken u rest
settled v u slots rest x split has is = popped v u slots rest x split has (ap (λ (w : View). w.taken) is)

-- the last slot is one of them
pub top_in : (v : View) (slots rest : List ℕ) (x : ℕ) → slots ≡ rest ++ x ∷ [] → HasTaken v slots → In v.taken x
top_in v slots rest x split has = subst (λ t. In t x) (sym (last_first v.taken slots rest x has.0 split)) (inl refl)

-- one more was taken
pub pushed : (v u : View) (slots : List ℕ) (x : ℕ) → HasTaken v slots → Takes v u x → HasTaken u (slots ++ x ∷ [])
pushed v u slots x has takes = (
  takes.1 ∙ (ap (λ w. x ∷ w) has.0 ∙ sym (reverse-append slots (x ∷ []))),
  subst AreOnce (sym takes.1) (takes.0, has.1),
)

-- the last slot stands before those that are left
pub headed : (v u : View) (slots rest : List ℕ) (x : ℕ) → slots ≡ rest ++ x ∷ [] → HasTaken v slots → HasTaken u rest
    → v.taken ≡ x ∷ u.taken
headed v u slots rest x split has left = last_first v.taken slots rest x has.0 split ∙ ap (λ xs. x ∷ xs) (sym left.0)

pub but_withdrawn : (v w u : View) (x : ℕ) → IsButWithdrawn v w → u ≡ with_withdrawn w x → IsButWithdrawn v u
but_withdrawn v w u x was is = subst (IsButWithdrawn v) (sym is)
    (subst (λ (y : View). with_withdrawn y x ≡ record v {
      taken = (with_withdrawn y x).taken;
      withdrawn = (with_withdrawn y x).withdrawn;
      deeds = (with_withdrawn y x).deeds;
    }) (sym was) refl)

pub length_taken : (v : View) (slots : List ℕ) → HasTaken v slots → length v.taken ≡ length slots
length_taken v slots has = ap length has.0 ∙ length-reverse slots
