-- Nodes that lie in slots below an end, as the slots were that were taken for them.
use Rattle.std.proofs.Common.{◌≡◌, ◌<◌, ℕ, zero, suc, List, [], ◌∷◌, ◌++◌, sym, subst, arith}
use Rattle.std.specs.List.{All}
use Rattle.std.specs.Prelude.{reverse}
use Rattle.std.proofs.lemmas.List.{reverse-append}
use Rattle.reader_claims.specs.declared.view.View.{View}
use Rattle.group_history.specs.declared.refs.Ref.{Ref}
use Rattle.group_history.specs.Refs.{slot_of}
use Rattle.commit_publishing.specs.Placed.{LieBelow}
use Rattle.commit_publishing.specs.Inside.Stacks.{AreLower, HasTaken, StayBelow}

all_but_last : {A : Type 0} (P : A → Type 0) (xs : List A) (x : A) → All P (xs ++ x ∷ []) → All P xs
all_but_last P [] x all k d low = absurd (omega (arith, low))
all_but_last P (y ∷ xs) x all zero d low = all zero d (omega arith)
all_but_last P (y ∷ xs) x all (suc k) d low = all_but_last P xs x (λ j e l. all (suc j) e (omega (arith, l))) k d
    (omega (arith, low))

last_one : {A : Type 0} (P : A → Type 0) (xs : List A) (x : A) → All P (xs ++ x ∷ []) → P x
last_one P [] x all = all zero x (omega arith)
last_one P (y ∷ xs) x all = last_one P xs x (λ j e l. all (suc j) e (omega (arith, l)))

all_and_last : {A : Type 0} (P : A → Type 0) (xs : List A) (x : A) → All P xs → P x → All P (xs ++ x ∷ [])
all_and_last P [] x all one zero d low = one
all_and_last P [] x all one (suc k) d low = absurd (omega (arith, low))
all_and_last P (y ∷ xs) x all one zero d low = all zero d (omega arith)
all_and_last P (y ∷ xs) x all one (suc k) d low =
    all_and_last P xs x (λ j e l. all (suc j) e (omega (arith, l))) one k d
    (omega (arith, low))

-- no slot is below any end
pub none_below : (end : ℕ) (slots : List ℕ) → slots ≡ [] → AreLower end slots
none_below end slots none = subst (AreLower end) (sym none) (λ k d low. absurd (omega (arith, low)))

-- no node lies beyond any end
pub none_lie : (end : ℕ) (refs : List Ref) → refs ≡ [] → LieBelow end refs
none_lie end refs none = subst (LieBelow end) (sym none) (λ k d low. absurd (omega (arith, low)))

all_reversed : {A : Type 0} (P : A → Type 0) (xs : List A) → All P xs → All P (reverse xs)
all_reversed P [] all = all
all_reversed P (x ∷ xs) all = subst (All P) (sym (reverse-append (x ∷ []) xs))
    (all_and_last P (reverse xs) x (all_reversed P xs (λ j e l. all (suc j) e (omega (arith, l))))
    (all zero x (omega arith)))

-- so are those that a seat has taken, which it knows the other way round
pub taken_below : (end : ℕ) (v : View) (slots : List ℕ) → HasTaken v slots → AreLower end slots → AreLower end v.taken
taken_below end v slots has below = subst (AreLower end) (sym has.0) (all_reversed (λ i. i < end) slots below)

-- one slot
pub one_below : (end x : ℕ) → x < end → AreLower end (x ∷ [])
one_below end x low zero d near = low
one_below end x low (suc k) d near = absurd (omega (arith, near))

-- or the last slot was given back
pub stay_refused : (slots left : List ℕ) (refs more : List Ref) (x : ℕ) → slots ≡ left ++ x ∷ [] → more ≡ refs
    → StayBelow slots refs left more
stay_refused slots left refs more x split same end below all =
    (all_but_last (λ i. i < end) left x (subst (AreLower end) split below), subst (LieBelow end) (sym same) all)

-- or a node lies in the last slot
pub stay_placed : (slots left : List ℕ) (refs more : List Ref) (x : ℕ) (at : Ref) → slots ≡ left ++ x ∷ []
    → more ≡ refs ++ at ∷ [] → slot_of at ≡ x → StayBelow slots refs left more
stay_placed slots left refs more x at split placed same end below all =
    let here = subst (AreLower end) split below in (
      all_but_last (λ i. i < end) left x here,
      subst (LieBelow end) (sym placed) (all_and_last (λ (r : Ref). slot_of r < end) refs at all
          (subst (λ i. i < end) (sym same) (last_one (λ i. i < end) left x here))),
    )
