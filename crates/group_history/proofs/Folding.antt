-- Answers by stamp, and longer lists of contents.
use Rattle.std.proofs.Common.{◌≡◌, ℕ, zero, suc, ◌+◌, ◌<◌, List, [], ◌∷◌, ◌++◌, length, Some, None, Option, slice_get}
use Rattle.std.proofs.Common.{refl, ap, sym, subst, ◌∙◌, arith, append_assoc, length-append}
use Rattle.std.specs.Prelude.{option_and_then}
use Rattle.std.proofs.lemmas.List.{append-nil}
use mathlib.Core.List.{IsPrefix}
use Rattle.group_history.specs.Folds.{folded, joined, answer}
use Rattle.group_history.proofs.Lists.{prefix_trans}

-- a value behind two steps came from a value behind the first
pub and_then-some : {A B : Type 0} (o : Option A) (f : A → Option B) (v : B) → option_and_then f o ≡ Some v
    → (x : A) × (o ≡ Some x) × (f x ≡ Some v)
and_then-some None f v h = absurd cc
and_then-some (Some x) f v h = (x, refl, h)

pub answer_more : {A : Type 0} (xs ys : List (Option A)) (k : ℕ) (v : A) → answer xs k ≡ Some v
    → answer (xs ++ ys) k ≡ Some v
answer_more [] ys k v h = absurd cc
answer_more (x ∷ xs) ys zero v h = h
answer_more (x ∷ xs) ys (suc k) v h = answer_more xs ys k v h

pub answer_within : {A : Type 0} (xs : List (Option A)) (k : ℕ) (v : A) → answer xs k ≡ Some v → k < length xs
answer_within [] k v h = absurd cc
answer_within (x ∷ xs) zero v h = omega arith
answer_within (x ∷ xs) (suc k) v h = omega (arith, answer_within xs k v h)

pub seam : {A : Type 0} (xs : List A) (x : A) (ys : List A) → slice_get (xs ++ x ∷ ys) (length xs) ≡ Some x
seam [] x ys = refl
seam (y ∷ xs) x ys = seam xs x ys

split_at : {A : Type 0} (xs : List A) (k : ℕ) (x : A) → slice_get xs k ≡ Some x
    → (pre : List A) × (post : List A) × (xs ≡ pre ++ x ∷ post) × (length pre ≡ k)
split_at [] k x h = absurd cc
split_at (y ∷ xs) zero x h = ([], xs, ap (λ w. w ∷ xs) (let e : y ≡ x = cc h in e), refl)
split_at (y ∷ xs) (suc k) x h = let r = split_at xs k x h in (y ∷ r.0, r.1, ap (λ w. y ∷ w) r.2, ap suc r.3)

pub folded_more : {N A : Type 0} (f : List (Option A) → N → Option A) (done : List (Option A)) (xs ys : List N)
    → folded f done (xs ++ ys) ≡ folded f (folded f done xs) ys
folded_more f done [] ys = refl
folded_more f done (x ∷ xs) ys = folded_more f (done ++ f done x ∷ []) xs ys

pub folded_begins : {N A : Type 0} (f : List (Option A) → N → Option A) (done : List (Option A)) (ns : List N)
    → IsPrefix done (folded f done ns)
folded_begins f done [] = ([], append-nil done)
folded_begins f done (n ∷ ns) = prefix_trans done (done ++ f done n ∷ []) (folded f (done ++ f done n ∷ []) ns)
    (f done n ∷ [], refl) (folded_begins f (done ++ f done n ∷ []) ns)

pub length_folded : {N A : Type 0} (f : List (Option A) → N → Option A) (done : List (Option A)) (ns : List N)
    → length (folded f done ns) ≡ length done + length ns
length_folded f done [] = omega arith
length_folded f done (n ∷ ns) = omega (
  arith,
  length_folded f (done ++ f done n ∷ []) ns,
  length-append done (f done n ∷ []),
)

-- What a stamp means stays when contents are added.
pub folded_stays : {N A : Type 0} (f : List (Option A) → N → Option A) (xs ys : List N) (k : ℕ) (v : A)
    → answer (folded f [] xs) k ≡ Some v → answer (folded f [] (xs ++ ys)) k ≡ Some v
folded_stays f xs ys k v h =
    let p = folded_begins f (folded f [] xs) ys in
    subst (λ w. answer w k ≡ Some v) (p.1 ∙ sym (folded_more f [] xs ys)) (answer_more (folded f [] xs) p.0 k v h)

-- A stamp means what its content makes of the stamps before it; and each of these means the same in the whole list.
pub folded_at : {N A : Type 0} (f : List (Option A) → N → Option A) (ns : List N) (k : ℕ) (n : N)
    → slice_get ns k ≡ Some n
    → (pre : List N) × (answer (folded f [] ns) k ≡ f (folded f [] pre) n)
    × ((c : ℕ) (v : A) → answer (folded f [] pre) c ≡ Some v → (c < k) × (answer (folded f [] ns) c ≡ Some v))
    × (length (folded f [] pre) ≡ k)
folded_at f ns k n h =
    let s = split_at ns k n h in
    let done = folded f [] s.0 in
    let whole = folded_begins f (done ++ f done n ∷ []) s.1 in
    let is : done ++ f done n ∷ whole.0 ≡ folded f [] ns = sym
    (append_assoc done (f done n ∷ []) whole.0) ∙ whole.1 ∙ sym (folded_more f [] s.0 (n ∷ s.1)) ∙ ap
    (folded f []) (sym s.2) in
    let long : length done ≡ k = length_folded f [] s.0 ∙ (let e : 0 + length s.0 ≡ k = omega (arith, s.3) in e) in (
      s.0,
      subst (λ w. answer w k ≡ f done n) is (subst
          (λ j. joined (slice_get (done ++ f done n ∷ whole.0) j) ≡ f done n) long
          (ap joined (seam done (f done n) whole.0))),
      λ c v e. (
        omega (arith, answer_within done c v e, long),
        subst (λ w. answer w c ≡ Some v) is (answer_more done (f done n ∷ whole.0) c v e),
      ),
      long,
    )
