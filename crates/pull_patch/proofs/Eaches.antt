-- A loop over a list, of which each member gives something.
use Rattle.std.proofs.Common.{◌≡◌, List, [], ◌∷◌, ◌++◌, Bool, true, false, cond, Option, Some, None, option_map}
use Rattle.std.proofs.Common.{option_and_then, refl, sym, ap, ◌∙◌, append_assoc, append-nil}
use Rattle.pull_patch.specs.Fields.{each}

-- The members so far gave done, and those left give the rest of what all give.
abbrev pub Gave : {A B : Type 0} → (A → Option B) → List A → List B → List A → Type 0
Gave f all done left = each f all ≡ option_map (λ ys. done ++ ys) (each f left)

push_at : {B : Type 0} (done : List B) (y : B) (o : Option (List B))
    → option_map (λ ys. done ++ ys) (option_map (λ ys. y ∷ ys) o) ≡ option_map (λ ys. (done ++ y ∷ []) ++ ys) o
push_at done y None = refl
push_at done y (Some ys) = ap Some (sym (append_assoc done (y ∷ []) ys))

pub Gave-next : {A B : Type 0} (f : A → Option B) (all left : List A) (done : List B) (x : A) (y : B)
    → Gave f all done (x ∷ left) → f x ≡ Some y → Gave f all (done ++ y ∷ []) left
Gave-next f all left done x y gave is =
    gave ∙ ap (λ o. option_map (λ ys. done ++ ys) (option_and_then (λ y. option_map (λ ys. y ∷ ys) (each f left)) o)) is
    ∙ push_at done y (each f left)

-- one gives nothing, so all give nothing
pub Gave-none : {A B : Type 0} (f : A → Option B) (all left : List A) (done : List B) (x : A)
    → Gave f all done (x ∷ left) → f x ≡ None → each f all ≡ None
Gave-none f all left done x gave is = gave ∙ ap
    (λ o. option_map (λ ys. done ++ ys) (option_and_then (λ y. option_map (λ ys. y ∷ ys) (each f left)) o)) is

pub Gave-all : {A B : Type 0} (f : A → Option B) (all : List A) (done : List B) → Gave f all done []
    → each f all ≡ Some done
Gave-all f all done gave = gave ∙ ap Some (append-nil done)

-- ---- what was gathered so far, unless something was missing

abbrev pub Gathered : {A B : Type 0} → (A → Option B) → List A → Bool → List B → Type 0
Gathered f done whole out = each f done ≡ cond whole (Some out) None

pub each-append : {A B : Type 0} (f : A → Option B) (xs ys : List A)
    → each f (xs ++ ys) ≡ option_and_then (λ a. option_map (λ b. a ++ b) (each f ys)) (each f xs)
each-append f [] ys = same (each f ys) where
  same : {B : Type 0} (o : Option (List B)) → o ≡ option_map (λ ys. [] ++ ys) o
  same None = refl
  same (Some ys) = refl
each-append f (x ∷ xs) ys = ap (λ o. option_and_then (λ y. option_map (λ zs. y ∷ zs) o) (f x))
    (each-append f xs ys) ∙ swap (f x) (each f xs) (each f ys) where
      at : {B : Type 0} (y : B) (p q : Option (List B))
          → option_map (λ zs. y ∷ zs) (option_and_then (λ a. option_map (λ b. a ++ b) q) p)
          ≡ option_and_then (λ a. option_map (λ b. a ++ b) q) (option_map (λ zs. y ∷ zs) p)
      at y None q = refl
      at y (Some a) None = refl
      at y (Some a) (Some b) = refl

      swap : {B : Type 0} (o : Option B) (p q : Option (List B))
          → option_and_then (λ y. option_map (λ zs. y ∷ zs) (option_and_then (λ a. option_map (λ b. a ++ b) q) p)) o
          ≡ option_and_then (λ a. option_map (λ b. a ++ b) q) (option_and_then (λ y. option_map (λ zs. y ∷ zs) p) o)
      swap None p q = refl
      swap (Some y) p q = at y p q

pub Gathered-next : {A B : Type 0} (f : A → Option B) (done : List A) (x : A) (y : B) (whole : Bool) (out : List B)
    → Gathered f done whole out → f x ≡ Some y → Gathered f (done ++ x ∷ []) whole (out ++ y ∷ [])
Gathered-next f done x y true out so_far is = each-append f done (x ∷ []) ∙ ap
    (option_and_then (λ a. option_map (λ b. a ++ b) (each f (x ∷ [])))) so_far ∙ ap
    (λ o. option_map (λ b. out ++ b) (option_and_then (λ y. Some (y ∷ [])) o)) is
Gathered-next f done x y false out so_far is = each-append f done (x ∷ []) ∙ ap
    (option_and_then (λ a. option_map (λ b. a ++ b) (each f (x ∷ [])))) so_far

none_at : {B C : Type 0} (o : Option B) → option_and_then {T = B} {U = C} (λ a. None) o ≡ None
none_at None = refl
none_at (Some b) = refl

pub Gathered-missing : {A B : Type 0} (f : A → Option B) (done : List A) (x : A) (out : List B) → f x ≡ None
    → Gathered f (done ++ x ∷ []) false out
Gathered-missing f done x out is = each-append f done (x ∷ []) ∙ ap
    (λ o. option_and_then (λ a. option_map (λ b. a ++ b) (option_and_then (λ y. Some (y ∷ [])) o)) (each f done)) is ∙
    none_at (each f done)
