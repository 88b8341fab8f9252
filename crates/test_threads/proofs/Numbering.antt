-- Lists whose members bear those of another list.
use Rattle.std.proofs.Common.{◌≡◌, ◌<◌, List, [], ◌∷◌, ◌++◌, map, length, refl, ap, sym, subst, ◌∙◌}
use Rattle.std.proofs.Common.{append_assoc, append-nil}
use Rattle.std.specs.List.{All}
use Rattle.std.proofs.lemmas.List.{get_or-map, length-map, map-append, nil_from_length}

-- what is true of all that they bear is true of what each of them bears
pub all_borne : {X Y : Type 0} (P : X → Type 0) (f : Y → X) (ys : List Y) (xs : List X) → map f ys ≡ xs → All P xs
    → All (λ y. P (f y)) ys
all_borne P f ys xs is all k d within =
    subst P (get_or-map f ys k d (f d) within)
    (subst (All P) (sym is) all k (f d) (subst (λ n. k < n) (sym (length-map ys f)) within))

-- one more bears the first of those that are left
pub borne_more : {X Y : Type 0} (f : Y → X) (whole left more : List X) (ys zs : List Y) (y : Y)
    → whole ≡ map f ys ++ left → left ≡ f y ∷ more → zs ≡ ys ++ y ∷ [] → whole ≡ map f zs ++ more
borne_more {X} {Y} f whole left more ys zs y is first new =
    subst (λ (w : List Y). whole ≡ map f w ++ more) (sym new)
    (is ∙ (ap (λ (w : List X). map f ys ++ w) first ∙ (sym (append_assoc (map f ys) (f y ∷ []) more)
    ∙ ap (λ (w : List X). w ++ more) (sym (map-append f ys (y ∷ []))))))

-- where none is left, they bear all
pub borne_all : {X Y : Type 0} (f : Y → X) (whole left : List X) (ys : List Y) → whole ≡ map f ys ++ left
    → length left ≡ 0 → map f ys ≡ whole
borne_all {X} {Y} f whole left ys is none =
    sym (subst (λ (w : List X). whole ≡ map f ys ++ w) (nil_from_length left none) is ∙ append-nil (map f ys))

-- what the members of a list show, those that bear them show
map_twice : {X Y Z : Type 0} (f : Y → X) (g : X → Z) (ys : List Y) → map (λ y. g (f y)) ys ≡ map g (map f ys)
map_twice f g [] = refl
map_twice f g (y ∷ ys) = ap (λ zs. g (f y) ∷ zs) (map_twice f g ys)

pub map_borne : {X Y Z : Type 0} (f : Y → X) (g : X → Z) (ys : List Y) (xs : List X) → map f ys ≡ xs
    → map (λ y. g (f y)) ys ≡ map g xs
map_borne f g ys xs is = map_twice f g ys ∙ ap (map g) is
