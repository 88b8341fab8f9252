-- Rows of a map, and the keys of a chunk.
use Rattle.std.specs.Prelude.{◌≤◌, ◌&&◌, Bool, true, T, List, [], ◌∷◌, map, length}
use Rattle.std.specs.Ordering.{nat_cmp, is_lt}
use Rattle.std.specs.Cmp.Lexicographic.{slice_cmp}
use Rattle.group_history.specs.Map.{Bytes}

-- pairs of a key and a value
abbrev pub Rows : Type 0
Rows = List (Bytes × Bytes)

-- each key stands with what stands at its place in the other list; what is left over of the longer list is left out
abbrev pub paired : {A B : Type 0} → List A → List B → List (A × B)
paired [] ys = []
paired (x ∷ xs) [] = []
paired (x ∷ xs) (y ∷ ys) = (x, y) ∷ paired xs ys

-- the key is below each of these
abbrev pub is_below_all : Bytes → List Bytes → Bool
is_below_all k [] = true
is_below_all k (x ∷ xs) = is_lt (slice_cmp nat_cmp k x) && is_below_all k xs

-- each key is below all that follow
abbrev pub rises : List Bytes → Bool
rises [] = true
rises (k ∷ ks) = is_below_all k ks && rises ks

-- at most 16 keys, in strict order
abbrev pub AreKeys : List Bytes → Type 0
AreKeys ks = (length ks ≤ 16) × T (rises ks)

-- the keys of pairs, and what stands under them
abbrev pub keys_of : {A : Type 0} → List (Bytes × A) → List Bytes
keys_of es = map (λ e. e.0) es

abbrev pub values_of : {A : Type 0} → List (Bytes × A) → List A
values_of es = map (λ e. e.1) es
