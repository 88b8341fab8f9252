-- Maps from key texts to JSON texts, and what a pull's patch makes of them.
-- A text is the list of its UTF-8 bytes, a JSON value its compact text.
-- Source: Replicache, How It Works, "The Client View"; Pull Endpoint Reference, "patch".
use Rattle.std.specs.Prelude.{ℕ, Bool, List, [], ◌∷◌, nat_eq}
use Rattle.std.specs.Ordering.{nat_cmp}
use Rattle.std.specs.Cmp.Lexicographic.{slice_cmp, pointwise}
use Rattle.std.specs.FinMap as finite
use Rattle.group_history.specs.declared.responses.Patch.{Patch}
use Rattle.group_history.specs.declared.responses.Patch.TheVariants.{Put, Del, Clear}

abbrev pub Bytes : Type 0
Bytes = List ℕ

-- whether two texts are one
abbrev pub same_text : Bytes → Bytes → Bool
same_text = pointwise nat_eq

-- a map from key texts to compact JSON texts; keys are ordered by their bytes (this project's own rule)
abbrev pub Entries : Type 0
Entries = finite.FinMap (slice_cmp nat_cmp) Bytes

-- the map after one operation
abbrev pub patched_once : Entries → Patch → Entries
patched_once m (Put key value) = finite.insert m key value
patched_once m (Del key) = finite.remove m key
patched_once m Clear = finite.empty

-- the map after operations, in order
abbrev pub patched : Entries → List Patch → Entries
patched m [] = m
patched m (op ∷ ops) = patched (patched_once m op) ops
