-- A look at one placed chunk on the way to a key.
use Rattle.std.specs.Prelude.{◌≡◌, ℕ, Some, slice_get, length}
use Rattle.std.specs.Ordering.{nat_cmp}
use Rattle.std.specs.Cmp.Lexicographic.{slice_cmp}
use Rattle.std.specs.FinMap as finite
use Rattle.group_history.specs.declared.nodes.Chunk.{Chunk}
use Rattle.group_history.specs.declared.nodes.Chunk.TheVariants.{Leaf, Inner}
use Rattle.group_history.specs.declared.refs.Ref.{Ref}
use Rattle.group_history.specs.Map.{Bytes}
use Rattle.group_history.specs.Rows.{keys_of, values_of}
use Rattle.map_chunks.specs.Search.{IsPlace}
use Rattle.map_chunks.specs.declared.looks.Descent.{Descent}
use Rattle.map_chunks.specs.declared.looks.Descent.TheVariants.{Found, Below}

-- a leaf has the key's value, and an inner chunk the child to which it belongs
abbrev pub Descends : Chunk Ref → Bytes → Descent → Type 0
Descends (Leaf rows) key (Found v) = v ≡ finite.find (slice_cmp nat_cmp) key rows
Descends (Leaf rows) key (Below at) = ⊥
Descends (Inner kids) key (Found v) = length kids ≡ 0
Descends (Inner kids) key (Below at) = (i : ℕ) × IsPlace key (keys_of kids) i × (slice_get (values_of kids) i ≡ Some at)
