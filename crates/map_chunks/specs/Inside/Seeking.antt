-- A look at one placed chunk on the way to a key, which asks whether it is there, and counts the chunks.
use Rattle.std.specs.Prelude.{◌≡◌, ℕ, Some, slice_get, length}
use Rattle.group_history.specs.declared.nodes.Chunk.{Chunk}
use Rattle.group_history.specs.declared.nodes.Chunk.TheVariants.{Leaf, Inner}
use Rattle.group_history.specs.declared.refs.Ref.{Ref}
use Rattle.group_history.specs.Map.{Bytes}
use Rattle.group_history.specs.Rows.{keys_of, values_of}
use Rattle.map_chunks.specs.Search.{IsPlace}
use Rattle.map_chunks.specs.declared.looks.Hint.{Hint}
use Rattle.map_chunks.specs.declared.looks.Hint.TheVariants.{Known, On}
use Rattle.map_chunks.specs.Seeking.{is_key_in}

-- a leaf knows whether the key is there, and an inner chunk has the child to which the key belongs
abbrev pub IsHint : Chunk Ref → Bytes → Hint → Type 0
IsHint (Leaf rows) key (Known there) = there ≡ is_key_in rows key
IsHint (Leaf rows) key (On at) = ⊥
IsHint (Inner kids) key (Known there) = length kids ≡ 0
IsHint (Inner kids) key (On at) = (i : ℕ) × IsPlace key (keys_of kids) i × (slice_get (values_of kids) i ≡ Some at)
