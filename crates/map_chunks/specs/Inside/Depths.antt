-- A look at one placed chunk on the way to how deep it is, along the first children, and whether it has rows.
use Rattle.std.specs.Prelude.{◌≡◌, ◌==◌, Bool, false, Option, None, length, slice_get}
use Rattle.group_history.specs.declared.nodes.Chunk.{Chunk}
use Rattle.group_history.specs.declared.nodes.Chunk.TheVariants.{Leaf, Inner}
use Rattle.group_history.specs.declared.refs.Ref.{Ref}
use Rattle.group_history.specs.Rows.{values_of}

-- the first child of an inner chunk, and none of a leaf
abbrev pub IsFirst : Chunk Ref → Option Ref → Type 0
IsFirst (Leaf rows) child = child ≡ None
IsFirst (Inner kids) child = child ≡ slice_get (values_of kids) 0

-- a leaf without rows
abbrev pub has_none : Chunk Ref → Bool
has_none (Leaf rows) = length rows == 0
has_none (Inner kids) = false
