-- A look at one placed chunk on the way to the second key of its rows, found along the first children.
use Rattle.std.specs.Prelude.{◌≡◌, length, Some, slice_get}
use Rattle.group_history.specs.declared.nodes.Chunk.{Chunk}
use Rattle.group_history.specs.declared.nodes.Chunk.TheVariants.{Leaf, Inner}
use Rattle.group_history.specs.declared.refs.Ref.{Ref}
use Rattle.group_history.specs.Rows.{keys_of, values_of}
use Rattle.map_chunks.specs.declared.looks.Second.{Second}
use Rattle.map_chunks.specs.declared.looks.Second.TheVariants.{Known, First}
use Rattle.map_chunks.specs.SecondKeys.{second_key}

-- a leaf has its second key, and an inner chunk its first child and the key of the one behind it
abbrev pub IsSecondStep : Chunk Ref → Second → Type 0
IsSecondStep (Leaf rows) (Known key) = key ≡ second_key rows
IsSecondStep (Leaf rows) (First at next) = ⊥
IsSecondStep (Inner kids) (Known key) = length kids ≡ 0
IsSecondStep (Inner kids) (First at next) = (slice_get (values_of kids) 0 ≡ Some at)
    × (next ≡ slice_get (keys_of kids) 1)
