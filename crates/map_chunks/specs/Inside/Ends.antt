-- A look at one placed chunk on the way past chunks with one child each.
use Rattle.std.specs.Prelude.{[], ◌∷◌, Option, Some, None}
use Rattle.group_history.specs.declared.nodes.Chunk.{Chunk}
use Rattle.group_history.specs.declared.nodes.Chunk.TheVariants.{Leaf, Inner}
use Rattle.group_history.specs.declared.refs.Ref.{Ref}

-- the child of an inner chunk that has but one
abbrev pub only_ref : Chunk Ref → Option Ref
only_ref (Leaf rows) = None
only_ref (Inner []) = None
only_ref (Inner (e ∷ [])) = Some e.1
only_ref (Inner (e ∷ f ∷ es)) = None
