-- Nodes placed behind others, and the references that name what is placed.
use Rattle.std.specs.Prelude.{◌≡◌, ◌⊎◌, ◌≤◌, ℕ, List, [], ◌∷◌, ◌++◌, map, Some, slice_get}
use mathlib.Core.List.{IsPrefix}
use Rattle.std.specs.List.{Contains}
use Rattle.group_history.specs.declared.nodes.Chunk.{Chunk}
use Rattle.group_history.specs.declared.nodes.Node.{Node}
use Rattle.group_history.specs.declared.refs.Ref.{Ref}
use Rattle.group_history.specs.Naming.{children, chunk_children, chunk_content, content_of}
use Rattle.group_history.specs.Refs.{stamp_of, slot_of}
use Rattle.group_history.specs.Spelling.{Contents}
use Rattle.map_chunks.specs.Shown.{Part, value, chunk, Piece}

-- what is placed, and behind it the nodes of a draft
abbrev pub with_nodes : Contents → List (Node Ref) → Contents
with_nodes contents nodes = contents ++ map content_of nodes

-- the placed chunks that pieces name
abbrev pub part_places : Part → List Ref
part_places (value v) = []
part_places (chunk depth at) = at ∷ []

abbrev pub places_of : List Piece → List Ref
places_of [] = []
places_of (q ∷ qs) = part_places q.1 ++ places_of qs

-- The reference is one of these, its slot too, or names a node of the draft, whose slot isn't chosen yet.
abbrev pub IsNamed : ℕ → List Ref → Ref → Type 0
IsNamed first places at = Contains places at ⊎ ((first ≤ stamp_of at) × (slot_of at ≡ 0))

abbrev pub AreNamed : ℕ → List Ref → List Ref → Type 0
AreNamed first places ats = (at : Ref) → Contains ats at → IsNamed first places at

-- so are the children of each of these nodes
abbrev pub HaveNamed : ℕ → List Ref → List (Node Ref) → Type 0
HaveNamed first places [] = Unit {0}
HaveNamed first places (n ∷ ns) = AreNamed first places (children n) × HaveNamed first places ns

-- behind the old nodes stand more, whose children are so named
abbrev pub AddsNamed : ℕ → List Ref → List (Node Ref) → List (Node Ref) → Type 0
AddsNamed first places old new = (more : List (Node Ref)) × (old ++ more ≡ new) × HaveNamed first places more

-- each of these references has the property
abbrev pub AreAll : (Ref → Type 0) → List Ref → Type 0
AreAll places ats = (at : Ref) → Contains ats at → places at

-- The chunk lies at the stamp, and each of its children has the property.
abbrev pub IsShown : (Ref → Type 0) → Contents → ℕ → Chunk Ref → Type 0
IsShown places contents stamp c = AreAll places (chunk_children c)
    × (slice_get contents stamp ≡ Some (chunk_content c))

-- The contents grew, and with them the references at which a chunk may be looked for.
abbrev pub Grows : {S : Type 0} → (S → Contents) → (S → Ref → Type 0) → S → S → Type 0
Grows contents places old new = IsPrefix (contents old) (contents new) × ((at : Ref) → places old at → places new at)

-- Each of the new references is one of the old ones, its slot too, or one at which a chunk may be looked for.
abbrev pub AreKept : (Ref → Type 0) → List Ref → List Ref → Type 0
AreKept places old new = (at : Ref) → Contains new at → Contains old at ⊎ places at
