-- A placed chunk copied for a draft.
use Rattle.std.specs.Prelude.{◌≡◌, ℕ, ◌-◌, ◌<◌, List, [], ◌∷◌, map, length}
use Rattle.group_history.specs.declared.nodes.Chunk.{Chunk}
use Rattle.group_history.specs.declared.nodes.Chunk.TheVariants.{Leaf, Inner}
use Rattle.group_history.specs.declared.refs.Ref.{Ref}
use Rattle.group_history.specs.Rows.{keys_of}
use Rattle.map_chunks.specs.Shown.{chunk, own, leaf_keys, Mark, Piece, Seen}
use Rattle.map_nodes.specs.Levels.{parting}
use Rattle.map_nodes.specs.Nodes.{kids_marks, row_pieces, sunk}
use Rattle.map_nodes.specs.declared.nodes.OwnChild.TheVariants.{Placed}

-- the chunk may be so deep
abbrev pub MayBeDeep : ℕ → Chunk Ref → Type 0
MayBeDeep depth (Leaf rows) = depth ≡ 1
MayBeDeep depth (Inner kids) = (0 < depth) × (0 < length kids)

abbrev pub chunk_pieces : ℕ → Chunk Ref → List Piece
chunk_pieces depth (Leaf rows) = row_pieces rows
chunk_pieces depth (Inner kids) = map (λ e. (e.0, chunk (depth - 1) e.1)) kids

-- how many keys it has
abbrev pub chunk_entries : Chunk Ref → ℕ
chunk_entries (Leaf rows) = length rows
chunk_entries (Inner kids) = length kids

-- which chunks it is as an own one
abbrev pub chunk_marks : ℕ → Chunk Ref → List Mark
chunk_marks depth (Leaf rows) = own 0 (leaf_keys (keys_of rows)) ∷ []
chunk_marks depth (Inner kids) =
    own 0 (parting (keys_of kids)) ∷ sunk (kids_marks (depth - 1) (map (λ e. Placed e.1) kids))

-- one chunk, with the pieces of the copied one, as many keys, and its children
abbrev pub IsCopy : ℕ → Chunk Ref → Seen → Type 0
IsCopy depth c n = (n.depth ≡ depth) × (n.pieces ≡ chunk_pieces depth c) × (n.entries ≡ chunk_entries c)
    × (n.marks ≡ chunk_marks depth c)
