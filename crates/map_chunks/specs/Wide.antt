-- Chunks that are no inner ones with one child.
use Rattle.std.specs.Prelude.{◌≡◌, ◌⊎◌, ◌<◌, ℕ, Bool, true, false, [], ◌∷◌, Some, slice_get}
use Rattle.group_history.specs.declared.nodes.Chunk.TheVariants.{Leaf, Inner}
use Rattle.group_history.specs.declared.nodes.Node.{Node}
use Rattle.group_history.specs.declared.nodes.Node.TheVariants.{Chunk, Commit}
use Rattle.group_history.specs.Spelling.{Contents}
use Rattle.map_chunks.specs.Shown.{Seen}

-- an inner chunk with one child
abbrev pub is_narrow : Node ℕ → Bool
is_narrow (Chunk (Inner (e ∷ []))) = true
is_narrow (Chunk (Inner (e ∷ f ∷ es))) = false
is_narrow (Chunk (Inner [])) = false
is_narrow (Chunk (Leaf rows)) = false
is_narrow (Commit c) = false

-- the chunk of the stamp isn't one
abbrev pub IsWideAt : Contents → ℕ → Type 0
IsWideAt contents stamp = (n : Node ℕ) → slice_get contents stamp ≡ Some n → is_narrow n ≡ false

-- a draft's chunk isn't one
abbrev pub IsWideChunk : Seen → Type 0
IsWideChunk n = (n.depth ≡ 1) ⊎ (1 < n.entries)
