-- What placed chunks with one child each end in.
use Rattle.std.specs.Prelude.{◌≡◌, ℕ, zero, suc, ◌+◌, [], ◌∷◌, Option, Some, slice_get}
use Rattle.group_history.specs.declared.nodes.Chunk.TheVariants.{Inner}
use Rattle.group_history.specs.declared.nodes.Node.TheVariants.{Chunk}
use Rattle.group_history.specs.Map.{Bytes}
use Rattle.group_history.specs.declared.refs.Ref.{Ref}
use Rattle.group_history.specs.Refs.{stamp_of}
use Rattle.group_history.specs.Rows.{Rows}
use Rattle.group_history.specs.Spelling.{Contents}
use Rattle.map_chunks.specs.Seeking.{chunk_depth}
use Rattle.map_chunks.specs.Shown.{chunk_rows}
use Rattle.map_chunks.specs.Wide.{IsWideAt}

-- a placed chunk with these rows, which is wide
abbrev pub IsEnd : Contents → Option Rows → Ref → Type 0
IsEnd contents rows at = (chunk_rows contents (stamp_of at) ≡ rows) × IsWideAt contents (stamp_of at)

-- from the chunk of a stamp down so many have one child each, and below them is this one
abbrev pub LeadsTo : Contents → ℕ → ℕ → Ref → Type 0
LeadsTo contents zero stamp at = stamp ≡ stamp_of at
LeadsTo contents (suc many) stamp at = (key : Bytes) × (child : ℕ)
    × (slice_get contents stamp ≡ Some (Chunk (Inner ((key, child) ∷ [])))) × LeadsTo contents many child at

-- A placed chunk below the one of a stamp, which is so deep. All between them have one child each.
abbrev pub IsEndUnder : Contents → ℕ → ℕ → Ref → Type 0
IsEndUnder contents depth stamp at = (many : ℕ) × (deep : ℕ) × (many + deep ≡ depth)
    × (chunk_depth contents (stamp_of at) ≡ Some deep) × LeadsTo contents many stamp at
