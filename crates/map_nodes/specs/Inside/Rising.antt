-- What a root above a chunk and its upper half needs.
use Rattle.std.specs.Prelude.{◌≡◌, ℕ, ◌≤◌, ◌<◌, ◌+◌, ◌^◌, [], Option, Some, None, IsSome, vec_capacity}
use Rattle.group_history.specs.Map.{Bytes}
use Rattle.map_chunks.specs.Shown.{Seen}
use Rattle.map_nodes.specs.Inside.Halves.{HeadsBoth, IsHalf}
use Rattle.map_nodes.specs.declared.nodes.putting.Half.{Half}
use Rattle.map_nodes.specs.declared.nodes.putting.roots.Above.{Above}

-- what a root above a chunk with so many entries needs, where that may be split: its first key, and room
pub record IsAboveTaken (entries : ℕ) (key : Bytes) (above : Above) : Type 0 where
  pub first : 16 ≤ entries → above.first ≡ Some key
  pub empty : (above.spare.keys.items ≡ []) × (above.spare.entries.items ≡ [])
  pub spare : 16 ≤ entries → (17 ≤ vec_capacity above.spare.keys) × (17 ≤ vec_capacity above.spare.entries)
  pub home : 16 ≤ entries → IsSome above.home

-- a chunk was split, and what a root above both halves needs is there
pub record IsRising (n : Seen) (above : Above) (half : Half) : Type 0 where
  pub deep : n.depth + 1 < 2 ^ 64
  pub half_is : IsHalf 1 n.depth (Some half)
  pub heads : HeadsBoth above.first n.pieces half.node.value.pieces
  pub keys : (above.spare.keys.items ≡ []) × (17 ≤ vec_capacity above.spare.keys)
  pub kids : (above.spare.entries.items ≡ []) × (17 ≤ vec_capacity above.spare.entries)
  pub home : IsSome above.home

-- so it is where the chunk has an upper half
abbrev pub CanRise : Seen → Above → Option Half → Type 0
CanRise n above None = Unit {0}
CanRise n above (Some half) = IsRising n above half
