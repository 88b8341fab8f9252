-- How deep a placed chunk is.
use Rattle.std.proofs.Common.{◌≡◌, ◌<◌, ◌+◌, ℕ, [], ◌∷◌, Option, Some, None, slice_get, sym, subst, arith}
use Rattle.group_history.specs.declared.nodes.Chunk.{Chunk}
use Rattle.group_history.specs.declared.nodes.Chunk.TheVariants.{Leaf, Inner}
use Rattle.group_history.specs.declared.refs.Ref.{Ref}
use Rattle.group_history.specs.Naming.{chunk_content}
use Rattle.group_history.specs.Refs.{stamp_of}
use Rattle.group_history.specs.Spelling.{Contents, Segment, segment_at, rows_at}
use Rattle.map_chunks.specs.Inside.Depths.{IsFirst}
use Rattle.map_chunks.proofs.JoinLemmas.{split_of}
use Rattle.map_chunks.proofs.OpenLemmas.{Opened, opened, spells_at, shows_by}

-- a leaf is 1 deep, and an inner chunk one deeper than its first child, which was placed before it
abbrev pub IsAbove : Contents → ℕ → Segment → Option Ref → Type 0
IsAbove contents stamp s None = s.depth ≡ 1
IsAbove contents stamp s (Some child) = (stamp_of child < stamp)
    × ((t : Segment) × (segment_at contents (stamp_of child) ≡ Some t) × (s.depth ≡ t.depth + 1))

pub above : (ns : Contents) (k : ℕ) (s : Segment) (c : Chunk Ref) (child : Option Ref) → segment_at ns k ≡ Some s
    → slice_get ns k ≡ Some (chunk_content c) → IsFirst c child → IsAbove ns k s child
above ns k s c child h g i = by c (opened ns k s c h g) i
  where
    by : (c : Chunk Ref) → Opened ns k s c → IsFirst c child → IsAbove ns k s child
    by (Leaf rows) o i = subst (IsAbove ns k s) (sym i) o.depth
    by (Inner []) o i = absurd (omega (arith, o.filled))
    by (Inner (e ∷ es)) o i =
        let p = split_of (e.0, rows_at ns o.depth (stamp_of e.1)) (shows_by (rows_at ns o.depth) es) s.rows o.rows in
        let f = spells_at ns o.depth (stamp_of e.1) p.front p.front_is in
        subst (IsAbove ns k s) (sym i) (o.low.0, (f.0.segment, f.0.is, omega (arith, o.deep, f.1)))
