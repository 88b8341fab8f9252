-- What a removal makes of a map.
use Rattle.std.proofs.Common.{◌≡◌, ℕ, Bool, false, true, is_some, Option, Some, None, refl, sym, ◌∙◌}
use Rattle.std.specs.Prelude.{option_and_then}
use Rattle.std.specs.FinMap as finite
use mathlib.Core.List.{IsPrefix}
use Rattle.group_history.specs.declared.nodes.Node.TheVariants as node
use Rattle.group_history.specs.declared.refs.Ref.{Ref}
use Rattle.group_history.specs.Map.{Bytes, Entries}
use Rattle.group_history.specs.Refs.{stamp_of}
use Rattle.group_history.specs.Rows.{Rows}
use Rattle.group_history.specs.Spelling.{Contents, Segment, segment_at}
use Rattle.group_history.proofs.Spellings.{segment-content}
use Rattle.map_tree.specs.Trees.{root_levels, root_places, root_map, root_depth, root_or, IsWide}
use Rattle.map_nodes.specs.Removing.{without_key, root_left, root_rows, IsRootRemoved, IsWideRoot}
use Rattle.map_nodes.specs.Levels.{placed_levels, Levels, RemovedLater}
use Rattle.map_chunks.specs.Shown.{Seen, shown, chunk_rows, rows_or, map_of_rows}
use Rattle.map_chunks.specs.Wide.{IsWideAt}
use Rattle.map_tree.specs.declared.tree.Root.TheVariants.{Own, Placed}
use Rattle.map_nodes.proofs.RemoveLemmas.{map_removed}
use Rattle.map_nodes.proofs.RemoveLevels.{removed_as}
use Rattle.map_tree.proofs.RootCounts.{placed_as}
use Rattle.map_chunks.proofs.TreeLemmas.{map_at-rows}
use Rattle.map_nodes.proofs.WideLemmas.{wide_grown}

-- what stands at a stamp that spells a chunk is there for good
pub wide_at-kept : (old new : Contents) (k : ℕ) (s : Segment) → IsPrefix old new → segment_at old k ≡ Some s
    → IsWideAt old k → IsWideAt new k
wide_at-kept old new k s p h w =
    let c = segment-content old k s h in wide_grown old new k (node.Chunk c.0) p c.2 w

-- a root of a draft, or the placed one to which it gives way
pub removed_map : (q : Contents) (n : Seen) (end : Option Ref) (x : Option Rows) (m : Entries) (key : Bytes)
    → option_and_then map_of_rows x ≡ Some m
    → root_rows q n end ≡ Some (without_key key (rows_or x)) → root_map q (root_or end (Own n))
    ≡ Some (finite.remove m key)
removed_map q n None x m key h e = map_removed x (shown q n.pieces) m key h e
removed_map q n (Some at) x m key h e = map_at-rows q (stamp_of at) ∙ map_removed x
    (chunk_rows q (stamp_of at)) m key h e

pub removed_wide : (q : Contents) (n : Seen) (end : Option Ref) → IsWideRoot q n end → IsWide q (root_or end (Own n))
removed_wide q n None w = w
removed_wide q n (Some at) w = w

pub removed_levels : (q : Contents) (was : ℕ) (old : Contents → Levels) (n : Seen) (end : Option Ref)
    → IsRootRemoved q was old n end → (e : ℕ) × (root_depth q (root_or end (Own n)) ≡ Some e)
    × RemovedLater was e q old (root_levels (root_or end (Own n)))
removed_levels q was old n None h = (n.depth, refl, h)
removed_levels q was old n (Some at) h = (
  h.0,
  h.1,
  removed_as q was h.0 old (λ p. placed_levels p h.0 (stamp_of at)) old (root_levels (Placed at)) (λ p pre i. refl)
      (λ p pre i. placed_as q p (Placed at) at h.0 refl h.1 pre i) h.2,
)

pub removed_places : (n : Seen) (end : Option Ref) → root_left n end ≡ root_places (root_or end (Own n))
removed_places n None = refl
removed_places n (Some at) = refl

-- a key that wasn't found isn't there
pub not_there : (there : Bool) (o : Option Bytes) → there ≡ is_some o → there ≡ false → o ≡ None
not_there there None e f = refl
not_there there (Some v) e f = let bad : true ≡ false = sym e ∙ f in absurd (cc)
