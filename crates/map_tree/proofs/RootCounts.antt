-- How deep a map is, and how wide its root, once more is placed.
use Rattle.std.proofs.Common.{◌≡◌, ℕ, [], Option, Some, None, refl, sym, ap, ◌∙◌}
use Rattle.std.proofs.lemmas.List.{append-nil}
use Rattle.std.specs.Prelude.{option_map, unwrap_or}
use Rattle.std.specs.FinMap as finite
use mathlib.Core.List.{IsPrefix}
use Rattle.group_history.specs.declared.refs.Ref.{Ref}
use Rattle.group_history.specs.Map.{Entries}
use Rattle.group_history.specs.Refs.{stamp_of}
use Rattle.group_history.specs.Spelling.{Contents, Segment, segment_at, map_at, rows_at}
use Rattle.group_history.proofs.Spellings.{segment-content}
use Rattle.map_chunks.specs.Seeking.{chunk_depth}
use Rattle.map_chunks.specs.Shown.{Seen}
use Rattle.map_nodes.specs.Levels.{placed_levels}
use Rattle.map_tree.specs.Trees.{root_map, root_depth, root_levels, IsWide}
use Rattle.map_tree.specs.declared.tree.Root.{Root}
use Rattle.map_tree.specs.declared.tree.Root.TheVariants.{Placed, Own}
use Rattle.map_chunks.proofs.JoinLemmas.{some_is}
use Rattle.map_chunks.proofs.OpenLemmas.{segment-kept, rows_at-segment}
use Rattle.map_nodes.proofs.WideLemmas.{wide_grown}
use Rattle.map_tree.proofs.WriteLemmas.{placed_map}

pub own_depth : (p : Contents) (r : Root) (n : Seen) (d : ℕ) → r ≡ Own n → root_depth p r ≡ Some d → n.depth ≡ d
own_depth p r n d e h = some_is (ap (root_depth p) (sym e) ∙ h)

-- a placed root is as deep as its segment
placed_depth : (old new : Contents) (r : Root) (at : Ref) (d : ℕ) (s : Segment) → r ≡ Placed at → IsPrefix old new
    → root_depth old r ≡ Some d → segment_at new (stamp_of at) ≡ Some s → s.depth ≡ d
placed_depth old new r at d s e p h g = by (segment_at old (stamp_of at)) refl (ap (root_depth old) (sym e) ∙ h)
  where
    by : (o : Option Segment) → segment_at old (stamp_of at) ≡ o
        → option_map (λ (t : Segment). t.depth) o ≡ Some d → s.depth ≡ d
    by None q h = absurd cc
    by (Some t) q h = ap (λ (t : Segment). t.depth)
        (some_is (sym g ∙ segment-kept old new (stamp_of at) t p q)) ∙ some_is h

-- the rows of a placed map that is so deep
pub placed_rows : (p : Contents) (at : Ref) (m : Entries) (d : ℕ) → map_at p (stamp_of at) ≡ Some m
    → chunk_depth p (stamp_of at) ≡ Some d → rows_at p d (stamp_of at) ≡ Some (finite.entries m)
placed_rows p at m d h e =
    let sp = placed_map p (stamp_of at) m h in
    let n = placed_depth p p (Placed at) at d sp.segment refl ([], append-nil p) e sp.is in
    ap (λ k. rows_at p k (stamp_of at)) (sym n) ∙ rows_at-segment p (stamp_of at) sp.segment sp.is ∙ ap
    (λ w. Some w) sp.rows

pub root_depth_kept : (old new : Contents) (r : Root) (d : ℕ) → IsPrefix old new → root_depth old r ≡ Some d
    → root_depth new r ≡ Some d
root_depth_kept old new (Own n) d p h = h
root_depth_kept old new (Placed at) d p h = by (segment_at old (stamp_of at)) refl h
  where
    by : (o : Option Segment) → segment_at old (stamp_of at) ≡ o → option_map (λ (t : Segment). t.depth) o ≡ Some d
        → root_depth new (Placed at) ≡ Some d
    by None q h = absurd cc
    by (Some t) q h = ap (option_map (λ (t : Segment). t.depth)) (segment-kept old new (stamp_of at) t p q) ∙ h

pub wide_root_grown : (old new : Contents) (r : Root) (m : Entries) → IsPrefix old new → root_map old r ≡ Some m
    → IsWide old r → IsWide new r
wide_root_grown old new (Own n) m p h w = w
wide_root_grown old new (Placed at) m p h w =
    let s = placed_map old (stamp_of at) m h in
    let c = segment-content old (stamp_of at) s.segment s.is in
    wide_grown old new (stamp_of at) _ p c.2 w

-- the levels of a placed root that is so deep, whatever is placed later
pub placed_as : (p later : Contents) (r : Root) (at : Ref) (d : ℕ) → r ≡ Placed at → root_depth p r ≡ Some d
    → IsPrefix p later → (level : ℕ) → root_levels r later level ≡ placed_levels later d (stamp_of at) level
placed_as p later r at d e h pre level =
    ap (λ w. root_levels w later level) e ∙ ap (λ o. placed_levels later (unwrap_or o 0) (stamp_of at) level)
    (root_depth_kept p later (Placed at) d pre (sym (ap (root_depth p) e) ∙ h))
