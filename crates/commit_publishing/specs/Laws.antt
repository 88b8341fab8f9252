-- What is proved of drafts that were placed.
use Rattle.std.specs.Prelude.{◌≡◌, ℕ, ◌+◌, ◌<◌, List, [], ◌∷◌, ◌++◌, length, Some}
use Rattle.std.specs.List.{Contains}
use mathlib.Core.List.{IsPrefix}
use Rattle.group_history.specs.declared.nodes.Node.{Node}
use Rattle.group_history.specs.declared.refs.Ref.{Ref}
use Rattle.group_history.specs.Naming.{children, content_of, renamed, placed_ref}
use Rattle.group_history.specs.Refs.{stamp_of}
use Rattle.group_history.specs.Spelling.{Contents, Version, version_at}
use Rattle.map_chunks.specs.Drafts.{Drafted, AreBelow, AreNeeded}
use Rattle.map_chunks.specs.Places.{with_nodes}
use Rattle.commit_graph.specs.Reach.{Reaches}
use Rattle.commit_publishing.specs.Stamped.{restamped, drawn_as, AreFrom}
use Rattle.commit_publishing.specs.Placed.{IsPlaced}

pub record PlacingLaws : Type 0 where
  -- What a draft spells under its own numbers, behind the contents on which it was built, it spells under the stamps
  -- that it drew, behind any longer contents.
  pub carried : (cs ds : Contents) (nodes : List (Node Ref)) → IsPrefix cs ds → (at : Ref) (v : Version)
      → version_at (with_nodes cs nodes) (stamp_of at) ≡ Some v
      → version_at (ds ++ drawn_as (length cs) (length ds) nodes) (restamped (length cs) (length ds) at) ≡ Some v
  -- a reference to a node that was placed bears the stamp that the node drew
  pub stamped : (from first : ℕ) (refs : List Ref) → AreFrom first refs → (at : Ref) → stamp_of at < from + length refs
      → stamp_of (placed_ref from refs at) ≡ restamped from first at
  -- a node whose children are named by such references is the content that was drawn for it
  pub content : (from first : ℕ) (refs : List Ref) → AreFrom first refs → (node : Node Ref)
      → AreBelow (from + length refs) (children node)
      → content_of (renamed (placed_ref from refs) node) ≡ renamed (restamped from first) node
  -- So a commit of a draft that was placed spells, under the reference that it then has, what it spelled in the draft.
  pub spelled : (before after : Contents) (draft : Drafted) (refs : List Ref) → IsPlaced before after draft refs
      → (cs : Contents) → IsPrefix cs before → length cs ≡ draft.first → (at : Ref) (v : Version)
      → version_at (with_nodes cs draft.nodes) (stamp_of at) ≡ Some v
      → version_at after (stamp_of (placed_ref draft.first refs at)) ≡ Some v
  -- Where each of its nodes is needed for that commit, each of them is reached from there.
  pub reached : (before after : Contents) (draft : Drafted) (refs : List Ref) → IsPlaced before after draft refs
      → (at : Ref) → AreNeeded draft.first draft.nodes (at ∷ []) → (r : Ref) → Contains refs r
      → Reaches after (stamp_of (placed_ref draft.first refs at)) (stamp_of r)
