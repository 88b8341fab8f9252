-- The nodes that a freeze appends are needed for its answer.
use Rattle.std.proofs.Common.{◌≡◌, ◌<◌, ◌+◌, ℕ, zero, suc, List, [], ◌∷◌, ◌++◌, length, set, sym, subst, arith}
use Rattle.std.specs.Arc.{arc_value}
use Rattle.std.specs.List.{Contains}
use Rattle.group_history.specs.declared.nodes.Chunk.TheVariants as chunked
use Rattle.group_history.specs.declared.nodes.Node.TheVariants as node
use Rattle.group_history.specs.declared.refs.Ref.{Ref}
use Rattle.group_history.specs.Map.{Bytes}
use Rattle.group_history.specs.Refs.{stamp_of}
use Rattle.group_history.specs.Rows.{paired, values_of}
use Rattle.group_history.proofs.Lists.{first_here, later_here, only_one}
use Rattle.group_history.proofs.Pairs.{values_of-paired}
use Rattle.map_chunks.specs.Drafts.{Drafted, AddsNeeded}
use Rattle.map_chunks.specs.Shown.{Seen}
use Rattle.map_chunks.proofs.NeededLemmas.{AreIn, adds_over}
use Rattle.map_nodes.proofs.StepLemmas.{names_length}
use Rattle.map_nodes.specs.Trails.{step_names, IsStep}
use Rattle.map_nodes.specs.declared.nodes.trails.Step.{Step}

in_pairs : (keys : List Bytes) (ats : List Ref) → length ats ≡ length keys → AreIn ats (values_of (paired keys ats))
in_pairs keys ats l r i = subst (λ w. Contains w r) (sym (values_of-paired keys ats l)) i

-- a chunk behind its children
pub needed_inner : (old mid new : Drafted) (keys : List Bytes) (ats : List Ref) (es : List (Bytes × Ref)) (root : Ref)
    → length ats ≡ length keys → es ≡ paired keys ats → AddsNeeded [] ats old mid
    → stamp_of root ≡ mid.first + length mid.nodes
    → new ≡ record { first = mid.first; nodes = mid.nodes ++ node.Chunk (chunked.Inner es) ∷ [] }
    → AddsNeeded [] (root ∷ []) old new
needed_inner old mid new keys ats es root l e p k is = adds_over ats old mid new (node.Chunk (chunked.Inner es)) root
    (subst (λ w. AreIn ats (values_of w)) (sym e) (in_pairs keys ats l)) p k is

set_here : (ats : List Ref) (i : ℕ) (at : Ref) → i < length ats → Contains (set ats i at) at
set_here [] i at l = absurd (omega arith)
set_here (a ∷ ats) zero at l = first_here at ats
set_here (a ∷ ats) (suc i) at l = later_here a (set ats i at) at (set_here ats i at (omega arith))

-- a step behind the chunk below it
pub needed_step : (old mid new : Drafted) (s : Step) (below : Seen) (at root : Ref) → IsStep s below
    → AddsNeeded [] (at ∷ []) old mid → stamp_of root ≡ mid.first + length mid.nodes
    → new ≡ record {
      first = mid.first;
      nodes = mid.nodes ++ node.Chunk (chunked.Inner (paired (arc_value s.keys) (step_names s at))) ∷ [];
    }
    → AddsNeeded [] (root ∷ []) old new
needed_step old mid new s below at root h p k is =
    let here : Contains (step_names s at) at = set_here s.children.items s.place at (omega (arith, h.1, h.2)) in
    adds_over (at ∷ []) old mid new (node.Chunk (chunked.Inner (paired (arc_value s.keys) (step_names s at)))) root
    (λ r i. in_pairs (arc_value s.keys) (step_names s at) (names_length s below at h) r
    (subst (Contains (step_names s at)) (only_one at r i) here)) p k is
