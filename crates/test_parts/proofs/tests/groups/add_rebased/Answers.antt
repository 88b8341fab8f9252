use Rattle.std.proofs.Common.{◌≡◌, ℕ, List, [], Option, Some, map, refl, sym, ap, subst, ◌∙◌}
use Rattle.std.specs.Prelude.{IfSome, IsSome}
use Rattle.group_history.specs.declared.nodes.Node.{Node}
use Rattle.group_history.specs.declared.refs.Ref.{Ref}
use Rattle.group_history.specs.Map.{Entries, patched}
use Rattle.group_history.specs.Naming.{content_of}
use Rattle.group_history.specs.Refs.{stamp_of}
use Rattle.group_history.specs.Spelling.{Contents, Version, map_at, version_at, version_of}
use Rattle.group_history.specs.State.{State, pulled_state, replayed}
use Rattle.change_drafts.proofs.ReplayLemmas.{tip-same}
use Rattle.map_chunks.proofs.Shelves.{some_of}
use Rattle.map_chunks.specs.Drafts.{Drafted}
use Rattle.map_chunks.specs.Places.{with_nodes}
use Rattle.map_tree.specs.Trees.{tree_map}
use Rattle.map_tree.specs.declared.tree.Tree.{Tree}
use Rattle.script_mutators.specs.Mutators.{script_means}
use Rattle.test_parts.proofs.PlacedLemmas.{bare, stays, placed}
use Rattle.test_parts.proofs.tests.groups.add_rebased.Goals as goal

-- what is there at a stamp of the nodes at hand, when a draft was begun
found : (contents : Contents) (d : Drafted) (first k : ℕ) (m : Entries) → d ≡ record { first = first; nodes = [] }
    → map_at contents k ≡ Some m → map_at (with_nodes contents d.nodes) k ≡ Some m
found contents d first k m begun is = ap (λ (w : Contents). map_at w k) (bare contents d first begun) ∙ is

pub base_at-requires-clause-tip : goal.base_at-requires-clause-tip
base_at-requires-clause-tip c =
    let v = some_of (version_at (map content_of c.args.nodes.now) (stamp_of c.args.head)) c.requires in (
      v.0,
      c.in_ok-look.ensures.tip v.0
          (ap (λ (ns : List (Node Ref)). version_at (map content_of ns) (stamp_of c.args.head))
          c.shelf-shelf.ensures ∙ v.1),
    )

pub add_patched-requires-clause-map : goal.add_patched-requires-clause-map
add_patched-requires-clause-map c =
    let v = some_of (version_at (map content_of c.args.nodes.now) (stamp_of c.args.head)) c.requires in
    let tip = c.in_ok-look.ensures.tip v.0
    (ap (λ (ns : List (Node Ref)). version_at (map content_of ns) (stamp_of c.args.head))
    c.shelf-shelf.ensures ∙ v.1) in
    subst IsSome (sym (found (map content_of c.shelf-shelf.result.nodes.now) c.draft-draft.result _
    (stamp_of c.in_ok-base.base.pulled) v.0.state.pulled c.draft-draft.ensures (c.in_ok-base.ensures.base v.0 tip).2))
    refl

pub run_pending-requires-clause-map : goal.run_pending-requires-clause-map
run_pending-requires-clause-map c κs within =
    let v = some_of (version_at (map content_of c.args.nodes.now) (stamp_of c.args.head)) c.requires in
    let tip = c.in_ok-look.ensures.tip v.0
    (ap (λ (ns : List (Node Ref)). version_at (map content_of ns) (stamp_of c.args.head))
    c.shelf-shelf.ensures ∙ v.1) in
    let there = found (map content_of c.shelf-shelf.result.nodes.now) c.draft-draft.result _
    (stamp_of c.in_ok-base.base.pulled) v.0.state.pulled c.draft-draft.ensures
    (c.in_ok-base.ensures.base v.0 tip).2 in
    (patched v.0.state.pulled c.args.pull.now.patch, (c.in_ok-basis.ensures.tip v.0.state.pulled there).1)

pub add_replayed-requires-clause-tip : goal.add_replayed-requires-clause-tip
add_replayed-requires-clause-tip c =
    let v = some_of (version_at (map content_of c.args.nodes.now) (stamp_of c.args.head)) c.requires in
    let tip = c.in_ok-look.ensures.tip v.0
    (ap (λ (ns : List (Node Ref)). version_at (map content_of ns) (stamp_of c.args.head))
    c.shelf-shelf.ensures ∙ v.1) in
    let contents = map content_of c.shelf-shelf.result.nodes.now in
    let there = found contents c.draft-draft.result _ (stamp_of c.in_ok-base.base.pulled) v.0.state.pulled
    c.draft-draft.ensures (c.in_ok-base.ensures.base v.0 tip).2 in
    let m = patched v.0.state.pulled c.args.pull.now.patch in
    let basis = c.in_ok-basis.ensures.tip v.0.state.pulled there in (
      pulled_state m c.args.pull.now.cookie c.in_ok-confirmed.confirmed,
      basis,
      refl,
      subst (λ (o : Option Tree). IfSome o (λ (tree : Tree).
          tree_map (with_nodes contents c.add_patched.new.draft.nodes) tree
          ≡ Some (replayed script_means m c.as_slice-left.result.now))) c.in-Some.is
          (c.in_ok-found.ensures.left m basis.1),
    )

pub add_replayed-requires-clause-told : goal.add_replayed-requires-clause-told
add_replayed-requires-clause-told c s before newest tip is =
    let v = some_of (version_at (map content_of c.args.nodes.now) (stamp_of c.args.head)) c.requires in
    let old = c.in_ok-look.ensures.tip v.0
    (ap (λ (ns : List (Node Ref)). version_at (map content_of ns) (stamp_of c.args.head))
    c.shelf-shelf.ensures ∙ v.1) in
    let contents = map content_of c.shelf-shelf.result.nodes.now in
    let there = found contents c.draft-draft.result _ (stamp_of c.in_ok-base.base.pulled) v.0.state.pulled
    c.draft-draft.ensures (c.in_ok-base.ensures.base v.0 old).2 in
    let m = patched v.0.state.pulled c.args.pull.now.patch in
    let start = pulled_state m c.args.pull.now.cookie c.in_ok-confirmed.confirmed in
    let same : s ≡ start = ap (λ (w : Version). w.state)
    (tip-same (with_nodes contents c.add_patched.new.draft.nodes) c.in_ok-basis.basis (version_of script_means s)
    (record { state = start; read = m }) tip (c.in_ok-basis.ensures.tip v.0.state.pulled there)) in
    c.in_ok-told.ensures.told s before newest (ap (λ (w : State). w.confirmed) same)
    (ap (λ (w : State). w.pending) same) is

pub returns-clause-old : goal.returns-clause-old
returns-clause-old c = stays c.args.nodes.now c.add_replayed.new.draft.nodes c.append.new.self
    (stamp_of c.args.head) c.in_ok-append.ensures.ok c.requires

pub returns-clause-new : goal.returns-clause-new
returns-clause-new c =
    let v = some_of (version_at (map content_of c.args.nodes.now) (stamp_of c.args.head)) c.requires in
    let tip = c.in_ok-look.ensures.tip v.0
    (ap (λ (ns : List (Node Ref)). version_at (map content_of ns) (stamp_of c.args.head))
    c.shelf-shelf.ensures ∙ v.1) in
    let contents = map content_of c.shelf-shelf.result.nodes.now in
    let there = found contents c.draft-draft.result _ (stamp_of c.in_ok-base.base.pulled) v.0.state.pulled
    c.draft-draft.ensures (c.in_ok-base.ensures.base v.0 tip).2 in
    let m = patched v.0.state.pulled c.args.pull.now.patch in
    let basis = c.in_ok-basis.ensures.tip v.0.state.pulled there in
    let left = subst (λ (o : Option Tree). IfSome o (λ (tree : Tree).
    tree_map (with_nodes contents c.add_patched.new.draft.nodes) tree
    ≡ Some (replayed script_means m c.as_slice-left.result.now))) c.in-Some.is (c.in_ok-found.ensures.left m basis.1) in
    placed c.shelf-shelf.result.nodes.now c.args.nodes.now c.add_replayed.new.draft.nodes c.append.new.self
    (stamp_of c.in_ok-tip.tip.commit) _ c.shelf-shelf.ensures c.in_ok-append.ensures.ok
    (c.in_ok-tip.ensures.tip (pulled_state m c.args.pull.now.cookie c.in_ok-confirmed.confirmed) basis refl left).0
