use Rattle.std.proofs.Common.{◌≡◌, [], Some, length, map, ap, sym, subst, refl, ◌∙◌}
use Rattle.std.specs.Prelude.{IsSome}
use Rattle.std.proofs.lemmas.List.{append-nil, length-map}
use Rattle.group_history.specs.Naming.{content_of}
use Rattle.map_chunks.specs.Drafts.{Drafted}
use Rattle.map_chunks.specs.Places.{with_nodes}
use Rattle.map_tree.specs.Trees.{tree_map}
use Rattle.map_chunks.proofs.Shelves.{some_of}
use Rattle.map_tree.proofs.BelowLemmas.{tree-ready}
use Rattle.test_parts.proofs.tests.maps.placed.Goals as goal

pub invariant_of-result : goal.invariant_of-result
invariant_of-result c =
    let ns = c.grown.new.chunks.nodes.now in
    let contents = map content_of ns in
    let m = some_of (tree_map contents c.in_ok-tree.tree) c.in_ok-tree.ensures in
    let first : length contents ≡ c.draft-draft.result.first = length-map ns content_of ∙ sym
    (ap (λ (d : Drafted). d.first) c.draft-draft.ensures) in
    let none : c.draft-draft.result.nodes ≡ [] = ap (λ (d : Drafted). d.nodes) c.draft-draft.ensures in
    let was : tree_map (with_nodes contents c.draft-draft.result.nodes) c.in_ok-tree.tree ≡ Some m.0 =
    ap (λ w. tree_map (with_nodes contents w) c.in_ok-tree.tree) none ∙ ap (λ w. tree_map w c.in_ok-tree.tree)
    (append-nil contents) ∙ m.1 in
    record {
      behind = c.in_ok-root.ensures.first ∙ ap (λ (d : Drafted). d.first) c.draft-draft.ensures;
      spelled = subst IsSome (sym (c.in_ok-root.ensures.spelled contents m.0 first was)) refl;
    }

pub freeze-requires : goal.freeze-requires
freeze-requires c = record {
  below = tree-ready c.grown.new.chunks.nodes.now c.draft-draft.result c.in_ok-tree.tree
      c.draft-draft.ensures c.in_ok-tree.ensures;
}
