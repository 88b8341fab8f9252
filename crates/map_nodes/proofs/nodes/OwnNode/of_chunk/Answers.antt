use Rattle.std.proofs.Common.{◌≡◌, ◌∙◌, ap, sym, subst, refl, ◌-◌, length, [], ◌∷◌}
use Rattle.group_history.specs.Rows.{Rows, keys_of, values_of, paired, AreKeys}
use Rattle.group_history.proofs.Pairs.{paired-parts}
use Rattle.map_chunks.specs.Shown.{own, leaf_keys}
use Rattle.map_nodes.specs.Inside.Copies.{MayBeDeep, chunk_pieces, chunk_entries, chunk_marks}
use Rattle.map_nodes.specs.Levels.{parting}
use Rattle.map_nodes.specs.Nodes.{row_pieces, kids_marks, sunk}
use Rattle.map_nodes.proofs.CopyLemmas.{all_as_placed, copied_inner, copied_pieces}
use Rattle.map_nodes.proofs.KeptLevels.{placed-values}
use Rattle.map_chunks.proofs.SearchLemmas.{length-keys_of}
use Rattle.map_nodes.proofs.nodes.OwnNode.of_chunk.Goals as goal

pub invariant_of-result-in-Inner : goal.invariant_of-result-in-Inner
invariant_of-result-in-Inner c =
    let kids = c.in-Inner.inner in
    let texts : c.shared-keys-in-Inner.result.texts
    ≡ keys_of kids = c.shared-keys-in-Inner.ensures ∙ c.in_ok-clone-in-Inner.ensures.cases ∙
    c.firsts.ensures.keys in
    let items : c.in_ok-placed_children-in-Inner.field-0.items
    ≡ all_as_placed (values_of kids) = c.in_ok-placed_children-in-Inner.ensures ∙ ap all_as_placed
    c.children.ensures in
    let deep = subst (MayBeDeep c.args.depth) c.in-Inner.is c.requires in
    copied_inner c.args.depth c.shared-keys-in-Inner.result.texts c.in_ok-placed_children-in-Inner.field-0.items kids
    texts items deep.0 deep.1
    (subst AreKeys (sym (c.shared-keys-in-Inner.ensures ∙ c.in_ok-clone-in-Inner.ensures.cases)) c.firsts.ensures.order)

pub returns-in_ok-copied_values-in-Leaf : goal.returns-in_ok-copied_values-in-Leaf
returns-in_ok-copied_values-in-Leaf c =
    let rows : Rows = c.in-Leaf.leaf in
    let texts : c.shared-keys.result.texts
    ≡ keys_of rows = c.shared-keys.ensures ∙ c.in_ok-clone-in-Leaf.ensures.cases ∙ c.keys.ensures.keys in
    let items : c.in_ok-copied_values-in-Leaf.field-0.items
    ≡ values_of rows = c.in_ok-copied_values-in-Leaf.ensures ∙ c.values.ensures in (
      refl,
      ap (λ w. row_pieces (paired w c.in_ok-copied_values-in-Leaf.field-0.items)) texts ∙ ap
          (λ w. row_pieces (paired (keys_of rows) w)) items
          ∙ ap row_pieces (paired-parts rows) ∙ ap (chunk_pieces c.args.depth) (sym c.in-Leaf.is),
      ap length texts ∙ length-keys_of rows ∙ ap chunk_entries (sym c.in-Leaf.is),
      ap (λ w. own 0 (leaf_keys w) ∷ []) texts ∙ ap (chunk_marks c.args.depth) (sym c.in-Leaf.is),
    )

pub returns-in_ok-placed_children-in-Inner : goal.returns-in_ok-placed_children-in-Inner
returns-in_ok-placed_children-in-Inner c =
    let kids = c.in-Inner.inner in
    let texts : c.shared-keys-in-Inner.result.texts
    ≡ keys_of kids = c.shared-keys-in-Inner.ensures ∙ c.in_ok-clone-in-Inner.ensures.cases ∙
    c.firsts.ensures.keys in
    let items : c.in_ok-placed_children-in-Inner.field-0.items
    ≡ all_as_placed (values_of kids) = c.in_ok-placed_children-in-Inner.ensures ∙ ap all_as_placed
    c.children.ensures in (
      refl,
      copied_pieces (c.args.depth - 1) c.shared-keys-in-Inner.result.texts
          c.in_ok-placed_children-in-Inner.field-0.items kids texts items ∙ ap (chunk_pieces c.args.depth)
          (sym c.in-Inner.is),
      ap length texts ∙ length-keys_of kids ∙ ap chunk_entries (sym c.in-Inner.is),
      ap (λ w. own 0 (parting w) ∷ sunk (kids_marks (c.args.depth - 1) c.in_ok-placed_children-in-Inner.field-0.items))
          texts
          ∙ ap (λ w. own 0 (parting (keys_of kids)) ∷ sunk (kids_marks (c.args.depth - 1) w))
          (items ∙ placed-values kids)
          ∙ ap (chunk_marks c.args.depth) (sym c.in-Inner.is),
    )
