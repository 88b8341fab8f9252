use Rattle.std.proofs.Common.{Some, ap, ◌∙◌}
use Rattle.group_history.specs.Map.{Entries, patched}
use Rattle.map_tree.specs.declared.tree.Tree.{Tree}
use Rattle.transactions.specs.Maps.{map_or, shown_map}
use Rattle.change_drafts.proofs.patches.patched_known.Goals as goal

pub returns-clause-map : goal.returns-clause-map
returns-clause-map g c m h =
    let known = g.K.NamesContents.known in let ops = c.args.patch.now in
    c.tree_of.ensures ∙ ap Some (c.in_ok-operate_all.ensures.ok ∙ ap (λ (n : Entries). patched n ops)
    (ap (λ (t : Tree). shown_map known t) c.new-view.ensures.tree ∙ ap map_or (c.at.ensures.map known ∙ h)))
