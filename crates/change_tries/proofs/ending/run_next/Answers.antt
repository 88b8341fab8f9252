use Rattle.std.proofs.Common.{refl, ap, sym, subst, ◌∙◌}
use Rattle.head_word.specs.Books.{drawn}
use Rattle.map_tree.specs.Trees.{tree_map}
use Rattle.change_drafts.specs.Running.{MayReplay}
use Rattle.change_drafts.specs.declared.runs.Replayed.{Replayed}
use Rattle.change_tries.specs.Going.{HasGone}
use Rattle.change_tries.specs.Runs.{with_draft}
use Rattle.change_tries.specs.declared.ending.Went.TheVariants as went
use Rattle.change_tries.specs.declared.runs.AskedRun.{AskedRun}
use Rattle.change_tries.proofs.ending.run_next.Goals as goal

pub returns-in_ok-push-in-Ran-clause-went : goal.returns-in_ok-push-in-Ran-clause-went
returns-in_ok-push-in-Ran-clause-went g c map mapped =
    let there = with_draft (drawn c.args.at.now.mark.log) c.args.replaying.chain in let x = c.args.mutation in
    let may = subst (λ (w : Replayed). MayReplay there (g.M.Has.has x.name) g.M.Means.means map x w) c.in-Ran.is
    (c.in_ok-tree.ensures.left map mapped) in
    (may.0, refl, refl, c.in_ok-push-in-Ran.ensures.items, may.1)

pub returns-in_ok-new-in-Lacks-clause-went : goal.returns-in_ok-new-in-Lacks-clause-went
returns-in_ok-new-in-Lacks-clause-went g c map mapped =
    let cs = drawn c.args.at.now.mark.log in let was = c.args.replaying in
    let there = with_draft cs was.chain in let x = c.args.mutation in let means = g.M.Means.means in
    let may = subst (λ (w : Replayed). MayReplay there (g.M.Has.has x.name) means map x w) c.in-Lacks.is
    (c.in_ok-tree.ensures.left map mapped) in
    subst (λ (w : AskedRun). HasGone g.M.Has.has means cs was x map (went.Asked w)) (sym c.in_ok-new-in-Lacks.ensures)
    (may.0, refl, refl, refl, refl, c.new-map.ensures.1, ap (tree_map there) c.new-map.ensures.0 ∙ may.1)
