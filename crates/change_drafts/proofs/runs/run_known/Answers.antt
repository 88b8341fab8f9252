use Rattle.std.proofs.Common.{◌≡◌, Option, Some, ap, subst, sym, ◌∙◌}
use Rattle.std.specs.Prelude.{IfNone, IfSome, is_some}
use Rattle.group_history.specs.declared.mutators.Ran.{Ran}
use Rattle.group_history.specs.Map.{Entries}
use Rattle.group_history.specs.Meaning.{meaning_of}
use Rattle.group_history.specs.Ran.{RunsAs}
use Rattle.map_chunks.specs.Places.{AreAll}
use Rattle.map_tree.specs.Trees.{tree_places}
use Rattle.map_tree.specs.declared.tree.Tree.{Tree}
use Rattle.transactions.specs.Maps.{shown_map}
use Rattle.change_drafts.proofs.runs.run_known.Goals as goal

pub returns-in-Some-clause-ran : goal.returns-in-Some-clause-ran
returns-in-Some-clause-ran g c =
    let known = g.K.NamesContents.known in let means = g.M.Means.means in let x = c.args.mutation.now in
    let m = shown_map known c.run_over.new.view.tree in
    let ran = subst (λ (o : Option Ran). IfSome o (λ (r : Ran). RunsAs (meaning_of means x
    (shown_map known c.new-view.result.tree)) r m)) c.in-Some.is c.in_ok-found.ensures.ran in (
      sym c.in_ok-found.ensures.had ∙ ap is_some c.in-Some.is,
      (
        m,
        c.tree_of-tree.ensures,
        subst (λ (t : Tree). RunsAs (meaning_of means x (shown_map known t)) c.in-Some.ran m) c.new-view.ensures.tree
            ran,
      ),
    )

pub returns-in-None-clause-ran : goal.returns-in-None-clause-ran
returns-in-None-clause-ran g c =
    let known = g.K.NamesContents.known in
    let left = subst (λ (o : Option Ran). IfNone o (shown_map known c.run_over.new.view.tree
    ≡ shown_map known c.new-view.result.tree)) c.in-None.is c.in_ok-found.ensures.left in (
      sym c.in_ok-found.ensures.had ∙ ap is_some c.in-None.is,
      c.tree_of-tree.ensures ∙ ap (λ (m : Entries). Some m) (left ∙ ap (shown_map known) c.new-view.ensures.tree),
    )

pub new-view-requires-clause-places : goal.new-view-requires-clause-places
new-view-requires-clause-places g c = subst (λ chunks. AreAll (g.C.Chunks.places chunks) (tree_places c.args.tree))
    (sym c.new.ensures) c.requires.places
