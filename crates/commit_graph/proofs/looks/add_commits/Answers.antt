use Rattle.std.proofs.Common.{[], ◌∷◌}
use Rattle.std.proofs.lemmas.Result.{on_ok_weaker}
use Rattle.commit_graph.specs.declared.founds.NamedNode.TheVariants as found
use Rattle.commit_graph.proofs.Findings.{adds_more}
use Rattle.commit_graph.proofs.looks.add_commits.Goals as goal

pub returns : goal.returns
returns c = on_ok_weaker c.add-2.result (λ h. adds_more c.args.frontier.now c.add.new.self c.add-2.new.self
    (found.Commit c.args.basis ∷ []) (found.Commit c.args.snapshot ∷ []) c.in_ok-add.ensures h) c.add-2.ensures
