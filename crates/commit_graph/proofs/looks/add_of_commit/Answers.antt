use Rattle.std.proofs.Common.{[], ◌∷◌, map}
use Rattle.std.proofs.lemmas.Result.{on_ok_weaker}
use Rattle.group_history.specs.Naming.{commits_named}
use Rattle.commit_graph.specs.declared.founds.NamedNode.TheVariants as found
use Rattle.commit_graph.proofs.Findings.{adds_more}
use Rattle.commit_graph.proofs.looks.add_of_commit.Goals as goal

pub returns : goal.returns
returns c =
    on_ok_weaker c.add_named.result (λ h. adds_more c.args.frontier.now c.add.new.self c.add_named.new.frontier
    (found.Chunk c.args.commit.now.root ∷ [])
    (map found.Commit (commits_named c.args.commit.now.kind)) c.in_ok-add.ensures h) c.add_named.ensures
