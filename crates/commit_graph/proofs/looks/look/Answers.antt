use Rattle.std.proofs.Common.{ap, slice_get, ◌∙◌, rules}
use Rattle.std.proofs.lemmas.Result.{on_ok_weaker}
use Rattle.group_history.specs.declared.nodes.Node.TheVariants as node
use Rattle.group_history.specs.Refs.{stamp_of}
use Rattle.commit_graph.specs.declared.founds.NamedNode.{NamedNode}
use Rattle.commit_graph.specs.Inside.Reach.{stamp_in}
use Rattle.commit_graph.specs.Reach.{Reaches}
use Rattle.commit_graph.proofs.Noting.{notes_none}
use Rattle.commit_graph.proofs.looks.look.Goals as goal

pub returns-in_ok-branch-in-Commit-clause-added : goal.returns-in_ok-branch-in-Commit-clause-added
returns-in_ok-branch-in-Commit-clause-added g c =
    let k = c.in_ok-look_at_commit-in-Commit.ensures.told in
    let ns = g.N.Chunks.contents c.look_at_commit.new.nodes in (
      node.Commit k.0.now,
      c.args.frontier.now,
      k.1.0,
      search rules,
      notes_none (Reaches ns (stamp_of c.args.part.root)) c.args.frontier.now,
      search rules,
    )

pub returns-in-Chunk-clause-added : goal.returns-in-Chunk-clause-added
returns-in-Chunk-clause-added g c = let ns = g.N.Chunks.contents c.look_at_chunk.new.chunks in
    on_ok_weaker c.look_at_chunk.result
    (λ h. (
      node.Chunk h.0,
      h.1,
      h.2.0,
      ap (λ (f : NamedNode). slice_get ns (stamp_in f)) c.in-Chunk.is
          ∙ h.2.1,
      h.3,
      h.4,
    ))
    c.look_at_chunk.ensures.added
