use Rattle.std.proofs.Common.{Some, ap, sym, ◌∙◌}
use Rattle.group_history.specs.declared.nodes.Commit.{Commit}
use Rattle.group_history.specs.declared.refs.Ref.{Ref}
use Rattle.group_history.specs.Naming.{commit_content}
use Rattle.group_history.specs.Refs.{stamp_of}
use Rattle.commit_graph.proofs.Chained.{lies_was}
use Rattle.commit_graph.proofs.chains.look_at_commit.Goals as goal

pub tell-told-requires : goal.tell-told-requires
tell-told-requires g c =
    let m = g.N.Chunks.contents in
    c.requires.callable c.commit.result (lies_was (m c.args.nodes.now) (m c.show_commit.new.self) (stamp_of c.args.at)
    c.commit.result.now c.requires.known c.show_commit.ensures.grown.0
    (c.in_ok-held.ensures.content ∙ ap (λ (w : Commit Ref). Some (commit_content w)) (sym c.commit.ensures)))
