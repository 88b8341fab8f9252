use Rattle.std.proofs.Common.{sym, subst, List}
use Rattle.std.specs.List.{Contains}
use Rattle.group_history.specs.declared.nodes.Chunk.{Chunk}
use Rattle.group_history.specs.declared.refs.Ref.{Ref}
use Rattle.group_history.specs.Naming.{chunk_children}
use Rattle.commit_graph.specs.Inside.Reach.{Notes}
use Rattle.commit_graph.specs.Reach.{stamps_of}
use Rattle.commit_graph.proofs.beside.note_children.Goals as goal

pub returns-in-Leaf : goal.returns-in-Leaf
returns-in-Leaf c = subst (λ (k : Chunk Ref). Notes (Contains (stamps_of (chunk_children k))) c.args.frontier.now
    c.note_all.new.frontier) (sym c.in-Leaf.is) c.note_all.ensures

pub returns-in-Inner : goal.returns-in-Inner
returns-in-Inner c = subst (λ (k : Chunk Ref). Notes (Contains (stamps_of (chunk_children k))) c.args.frontier.now
    c.note_all-in-Inner.new.frontier) (sym c.in-Inner.is)
    (subst (λ (w : List Ref). Notes (Contains (stamps_of w)) c.args.frontier.now c.note_all-in-Inner.new.frontier)
    c.children.ensures c.note_all-in-Inner.ensures)
