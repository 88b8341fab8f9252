-- Of which of the two kinds a node is.
use Rattle.std.specs.Prelude.{Bool, true, false, []}
use Rattle.std.specs.FinMap as finite
use Rattle.group_history.specs.declared.nodes.Chunk.{Chunk}
use Rattle.group_history.specs.declared.nodes.Chunk.TheVariants.{Leaf}
use Rattle.group_history.specs.declared.nodes.Commit.{Commit}
use Rattle.group_history.specs.declared.nodes.CommitKind.TheVariants.{Snapshot}
use Rattle.group_history.specs.declared.nodes.Node.{Node}
use Rattle.group_history.specs.declared.nodes.Node.TheVariants as node
use Rattle.group_history.specs.declared.refs.Ref.{Ref}
use Rattle.group_history.specs.Cookies.{null_cookie}
use Rattle.head_word.specs.Books.{nowhere}
use Rattle.commit_graph.specs.declared.shelves.LentCommit.{LentCommit}

-- the commit of a vector that is being shown
abbrev pub lent_commit : LentCommit → Commit Ref
lent_commit lent = lent.commit.now

abbrev pub is_chunk : Node Ref → Bool
is_chunk (node.Chunk c) = true
is_chunk (node.Commit c) = false

-- the chunk that a node is, or else an empty leaf
abbrev pub chunk_of : Node Ref → Chunk Ref
chunk_of (node.Chunk c) = c
chunk_of (node.Commit c) = Leaf []

-- the commit that a node is, or else a snapshot of nothing
abbrev pub commit_of : Node Ref → Commit Ref
commit_of (node.Chunk c) = record {
  root = nowhere;
  kind = Snapshot (record { cookie = null_cookie; confirmed = finite.empty });
}
commit_of (node.Commit c) = c
