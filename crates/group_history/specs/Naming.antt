-- How a node names its children.
use Rattle.std.specs.Prelude.{ℕ, ◌+◌, ◌-◌, nat_lt, cond, List, [], ◌∷◌, map, slice_index_or}
use Rattle.group_history.specs.declared.nodes.Chunk.{Chunk}
use Rattle.group_history.specs.declared.nodes.Chunk.TheVariants.{Leaf, Inner}
use Rattle.group_history.specs.declared.nodes.Commit.{Commit}
use Rattle.group_history.specs.declared.nodes.CommitKind.{CommitKind}
use Rattle.group_history.specs.declared.nodes.CommitKind.TheVariants.{Snapshot, Over}
use Rattle.group_history.specs.declared.nodes.Node.{Node}
use Rattle.group_history.specs.declared.nodes.Node.TheVariants as node
use Rattle.group_history.specs.declared.nodes.Child.{Child}
use Rattle.group_history.specs.declared.nodes.Child.TheVariants.{Placed, Drafted}
use Rattle.group_history.specs.declared.refs.Ref.{Ref}
use Rattle.group_history.specs.Refs.{stamp_of}
use Rattle.group_history.specs.Rows.{values_of}

-- the node with each child named anew
abbrev pub renamed_chunk : {A B : Type 0} → (A → B) → Chunk A → Chunk B
renamed_chunk f (Leaf rows) = Leaf rows
renamed_chunk f (Inner kids) = Inner (map (λ e. (e.0, f e.1)) kids)

abbrev pub renamed_kind : {A B : Type 0} → (A → B) → CommitKind A → CommitKind B
renamed_kind f (Snapshot s) = Snapshot s
renamed_kind f (Over o) =
    Over (record { basis = f o.basis; snapshot = f o.snapshot; step = o.step; told = o.told })

abbrev pub renamed_commit : {A B : Type 0} → (A → B) → Commit A → Commit B
renamed_commit f c = record { root = f c.root; kind = renamed_kind f c.kind }

abbrev pub renamed : {A B : Type 0} → (A → B) → Node A → Node B
renamed f (node.Chunk c) = node.Chunk (renamed_chunk f c)
renamed f (node.Commit c) = node.Commit (renamed_commit f c)

-- the children's names
abbrev pub chunk_children : {A : Type 0} → Chunk A → List A
chunk_children (Leaf rows) = []
chunk_children (Inner kids) = values_of kids

-- the commits that a commit names: its basis, and the snapshot of its chain
abbrev pub commits_named : {A : Type 0} → CommitKind A → List A
commits_named (Snapshot s) = []
commits_named (Over o) = o.basis ∷ o.snapshot ∷ []

abbrev pub commit_children : {A : Type 0} → Commit A → List A
commit_children c = c.root ∷ commits_named c.kind

abbrev pub children : {A : Type 0} → Node A → List A
children (node.Chunk c) = chunk_children c
children (node.Commit c) = commit_children c

-- the content that lies in a slot: a node whose children are named by stamps
abbrev pub content_of : Node Ref → Node ℕ
content_of n = renamed stamp_of n

abbrev pub chunk_content : Chunk Ref → Node ℕ
chunk_content c = content_of (node.Chunk c)

abbrev pub commit_content : Commit Ref → Node ℕ
commit_content c = content_of (node.Commit c)

-- the stamp of a child of a draft whose first stamp is this
abbrev pub child_stamp : ℕ → Child → ℕ
child_stamp first (Placed at) = stamp_of at
child_stamp first (Drafted place) = first + place

-- the content that a drafted node becomes
abbrev pub drafted_content : ℕ → Node Child → Node ℕ
drafted_content first n = renamed (child_stamp first) n

-- the reference of a child of a drafted node, where the draft's nodes, with stamps from `from` on, were placed at these
-- references
abbrev pub placed_ref : ℕ → List Ref → Ref → Ref
placed_ref from refs at = cond (nat_lt (stamp_of at) from) at (slice_index_or refs (stamp_of at - from) at)
