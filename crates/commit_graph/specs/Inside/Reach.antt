-- What a walk has found, and how its lists stand to one another.
use Rattle.std.specs.Prelude.{ℕ, suc, ◌≡◌, ◌<◌, ◌⊎◌, ◌↔◌, List, [], ◌∷◌, ◌++◌, map, Option, Some, IfSome}
use Rattle.std.specs.List.{Contains}
use Rattle.group_history.specs.declared.nodes.Node.{Node}
use Rattle.group_history.specs.declared.nodes.Node.TheVariants as node
use Rattle.group_history.specs.declared.refs.Ref.{Ref}
use Rattle.group_history.specs.Refs.{stamp_of}
use Rattle.group_history.specs.Naming.{chunk_children, commits_named}
use Rattle.group_history.specs.Spelling.{Contents, Segment, Version, segment_at, version_at}
use Rattle.commit_graph.specs.declared.founds.NamedNode.{NamedNode}
use Rattle.commit_graph.specs.declared.founds.NamedNode.TheVariants as found
use Rattle.commit_graph.specs.Inside.Chains.{listed}
use Rattle.commit_graph.specs.Reach.{stamps_of}

-- the reference of a node that was found, and its stamp
abbrev pub ref_in : NamedNode → Ref
ref_in (found.Chunk r) = r
ref_in (found.Commit r) = r

abbrev pub stamp_in : NamedNode → ℕ
stamp_in f = stamp_of (ref_in f)

-- what a node names, each by its kind
abbrev pub found_in : Node Ref → List NamedNode
found_in (node.Chunk c) = map found.Chunk (chunk_children c)
found_in (node.Commit c) = found.Chunk c.root ∷ map found.Commit (commits_named c.kind)

-- it is of its kind, with all below it
abbrev pub IsSpelled : Contents → NamedNode → Type 0
IsSpelled ns (found.Chunk r) = (s : Segment) × (segment_at ns (stamp_of r) ≡ Some s)
IsSpelled ns (found.Commit r) = (v : Version) × (version_at ns (stamp_of r) ≡ Some v)

-- a node may be looked for at each of these
abbrev pub AreFound : (Ref → Type 0) → List NamedNode → Type 0
AreFound places fs = (f : NamedNode) → Contains fs f → places (ref_in f)

-- each stands under its stamp
abbrev pub AreKeyed : List (ℕ × NamedNode) → Type 0
AreKeyed es = map (λ e. e.0) es ≡ map (λ e. stamp_in e.1) es

-- one of these has the stamp
abbrev pub HasStampIn : List NamedNode → ℕ → Type 0
HasStampIn fs x = (f : NamedNode) × Contains fs f × (stamp_in f ≡ x)

-- news are olds and xs, one for each stamp
pub record Joins (olds xs news : List NamedNode) : Type 0 where
  pub from : (f : NamedNode) → Contains news f → Contains olds f ⊎ Contains xs f
  pub kept : (f : NamedNode) → Contains olds f → HasStampIn news (stamp_in f)
  pub added : (f : NamedNode) → Contains xs f → HasStampIn news (stamp_in f)

-- the nodes that stand in a row
abbrev pub row_nodes : List (Option NamedNode) → List NamedNode
row_nodes [] = []
row_nodes (o ∷ os) = listed o ++ row_nodes os

-- each bears the stamp of its place, of which this is the first one's
abbrev pub StandFrom : ℕ → List (Option NamedNode) → Type 0
StandFrom low [] = Unit {0}
StandFrom low (o ∷ os) = IfSome o (λ f. stamp_in f ≡ low) × StandFrom (suc low) os

-- nodes whose stamps aren't below the lowest one
pub record FromLow : Type 0 where
  pub low : ℕ
  pub nodes : List NamedNode

-- each of these has a smaller stamp
abbrev pub AreUnder : ℕ → List NamedNode → Type 0
AreUnder low fs = (f : NamedNode) → Contains fs f → stamp_in f < low

-- What a walk still has to look at, and some of the stamps that it has met.
pub record Walked : Type 0 where
  pub ahead : List NamedNode
  pub met : List ℕ

-- One step further xs are ahead too, but for what was met before. What is ahead has one node for each stamp.
pub record Adds (olds : Walked) (xs : List NamedNode) (news : Walked) : Type 0 where
  pub from : (f : NamedNode) → Contains news.ahead f → Contains olds.ahead f ⊎ Contains xs f
  pub kept : (f : NamedNode) → Contains olds.ahead f → HasStampIn news.ahead (stamp_in f)
  pub added : (f : NamedNode) → Contains xs f → HasStampIn news.ahead (stamp_in f) ⊎ Contains olds.met (stamp_in f)
  pub met : (x : ℕ) → Contains news.met x → HasStampIn news.ahead x ⊎ Contains olds.met x

-- What is ahead stays. Some stamps that have the property are known as met.
abbrev pub Notes : (ℕ → Type 0) → Walked → Walked → Type 0
Notes may olds news = (news.ahead ≡ olds.ahead)
    × ((x : ℕ) → Contains news.met x → Contains olds.met x ⊎ may x)

-- Left has what stands in before and has no stamp of kept.
abbrev pub Omits : List Ref → List Ref → List Ref → Type 0
Omits before kept left = (r : Ref) → Contains left r ↔
    (Contains before r × (Contains (stamps_of kept) (stamp_of r) → ⊥))
