-- What the commits of a chain add, from its oldest on.
use Rattle.std.specs.Prelude.{◌≡◌, ℕ, List, [], ◌∷◌, ◌++◌, slice_get, Option, Some, None, IsSome}
use Rattle.group_history.specs.declared.mutations.MutationFields.{MutationFields as Mutation}
use Rattle.group_history.specs.declared.nodes.Commit.{Commit}
use Rattle.group_history.specs.declared.nodes.CommitKind.{CommitKind}
use Rattle.group_history.specs.declared.nodes.CommitKind.TheVariants.{Snapshot, Over}
use Rattle.group_history.specs.declared.nodes.Node.TheVariants as node
use Rattle.group_history.specs.declared.refs.Ref.{Ref}
use Rattle.group_history.specs.Refs.{stamp_of}
use Rattle.group_history.specs.Spelling.{Contents, version_at}
use Rattle.commit_graph.specs.Inside.Chains.{added_by, listed}

-- the mutation that a commit of a kind adds to what is pending
abbrev pub added_in : {A : Type 0} → CommitKind A → Option Mutation
added_in (Snapshot s) = None
added_in (Over o) = added_by o.step

-- the commit of a stamp adds this
abbrev pub IsAdded : Contents → ℕ → Option Mutation → Type 0
IsAdded ns k o = (c : Commit ℕ) × (slice_get ns k ≡ Some (node.Commit c)) × (added_in c.kind ≡ o)

-- The commits at these references, the oldest first, add these mutations in order, and each may be looked for.
abbrev pub AddUp : (Ref → Type 0) → Contents → List Ref → List Mutation → Type 0
AddUp places ns [] ms = ms ≡ []
AddUp places ns (at ∷ ats) ms =
    (o : Option Mutation) × (more : List Mutation) × places at × IsSome (version_at ns (stamp_of at))
    × IsAdded ns (stamp_of at) o × AddUp places ns ats more × (ms ≡ listed o ++ more)
