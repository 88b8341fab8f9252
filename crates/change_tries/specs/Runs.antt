-- A run that a change asks for, and what is drafted before it.
use Rattle.std.specs.Prelude.{ℕ, ◌≡◌, ◌+◌, ◌<◌, ◌≤◌, Bool, true, false, List, [], ◌∷◌, ◌++◌, length, reverse, Some}
use Rattle.std.specs.Prelude.{None, IsSome}
use Rattle.std.specs.List.{All}
use Rattle.group_history.specs.declared.changes.Change.{Change}
use Rattle.group_history.specs.declared.changes.Change.TheVariants.{Mutated, Pulled, Closed}
use Rattle.group_history.specs.declared.mutations.MutationFields.{MutationFields as Mutation}
use Rattle.group_history.specs.declared.mutations.Reason.TheVariants.{Initial}
use Rattle.group_history.specs.declared.mutators.Ran.{Ran}
use Rattle.group_history.specs.declared.mutators.Ran.TheVariants as ran
use Rattle.group_history.specs.declared.refs.Ref.{Ref}
use Rattle.group_history.specs.Map.{Bytes, Entries}
use Rattle.group_history.specs.Meaning.{Meanings, meaning_of}
use Rattle.group_history.specs.Pulling.{after_pull}
use Rattle.group_history.specs.Ran.{RunsAs}
use Rattle.group_history.specs.Record.{IsAccepted, after_change}
use Rattle.group_history.specs.Refs.{stamp_of}
use Rattle.group_history.specs.Spelling.{Contents}
use Rattle.group_history.specs.State.{State, last_id, replayed, view_of}
use Rattle.map_chunks.specs.Drafts.{AreNeeded}
use Rattle.map_chunks.specs.Places.{with_nodes}
use Rattle.map_tree.specs.Trees.{tree_map}
use Rattle.map_tree.specs.declared.tree.Tree.{Tree}
use Rattle.change_drafts.specs.Chaining.{IsTip}
use Rattle.change_drafts.specs.Running.{map_now, map_then}
pub use Rattle.change_drafts.specs.Pending.{with_more}
use Rattle.change_tries.specs.Proposing.{MayPropose}
use Rattle.change_tries.specs.declared.runs.AskedRun.{AskedRun}
use Rattle.change_tries.specs.declared.runs.Chain.{Chain}
use Rattle.change_tries.specs.declared.runs.NextStep.{NextStep}
use Rattle.change_tries.specs.declared.runs.NextStep.TheVariants as step

-- what is placed, and the draft behind it
abbrev pub with_draft : Contents → Chain → Contents
with_draft cs chain = with_nodes cs chain.draft.nodes

-- the map where the run begins: that of the run with all that it wrote put back
abbrev pub run_start : Contents → AskedRun → Entries
run_start cs run = map_then (with_draft cs run.chain) run.map

-- the map as the run has left it so far
abbrev pub run_map : Contents → AskedRun → Entries
run_map cs run = map_now (with_draft cs run.chain) run.map

abbrev pub HasMap : Contents → AskedRun → Type 0
HasMap cs run = IsSome (tree_map (with_draft cs run.chain) run.map.tree)

-- it is the same run, whatever its map is
abbrev pub IsSameRun : AskedRun → AskedRun → Type 0
IsSameRun old new = (new.chain ≡ old.chain) × (new.ran ≡ old.ran) × (new.mutation ≡ old.mutation)
    × (new.behind ≡ old.behind)

-- The run ended so, and did what the mutation's meaning says at the map where it began. That is the caller's to see to.
abbrev pub IsRunOf : Meanings → Contents → AskedRun → Ran → Type 0
IsRunOf means cs run ran = RunsAs (meaning_of means run.mutation (run_start cs run)) ran (run_map cs run)

-- The newest commit is one of an open state. Some mutations were run on its map, and left this one; with them and those
-- that are left the state is that one. Each node that is drafted is a child of a later one, or that commit.
pub record Leads (means : Meanings) (cs : Contents) (after : State) (chain : Chain) (ran behind : List Mutation)
    (map : Entries) : Type 0 where
  pub first : length cs ≡ chain.draft.first
  pub needed : AreNeeded chain.draft.first chain.draft.nodes (chain.tip.commit ∷ [])
  pub basis : State
  pub tip : IsTip means (with_draft cs chain) chain.tip basis
  pub opened : basis.closed ≡ false
  pub mapped : map ≡ replayed means (view_of means basis) ran
  pub whole : with_more basis (ran ++ behind) ≡ after
  -- where there are none of them, nothing is pending
  pub bare : ran ++ behind ≡ [] → basis.pending ≡ []

-- the newest commit is one of the draft's own
abbrev pub HasNew : Chain → Type 0
HasNew chain = (0 < length chain.draft.nodes) × (chain.draft.first ≤ stamp_of chain.tip.commit)

-- The mutation is its client's next one at an open state.
pub record IsNext (s : State) (last : ℕ) (x : Mutation) : Type 0 where
  pub opened : s.closed ≡ false
  pub own : last_id s x.client ≡ last
  pub next : x.id ≡ last + 1
  pub initial : x.reason ≡ Initial

-- The chain is that of a new mutation: the newest commit is one of the state, and the mutation its client's next one.
pub record IsNewMutation (means : Meanings) (cs : Contents) (s : State) (last : ℕ) (x : Mutation) (chain : Chain) :
    Type 0 where
  pub first : length cs ≡ chain.draft.first
  pub needed : AreNeeded chain.draft.first chain.draft.nodes (chain.tip.commit ∷ [])
  pub tip : IsTip means (with_draft cs chain) chain.tip s
  pub next : IsNext s last x

-- the mutations that are left to be run, in order
abbrev pub left_of : AskedRun → List Mutation
left_of run = run.mutation ∷ reverse run.behind.items

-- So far as the change is judged before the run: a mutation is the next one, and is accepted where its own run, from
-- the map of the state, is done; a pull is accepted.
abbrev pub IsJudged : Meanings → Contents → State → ℕ → Change → AskedRun → Type 0
IsJudged means cs s last (Mutated x) run = (run.mutation ≡ x) × (run.behind.items ≡ []) × IsNext s last x
    × IsTip means (with_draft cs run.chain) run.chain.tip s × (run_start cs run ≡ view_of means s)
IsJudged means cs s last (Pulled ticket r) run = IsAccepted means s (Pulled ticket r) × HasNew run.chain
IsJudged means cs s last Closed run = ⊥

-- The run is one that the change asks for, which is made at this state behind contents.
pub record IsAskedRun (means : Meanings) (cs : Contents) (s : State) (last : ℕ) (change : Change) (run : AskedRun)
    : Type 0 where
  pub leads : Leads means cs (after_change s change) run.chain run.ran.items (left_of run) (run_start cs run)
  pub map : HasMap cs run
  pub judged : IsJudged means cs s last change run

-- Nothing was written yet, and the group has no mutator of this name.
abbrev pub IsFresh : (Bytes → Bool) → Contents → AskedRun → Type 0
IsFresh has cs run = (run_map cs run ≡ run_start cs run) × (has run.mutation.name ≡ false)

-- What is next for the change at the state of the base.
abbrev pub MayStep : (Bytes → Bool) → Meanings → Contents → Ref → State → ℕ → Change → NextStep → Type 0
MayStep has means cs base s last change (step.Run run) = IsAskedRun means cs s last change run × IsFresh has cs run
MayStep has means cs base s last change (step.Move p) = MayPropose means cs base s last change (Some p)
MayStep has means cs base s last change step.Same = MayPropose means cs base s last change None

-- The run has these parts: none was run before it, none is left behind it, and nothing was written yet.
abbrev pub IsNewRun : Chain → Mutation → Tree → AskedRun → Type 0
IsNewRun chain x tree run = (run.chain ≡ chain) × (run.ran.items ≡ []) × (run.mutation ≡ x) × (run.map.tree ≡ tree)
    × (run.map.before.items ≡ []) × (run.behind.items ≡ [])

-- such a run is asked for
abbrev pub AsksNew : Chain → Mutation → Tree → NextStep → Type 0
AsksNew chain x tree (step.Run run) = IsNewRun chain x tree run
AsksNew chain x tree (step.Move p) = ⊥
AsksNew chain x tree step.Same = ⊥

-- what a run leaves that ended so: the map as it is, where it was done, and else the one where it began
abbrev pub map_by : Ran → Entries → Entries → Entries
map_by ran.Done map start = map
map_by ran.Unknown map start = start
map_by (ran.Refused code) map start = start

-- Of these mutations the group ran the first ones, of which it has the mutators, from this map; and the run is of the
-- next one, from the map that they left.
pub record IsNextOf (has : Bytes → Bool) (means : Meanings) (cs : Contents) (left : List Mutation) (map : Entries)
    (run : AskedRun) : Type 0 where
  pub own : List Mutation
  pub had : All (λ (x : Mutation). has x.name ≡ true) own
  pub order : own ++ left_of run ≡ left
  pub start : run_start cs run ≡ replayed means map own

-- The next run of the same try, where this one ended so: it begins at what this one left.
abbrev pub IsRunBehind : (Bytes → Bool) → Meanings → Contents → AskedRun → Ran → AskedRun → Type 0
IsRunBehind has means cs run ran next = IsNextOf has means cs (reverse run.behind.items)
    (map_by ran (run_map cs run) (run_start cs run)) next

abbrev pub IsBehind : (Bytes → Bool) → Meanings → Contents → AskedRun → Ran → NextStep → Type 0
IsBehind has means cs run ran (step.Run next) = IsRunBehind has means cs run ran next
IsBehind has means cs run ran (step.Move p) = Unit {0}
IsBehind has means cs run ran step.Same = Unit {0}

-- no run is asked for
abbrev pub NeedsNoRun : NextStep → Type 0
NeedsNoRun (step.Run run) = ⊥
NeedsNoRun (step.Move p) = Unit {0}
NeedsNoRun step.Same = Unit {0}

-- what is next is of these mutations, from this map
abbrev pub IsOn : (Bytes → Bool) → Meanings → Contents → List Mutation → Entries → NextStep → Type 0
IsOn has means cs left map (step.Run run) = IsNextOf has means cs left map run
IsOn has means cs left map (step.Move p) = Unit {0}
IsOn has means cs left map step.Same = Unit {0}

-- It is one of these mutations, and the group ran those before it, of which it has the mutators.
abbrev pub IsOneOf : (Bytes → Bool) → List Mutation → AskedRun → Type 0
IsOneOf has left run = (own : List Mutation) × All (λ (x : Mutation). has x.name ≡ true) own
    × (own ++ left_of run ≡ left)

abbrev pub IsOnLeft : (Bytes → Bool) → List Mutation → NextStep → Type 0
IsOnLeft has left (step.Run run) = IsOneOf has left run
IsOnLeft has left (step.Move p) = Unit {0}
IsOnLeft has left step.Same = Unit {0}

-- The first run of a change at this state: at the end of a pull, of what stays pending, but for what the group runs
-- before.
abbrev pub IsFirstRun : (Bytes → Bool) → State → Change → AskedRun → Type 0
IsFirstRun has s (Mutated x) run = Unit {0}
IsFirstRun has s (Pulled ticket r) run = IsOneOf has (after_pull s r).pending run
IsFirstRun has s Closed run = Unit {0}

abbrev pub IsFirstStep : (Bytes → Bool) → State → Change → NextStep → Type 0
IsFirstStep has s change (step.Run run) = IsFirstRun has s change run
IsFirstStep has s change (step.Move p) = Unit {0}
IsFirstStep has s change step.Same = Unit {0}
