-- What is pending, and more behind it.
use Rattle.std.specs.Prelude.{List, ◌++◌}
use Rattle.group_history.specs.declared.mutations.MutationFields.{MutationFields as Mutation}
use Rattle.group_history.specs.State.{State, state}

-- the state with more mutations at the end of what is pending
abbrev pub with_more : State → List Mutation → State
with_more s xs = state s.pulled s.cookie s.confirmed (s.pending ++ xs) s.closed
