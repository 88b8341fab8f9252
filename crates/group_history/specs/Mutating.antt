-- Accepting a mutation: what the call answers, and the state after it.
-- Source: Replicache, How It Works, "Mutations"; Push Endpoint Reference, "mutations".
-- Closed, Stale, and that a refusing mutator is not recorded, are this project's own rules.
use Rattle.std.specs.Prelude.{ℕ, ◌+◌, [], ◌∷◌, ◌++◌, nat_eq, if◌then◌else◌, Result, Ok, Err}
use Rattle.group_history.specs.declared.refusals.Refusal.{Refusal}
use Rattle.group_history.specs.declared.refusals.Refusal.TheVariants as refusal
use Rattle.group_history.specs.declared.mutations.MutationFields.{MutationFields as Mutation}
use Rattle.group_history.specs.Map.{Entries}
use Rattle.group_history.specs.Meaning.{Meaning, Meanings, unknown, refuses, done, meaning_of}
use Rattle.group_history.specs.State.{State, state, view_of, last_id}

-- by what the mutation means
abbrev pub by_meaning : Meaning → ℕ → Result ℕ Refusal
by_meaning unknown id = Err refusal.NoMutator
by_meaning (refuses code) id = Err (refusal.Refused code)
by_meaning (done m) id = Ok id

-- the map that a mutation leaves, or why it is refused
abbrev pub map_if_done : Meaning → Result Entries Refusal
map_if_done unknown = Err refusal.NoMutator
map_if_done (refuses code) = Err (refusal.Refused code)
map_if_done (done m) = Ok m

-- the reply at an open state
abbrev pub open_reply : Meanings → State → ℕ → Mutation → Result ℕ Refusal
open_reply means s last x =
    if nat_eq (last_id s x.client) last then by_meaning (meaning_of means x (view_of means s))
    (last + 1) else Err refusal.Stale

-- The reply to a mutation by a client whose own last id is `last`: the next id, where the mutator is done at the view.
abbrev pub mutate_reply : Meanings → State → ℕ → Mutation → Result ℕ Refusal
mutate_reply means s last x = if s.closed then Err refusal.Closed else open_reply means s last x

-- the state with a mutation at the end of what is pending
abbrev pub after_mutate : State → Mutation → State
after_mutate s x = state s.pulled s.cookie s.confirmed (s.pending ++ x ∷ []) s.closed

-- The state that a mutation leaves, by its reply: an accepted one is pending, a refused one leaves the state.
abbrev pub left_by_mutate : Result ℕ Refusal → State → Mutation → State
left_by_mutate (Ok id) s x = after_mutate s x
left_by_mutate (Err e) s x = s
