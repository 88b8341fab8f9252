-- A change whose mutators the caller runs: what is shown of it while it is under way, and how its call ends.
use Rattle.std.specs.Prelude.{ℕ, ◌≡◌, ◌⊎◌, ◌<◌, ◌∷◌, ◌++◌, Bool, true, false, List, [], max, Option, Some, None, Result}
use Rattle.std.specs.Prelude.{IfErr}
use Rattle.std.specs.List.{All}
use Rattle.group_history.specs.declared.changes.Change.{Change}
use Rattle.group_history.specs.declared.changes.Change.TheVariants.{Mutated, Pulled, Closed}
use Rattle.group_history.specs.declared.mutations.MutationFields.{MutationFields as Mutation}
use Rattle.group_history.specs.declared.mutators.Ran.{Ran}
use Rattle.group_history.specs.declared.refusals.Refusal.{Refusal}
use Rattle.group_history.specs.declared.responses.Response.TheVariants as response
use Rattle.group_history.specs.Cookies.{Cookie}
use Rattle.group_history.specs.Map.{Bytes, Entries}
use Rattle.group_history.specs.Meaning.{Meanings}
use Rattle.group_history.specs.Mutating.{mutate_reply}
use Rattle.group_history.specs.Pulling.{after_pull, end_reply}
use Rattle.group_history.specs.Record.{IsAccepted, after, after_change}
use Rattle.group_history.specs.State.{State, last_id, replayed, view_of}
use Rattle.head_word.specs.declared.entry.Entry.{Entry}
use Rattle.linearized.specs.Answered.{IsLinearized}
use Rattle.head_word.specs.Books.{record_of}
use Rattle.pull_patch.specs.Grammar.{answer_to}
use Rattle.linearized.specs.Changes.{change_applied, change_closing, change_made, change_read}
use Rattle.commit_graph.specs.Seats.{HasLooked}
use Rattle.change_tries.specs.Causes.{HasCause}
use Rattle.change_tries.specs.Leaving.{Frees, spared}
use Rattle.change_tries.specs.Missing.{map_ok}
use Rattle.change_tries.specs.Runs.{map_by, with_more}
use Rattle.change_tries.specs.Tries.{IsArrivedSince}
use Rattle.rebase.specs.Asking.{change_wanted, end_bytes_reply}
use Rattle.rebase.specs.Calls.{ended_in, id_in, last_after}
use Rattle.rebase.specs.Clients.{AfterChange, ClientState, IsSameClient}
use Rattle.rebase.specs.Replies.{Replied, ended, id}

-- A change that is under way: its client, whose pin is held; the change; the mutation whose mutator is to be run, the
-- map where its run began, the map as the run has left it so far, and the mutations that are run behind it. And what
-- had been seen of the book when the head was looked at, after so many tries that were lost, of those that the call may
-- make.
pub record UnderWay : Type 0 where
  pub client : ClientState
  pub change : Change
  pub mutation : Mutation
  pub start : Entries
  pub map : Entries
  pub behind : List Mutation
  pub seen : List Entry
  pub lost : ℕ
  pub tries : ℕ

-- The call that is under way began with this client: so far it lost tries to others, and did no more.
pub record BeganAs (means : Meanings) (reused : Type 0) (before : ClientState) (asking : UnderWay) : Type 0 where
  pub client : IsSameClient before asking.client
  pub last : asking.client.last ≡ before.last
  pub since : IsArrivedSince means reused before.seat asking.lost asking.change asking.seen asking.client.seat

-- So far as the change is judged at the state where the head was looked at: a mutation is its client's next one, at an
-- open group, and is run on the map there; a pull is accepted.
abbrev pub IsJudgedAt : Meanings → State → ℕ → Change → UnderWay → Type 0
IsJudgedAt means s last (Mutated x) asking = (s.closed ≡ false) × (last_id s x.client ≡ last) × (asking.mutation ≡ x)
    × (asking.behind ≡ []) × (asking.start ≡ view_of means s)
IsJudgedAt means s last (Pulled ticket r) asking = IsAccepted means s (Pulled ticket r)
IsJudgedAt means s last Closed asking = ⊥

-- The run that is asked for is one of the replay: it begins at the map of a state between, and with its mutation and
-- those behind it that state is the one after the change.
pub record AsksFor (means : Meanings) (s : State) (last : ℕ) (change : Change) (asking : UnderWay) : Type 0 where
  pub judged : IsJudgedAt means s last change asking
  pub between : State
  pub start : asking.start ≡ view_of means between
  pub whole : with_more between (asking.mutation ∷ asking.behind) ≡ after_change s change

-- mutations whose mutators the group has: it runs these itself
abbrev pub AreOwn : (Bytes → Bool) → List Mutation → Type 0
AreOwn has xs = All (λ (x : Mutation). has x.name ≡ true) xs

-- The next run of the same try, where the one before ended so: of the next mutation behind it that the group doesn't
-- run itself, from the map that the one before and the group's runs left.
pub record IsNextRun (has : Bytes → Bool) (means : Meanings) (was : UnderWay) (ran : Ran)
    (now : UnderWay) : Type 0 where
  pub lost : now.lost ≡ was.lost
  pub seen : now.seen ≡ was.seen
  pub own : List Mutation
  pub had : AreOwn has own
  pub order : own ++ now.mutation ∷ now.behind ≡ was.behind
  pub start : now.start ≡ replayed means (map_by ran was.map was.start) own

-- the first run of a change at this state: at the end of a pull, of all that stays pending but what the group runs
-- before
abbrev pub IsFirstAt : (Bytes → Bool) → State → Change → UnderWay → Type 0
IsFirstAt has s (Mutated x) asking = Unit {0}
IsFirstAt has s (Pulled ticket r) asking = (own : List Mutation) × AreOwn has own
    × (own ++ asking.mutation ∷ asking.behind ≡ (after_pull s r).pending)
IsFirstAt has s Closed asking = Unit {0}

abbrev pub IsFirstAsked : (Bytes → Bool) → UnderWay → Type 0
IsFirstAsked has asking = IsFirstAt has (after (record_of asking.seen)) asking.change asking

-- What is asked for after a run that ended so: the next run of the same try; or the try was lost, and a later one asks
-- for its first run.
abbrev pub Follows : (Bytes → Bool) → Meanings → UnderWay → Ran → UnderWay → Type 0
Follows has means was ran now = IsNextRun has means was ran now ⊎ ((was.lost < now.lost) × IsFirstAsked has now)

-- Nothing is written yet: the map is the one where the run begins. And the group has no mutator of this name.
abbrev pub IsUnwritten : (Bytes → Bool) → UnderWay → Type 0
IsUnwritten has asking = (asking.map ≡ asking.start) × (has asking.mutation.name ≡ false)

-- A run is asked for by the change, with so many tries, of a call that began with this client.
pub record IsAsked (means : Meanings) (reused : Type 0) (tries : ℕ) (before : ClientState) (change : Change)
    (asking : UnderWay) : Type 0 where
  pub began : BeganAs means reused before asking
  pub same : asking.change ≡ change
  pub run : AsksFor means (after (record_of asking.seen)) before.last change asking
  pub tried : asking.tries ≡ tries
  pub few : asking.lost < max 1 tries

-- what is right to answer where a client asks for the change whose last id is `last`
abbrev pub change_reply : Meanings → State → ℕ → Change → Result Replied Refusal
change_reply means s last (Mutated x) = map_ok id (mutate_reply means s last x)
change_reply means s last (Pulled ticket r) = map_ok ended (end_reply s ticket.text (response.Ok r))
change_reply means s last Closed = map_ok ended (end_reply s [] response.StateNotFound)

-- the change that a reply stands for
abbrev pub change_replied : Change → Result Replied Refusal → Option Change
change_replied (Mutated x) reply = change_made x (map_ok id_in reply)
change_replied (Pulled ticket r) reply = change_applied ticket r (map_ok ended_in reply)
change_replied Closed reply = change_closing (map_ok ended_in reply)

-- the client's last id after a reply: a new mutation's id is its last one
abbrev pub last_called : ℕ → Change → Result Replied Refusal → ℕ
last_called last (Mutated x) reply = last_after last reply
last_called last (Pulled ticket r) reply = last
last_called last Closed reply = last

-- How a call ends that asked for a change: as `try_mutate` and `try_end_pull` do.
pub record EndsCall (means : Meanings) (reused : Type 0) (tries : ℕ) (before after : ClientState) (change : Change)
    (reply : Result Replied Refusal) : Type 0 where
  pub answer : IsLinearized means tries before.seat.mark after.seat.mark reply (change_replied change)
      (λ s. change_reply means s before.last change)
  pub last : after.last ≡ last_called before.last change reply
  pub acts : AfterChange reused before after
  pub cause : IfErr reply (HasCause means reused before.last (Some change) before.seat after.seat)
  pub frees : reused → Frees (Some change) (spared reply) before.seat after.seat (change_replied change reply)

-- And one that ends a pull with these bytes.
pub record EndsPull (means : Meanings) (reused : Type 0) (tries : ℕ) (before after : ClientState) (ticket : Cookie)
    (body : Bytes) (reply : Result Replied Refusal) : Type 0 where
  pub answer : IsLinearized means tries before.seat.mark after.seat.mark reply
      (λ r. change_read ticket (answer_to body) (map_ok ended_in r))
      (λ s. map_ok ended (end_bytes_reply s ticket.text body))
  pub last : after.last ≡ before.last
  pub acts : AfterChange reused before after
  pub cause : IfErr reply (HasCause means reused before.last (change_wanted ticket (answer_to body)) before.seat
      after.seat)
  pub frees : reused → Frees (change_wanted ticket (answer_to body)) (spared reply) before.seat after.seat
      (change_read ticket (answer_to body) (map_ok ended_in reply))
  pub looked : change_wanted ticket (answer_to body) ≡ None → HasLooked reused before.seat after.seat
