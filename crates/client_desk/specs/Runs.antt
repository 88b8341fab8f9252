-- A run that a place's change asks its host for.
use Rattle.std.specs.Prelude.{◌≡◌, ⊤, Bool, false, Option, Some, None, Result, Ok}
use Rattle.group_history.specs.declared.changes.Change.{Change}
use Rattle.group_history.specs.declared.changes.Change.TheVariants.{Pulled}
use Rattle.group_history.specs.declared.mutators.Ran.{Ran}
use Rattle.group_history.specs.declared.refusals.Refusal.{Refusal}
use Rattle.group_history.specs.declared.responses.Response.TheVariants as response
use Rattle.group_history.specs.Cookies.{Cookie}
use Rattle.group_history.specs.Map.{Bytes}
use Rattle.group_history.specs.Meaning.{Meanings, meaning_of}
use Rattle.group_history.specs.Pull.{Pull}
use Rattle.group_history.specs.Ran.{RunsAs}
use Rattle.commit_graph.specs.Seats.{IsSeatOf}
use Rattle.pull_patch.specs.Grammar.{answer_to}
use Rattle.linearized.specs.Answered.{own_moves}
use Rattle.change_tries.specs.Leaving.{Frees}
use Rattle.rebase.specs.Clients.{AfterChange, ClientState, Grouped}
use Rattle.rebase.specs.Replies.{Replied}
use Rattle.rebase.specs.Running.{BeganAs, EndsCall, Follows, IsAsked, IsFirstAsked, IsUnwritten, UnderWay}
use Rattle.client_desk.specs.Answers.{tries}

-- The first run that the group doesn't make itself is asked for by this change, of a call that began with this client.
-- Nothing is written to its map yet.
abbrev pub AsksForRun : (Bytes → Bool) → Meanings → ClientState → Change → UnderWay → Type 0
AsksForRun has means client change asking = IsAsked means ⊤ tries client change asking × IsFirstAsked has asking
    × IsUnwritten has asking

-- and at the end of a pull, by the response that the bytes are
abbrev pub AsksAtEnd : (Bytes → Bool) → Meanings → ClientState → Cookie → Bytes → UnderWay → Type 0
AsksAtEnd has means client ticket body asking = ((r : Pull) × (answer_to body ≡ Ok (response.Ok r))
    × IsAsked means ⊤ tries client (Pulled ticket r) asking) × IsFirstAsked has asking × IsUnwritten has asking

-- After a run that ended so, this one is asked for: the next one behind it that the group doesn't make itself, from the
-- map that those before left; or, where others moved the head first, the first one of a later try. It is of the same
-- change, and of the same call, whichever client that began with.
pub record AsksNextRun (has : Bytes → Bool) (means : Meanings) (was : UnderWay) (ran : Ran) (asking : UnderWay) : Type 0
  where
    pub follows : Follows has means was ran asking
    pub fresh : IsUnwritten has asking
    pub asked : (c : ClientState) → BeganAs means ⊤ c was → IsAsked means ⊤ was.tries c was.change asking

-- or the call ends so, as one that was made at once
abbrev pub EndsRuns : Meanings → UnderWay → ClientState → Result Replied Refusal → Type 0
EndsRuns means was client reply = (c : ClientState) → BeganAs means ⊤ c was
    → EndsCall means ⊤ was.tries c client was.change reply

-- the call began with some client of this group, on a seat of it
abbrev pub IsBegunAt : Meanings → Grouped → UnderWay → Type 0
IsBegunAt means group asking = ∥ ((c : ClientState) × (c.group ≡ group) × IsSeatOf group.group c.seat
    × BeganAs means ⊤ c asking) ∥₁

-- It is asked for of the host: the group has no mutator of this name.
abbrev pub IsAsking : (Bytes → Bool) → Meanings → Grouped → UnderWay → Type 0
IsAsking has means group asking = (has asking.mutation.name ≡ false) × IsBegunAt means group asking

-- The premise of a host's own mutators. The run that a host tells of is one of the group's meaning: it ended as that
-- says, by the name, the arguments and the reason that were asked, at the map where the run began; and where it was
-- done, the run's map is the one that the meaning leaves. Where no run is asked for, nothing has to hold; nor where the
-- group has all mutators, since it asks for no run.
abbrev pub IsRunTold : (Bytes → Bool) → Meanings → Option UnderWay → Ran → Type 0
IsRunTold has means (Some a) ran = has a.mutation.name ≡ false
    → RunsAs (meaning_of means a.mutation a.start) ran a.map
IsRunTold has means None ran = ⊤

-- The call that began with this client and asked for the change was given up: it left the group as others did, and the
-- client has its last id.
pub record IsGivenUpAsked (change : Change) (before after : ClientState) : Type 0 where
  pub acts : AfterChange ⊤ before after
  pub last : after.last ≡ before.last
  pub own : own_moves after.seat.mark ≡ own_moves before.seat.mark
  pub frees : Frees (Some change) 0 before.seat after.seat None

-- whichever client it began with
abbrev pub GaveUp : Meanings → UnderWay → ClientState → Type 0
GaveUp means asking client = (c : ClientState) → BeganAs means ⊤ c asking → IsGivenUpAsked asking.change c client
