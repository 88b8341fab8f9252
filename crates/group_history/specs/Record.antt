-- A record is a list of changes, the oldest first, each with its reply. This project's own words.
use Rattle.std.specs.Prelude.{◌≡◌, false, List, [], ◌∷◌, Ok}
use Rattle.group_history.specs.declared.responses.Response.TheVariants as response
use Rattle.group_history.specs.declared.responses.Ended.TheVariants as ended
use Rattle.group_history.specs.declared.changes.Change.{Change}
use Rattle.group_history.specs.declared.changes.Change.TheVariants.{Mutated, Pulled, Closed}
use Rattle.group_history.specs.declared.mutations.Reason.TheVariants.{Initial}
use Rattle.group_history.specs.declared.changes.Reply.{Reply}
use Rattle.group_history.specs.declared.changes.Reply.TheVariants as reply
use Rattle.group_history.specs.Meaning.{Meanings}
use Rattle.group_history.specs.Pull.{AreInRange}
use Rattle.group_history.specs.State.{State, opening, last_id}
use Rattle.group_history.specs.Mutating.{mutate_reply, after_mutate}
use Rattle.group_history.specs.Pulling.{end_reply, after_pull, after_closing}

-- the reply that a change stands with: a mutation's id, that a pull is applied, and that the state isn't found
abbrev pub reply_of : Change → Reply
reply_of (Mutated x) = reply.Id x.id
reply_of (Pulled ticket r) = reply.Ended ended.Applied
reply_of Closed = reply.StateNotFound

-- The change is accepted at the state, with its own reply. A mutation is made for the first time, and its client has
-- the state's last id as its own. A group that is open is closed by any response that says so.
abbrev pub IsAccepted : Meanings → State → Change → Type 0
IsAccepted means s (Mutated x) = (mutate_reply means s (last_id s x.client) x ≡ Ok x.id) × (x.reason ≡ Initial)
IsAccepted means s (Pulled ticket r) = (end_reply s ticket.text (response.Ok r) ≡ Ok ended.Applied)
    × AreInRange r.changes
IsAccepted means s Closed = s.closed ≡ false

-- the state after a change
abbrev pub after_change : State → Change → State
after_change s (Mutated x) = after_mutate s x
after_change s (Pulled ticket r) = after_pull s r
after_change s Closed = after_closing s

-- the state after changes, in order
abbrev pub after_all : State → List Change → State
after_all s [] = s
after_all s (c ∷ cs) = after_all (after_change s c) cs

-- each change is accepted after those before it
abbrev pub AllAccepted : Meanings → State → List Change → Type 0
AllAccepted means s [] = Unit {0}
AllAccepted means s (c ∷ cs) = IsAccepted means s c × AllAccepted means (after_change s c) cs

-- the state after a record
abbrev pub after : List Change → State
after changes = after_all opening changes

-- a record is legal where each change is accepted after those before it, from the opening state on
abbrev pub IsLegal : Meanings → List Change → Type 0
IsLegal means changes = AllAccepted means opening changes
