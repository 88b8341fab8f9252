-- The calls of a client: what is right to reply to each, the change that a reply stands for, and when a list of calls
-- is answered as a group of one thread answers it. What a refused call leaves is this project's own rule.
use Rattle.std.specs.Prelude.{ℕ, ◌≡◌, ◌⊎◌, ◌+◌, ◌-◌, Bool, true, false, List, [], ◌∷◌, length, filter, Option, Some}
use Rattle.std.specs.Prelude.{None, Result, Ok, Err, IfErr}
use Rattle.group_history.specs.declared.changes.Change.{Change}
use Rattle.group_history.specs.declared.changes.Change.TheVariants.{Mutated}
use Rattle.group_history.specs.declared.mutations.MutationFields.{MutationFields as Mutation}
use Rattle.group_history.specs.declared.refusals.Refusal.{Refusal}
use Rattle.group_history.specs.declared.responses.Ended.{Ended}
use Rattle.group_history.specs.declared.responses.Ended.TheVariants as ended_as
use Rattle.group_history.specs.Map.{Bytes}
use Rattle.group_history.specs.Meaning.{Meanings}
use Rattle.group_history.specs.Mutating.{mutate_reply}
use Rattle.group_history.specs.Queries.{get_at, has_at, view_rows, is_empty_at}
use Rattle.group_history.specs.State.{State, made, last_id}
use Rattle.head_word.specs.Marks.{Known}
use Rattle.pull_patch.specs.Grammar.{answer_to}
use Rattle.push_body.specs.Bodies.{push_text}
use Rattle.push_body.specs.declared.identities.Identity.{Identity}
use Rattle.linearized.specs.Answered.{IsLinearized, is_move, is_resource_refusal, own_moves}
use Rattle.linearized.specs.Changes.{change_made, change_read, after_made}
use Rattle.rebase.specs.Asking.{change_wanted, end_bytes_reply}
use Rattle.commit_graph.specs.Seats.{HasLooked, IsSameSeat, SeatState}
use Rattle.change_tries.specs.Causes.{HasCause}
use Rattle.change_tries.specs.Leaving.{Frees, spared}
use Rattle.change_tries.specs.Missing.{IsStoreOrMemory, map_ok}
use Rattle.rebase.specs.Clients.{ClientState}
use Rattle.rebase.specs.Queries.{asked_at}
use Rattle.rebase.specs.Replies.{Replied, value, yes_or_no, rows, pending, cookie, id, body, ticket, ended}
use Rattle.rebase.specs.declared.calls.Call.{Call}
use Rattle.rebase.specs.declared.calls.Call.TheVariants as call
use Rattle.rebase.specs.declared.calls.Mutate.{Mutate}

-- who calls: whose requests the group writes, the client's ID, and its own last id
pub record Caller : Type 0 where
  pub identity : Identity
  pub client : Bytes
  pub last : ℕ

abbrev pub caller : Identity → Bytes → ℕ → Caller
caller identity client last = record { identity = identity; client = client; last = last }

-- as a client of the code is one
abbrev pub caller_of : ClientState → Caller
caller_of client = caller client.group.identity client.id client.last

-- the mutation that is asked for: the client's next one
abbrev pub asked_mutation : Caller → Mutate → Mutation
asked_mutation c m = made c.client (c.last + 1) m.name.now m.args.now m.time

-- what is right to reply at a state
abbrev pub reply_to : Meanings → Caller → State → Call → Result Replied Refusal
reply_to means c s (call.Get key) = Ok (value (get_at means s key.now))
reply_to means c s (call.Has key) = Ok (yes_or_no (has_at means s key.now))
reply_to means c s (call.Scan scan) = Ok (rows (view_rows means s scan.now))
reply_to means c s call.IsEmpty = Ok (yes_or_no (is_empty_at means s))
reply_to means c s call.Closed = Ok (yes_or_no s.closed)
reply_to means c s call.Pending = Ok (pending s.pending)
reply_to means c s call.Cookie = Ok (cookie s.cookie)
reply_to means c s call.Refresh = Ok (id (last_id s c.client))
reply_to means c s call.PushBody = Ok (body (push_text c.identity s.pending))
reply_to means c s call.BeginPull = Ok (ticket (asked_at c.identity s))
reply_to means c s (call.Mutate m) = map_ok id (mutate_reply means s c.last (asked_mutation c m))
reply_to means c s (call.EndPull at bytes) = map_ok ended (end_bytes_reply s at.now.cookie.text bytes.now)

-- what one reading answers
abbrev pub is_query : Call → Bool
is_query (call.Get key) = true
is_query (call.Has key) = true
is_query (call.Scan scan) = true
is_query call.IsEmpty = true
is_query call.Closed = true
is_query call.Pending = true
is_query call.Cookie = true
is_query other = false

-- what changes nothing in the group
abbrev pub is_reading : Call → Bool
is_reading (call.Mutate m) = false
is_reading (call.EndPull at bytes) = false
is_reading other = true

-- the id that was replied
abbrev pub id_in : Replied → ℕ
id_in (id n) = n
id_in other = 0

-- how a pull was ended, as it was replied; any other reply is none of an applied pull
abbrev pub ended_in : Replied → Ended
ended_in (ended e) = e
ended_in other = ended_as.Same

-- the change that a reply stands for: of a mutation, and of an end of a pull
abbrev pub change_of : Caller → Call → Result Replied Refusal → Option Change
change_of c (call.Mutate m) reply = change_made (asked_mutation c m) (map_ok id_in reply)
change_of c (call.EndPull at bytes) reply = change_read at.now.cookie (answer_to bytes.now) (map_ok ended_in reply)
change_of c other reply = None

-- the change that a call asks for, whatever is replied
abbrev pub change_for : Caller → Call → Option Change
change_for c (call.Mutate m) = Some (Mutated (asked_mutation c m))
change_for c (call.EndPull at bytes) = change_wanted at.now.cookie (answer_to bytes.now)
change_for c other = None

-- the client after a reply: an id that is replied is its last one
abbrev pub last_after : ℕ → Result Replied Refusal → ℕ
last_after last (Ok (id n)) = n
last_after last other = last

abbrev pub caller_after : Caller → Result Replied Refusal → Caller
caller_after c reply = caller c.identity c.client (last_after c.last reply)

-- What changes nothing in the group is refused for want of memory, or where a slot or a pin is lost to others, and for
-- nothing else.
abbrev pub MayRefuse : Type 0 → Call → Result Replied Refusal → Type 0
MayRefuse reused x r = is_reading x ≡ true → IfErr r (IsStoreOrMemory reused)

-- One call of a list, by the caller's seat before and after it: the reply is right at a point of its own, whatever
-- others do meanwhile; why it was refused; and what it did to slots.
pub record IsMade (means : Meanings) (reused : Type 0) (tries : ℕ) (c : Caller) (x : Call)
    (r : Result Replied Refusal) (old new : SeatState) : Type 0 where
  pub seat : IsSameSeat old new
  pub answer : IsLinearized means tries old.mark new.mark r (change_of c x) (λ s. reply_to means c s x)
  pub refused : MayRefuse reused x r
  pub looked : is_reading x ≡ true → HasLooked reused old new
  pub cause : IfErr r (HasCause means reused c.last (change_for c x) old new)
  pub frees : is_reading x ≡ false → reused → Frees (change_for c x) (spared r) old new (change_of c x r)

-- So is each call of the list. It begins with what the client's seat knew at the end of the call before, so its point
-- is not before that of the other one.
abbrev pub AreAnswered : Meanings → Type 0 → ℕ → Caller → SeatState → List Call → List (Result Replied Refusal)
    → SeatState → Caller → Type 0
AreAnswered means reused tries c old [] [] new end = (new ≡ old) × (end ≡ c)
AreAnswered means reused tries c old [] (r ∷ rs) new end = ⊥
AreAnswered means reused tries c old (x ∷ xs) [] new end = ⊥
AreAnswered means reused tries c old (x ∷ xs) (r ∷ rs) new end =
    (mid : SeatState) × IsMade means reused tries c x r old mid
    × AreAnswered means reused tries (caller_after c r) mid xs rs new end

-- how often other seats have moved the head
abbrev pub moves_of_others : Known → ℕ
moves_of_others m = length (filter is_move m.log) - length (own_moves m)

-- no other seat moved the head between the two; drafts of others leave it where it is
abbrev pub IsAlone : Known → Known → Type 0
IsAlone old new = moves_of_others new ≡ moves_of_others old

-- The reply is the right one. A refusal for want of something may come in place of any answer.
abbrev pub IsReplyTo : Result Replied Refusal → Result Replied Refusal → Type 0
IsReplyTo (Ok x) right = right ≡ Ok x
IsReplyTo (Err e) right = (is_resource_refusal e ≡ true) ⊎ (right ≡ Err e)

-- Each call of the list is answered rightly at the state that the calls before it left, by a client whose last id is
-- the one that they left; the last call leaves the state and the client at the end.
abbrev pub AreReplies : Meanings → Caller → State → List Call → List (Result Replied Refusal) → State → Caller → Type 0
AreReplies means c s [] [] at end = (at ≡ s) × (end ≡ c)
AreReplies means c s [] (r ∷ rs) at end = ⊥
AreReplies means c s (x ∷ xs) [] at end = ⊥
AreReplies means c s (x ∷ xs) (r ∷ rs) at end = IsReplyTo r (reply_to means c s x)
    × AreReplies means (caller_after c r) (after_made s (change_of c x r)) xs rs at end
