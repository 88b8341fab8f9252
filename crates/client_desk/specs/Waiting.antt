-- Changes that wait for others, at a place of a group that has all mutators.
use Rattle.std.specs.Prelude.{◌≡◌, false, true, ⊤, Result, IfErr}
use Rattle.group_history.specs.declared.refusals.Refusal.{Refusal}
use Rattle.group_history.specs.Map.{Bytes}
use Rattle.group_history.specs.Meaning.{Meanings}
use Rattle.linearized.specs.Answered.{IsLinearized}
use Rattle.change_tries.specs.Causes.{HasCause}
use Rattle.change_tries.specs.Leaving.{FreesAnew}
use Rattle.rebase.specs.Asking.{is_passing}
use Rattle.rebase.specs.Calls.{caller_of, change_for, change_of, last_after, reply_to}
use Rattle.rebase.specs.Clients.{AfterChange, ClientState}
use Rattle.rebase.specs.Replies.{Replied}
use Rattle.rebase.specs.declared.calls.Call.{Call as Changing}
use Rattle.rebase.specs.declared.calls.Call.TheVariants as changing
use Rattle.rebase.specs.declared.tickets.Ticket.{Ticket}
use Rattle.client_desk.specs.declared.calls.DeskCall.{DeskCall}
use Rattle.client_desk.specs.declared.calls.DeskCall.TheVariants as call
use Rattle.client_desk.specs.declared.faults.CallFault.TheVariants as fault
use Rattle.client_desk.specs.Answers.{At, ByClient, Rule}
use Rattle.client_desk.specs.Calls.{MayAnswer}
use Rattle.client_desk.specs.Kept.{kept_at}
use Rattle.client_desk.specs.Places.{PlaceState, with_client}
use Rattle.client_desk.specs.Told.{Told, replied_told, tells}

-- The client makes such a call, which goes on until others are out of its way; its reply is right at a point of the
-- group's record, and is told. It was refused for no passing reason; why, and what it did to slots.
pub record Waits (means : Meanings) (is : Changing → Type 0) (client : ClientState) (before : PlaceState) (t : Told)
    (after : PlaceState) : Type 0 where
  pub made : Changing
  pub asked : is made
  pub reply : Result Replied Refusal
  pub next : ClientState
  pub answer : IsLinearized means 0 client.seat.mark next.seat.mark reply (change_of (caller_of client) made)
      (λ s. reply_to means (caller_of client) s made)
  pub lasting : is_passing reply ≡ false
  pub last : next.last ≡ last_after client.last reply
  pub acts : AfterChange ⊤ client next
  pub cause : IfErr reply (HasCause means ⊤ client.last (change_for (caller_of client) made) client.seat next.seat)
  pub frees : FreesAnew (change_for (caller_of client) made) client.seat next.seat
      (change_of (caller_of client) made reply)
  pub told : t ≡ tells replied_told reply
  pub left : after ≡ with_client next before

-- the end of the pull of a ticket, with the bytes of a response
abbrev pub IsEndOf : Ticket → Bytes → Changing → Type 0
IsEndOf kept body (changing.EndPull at bytes) = (at.now ≡ kept) × (bytes.now ≡ body)
IsEndOf kept body other = ⊥

-- a call at such a place: a change waits for others
abbrev pub MayAnswerWaiting : Meanings → DeskCall → Rule
MayAnswerWaiting means (call.Mutate m) = ByClient (Waits means (λ x. x ≡ changing.Mutate m))
MayAnswerWaiting means (call.End n body) = ByClient (λ c b. At (kept_at b.tickets n) fault.NoTicket
    (λ kept. Waits means (IsEndOf kept body.now) c) b)
MayAnswerWaiting means other = MayAnswer (λ name. true) means other
