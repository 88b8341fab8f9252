-- Tickets and watches that are kept.
use Rattle.std.specs.Prelude.{ℕ, ◌≡◌, ◌⊎◌, ⊤, Bool, true, false, List, Option, None, Result, Ok, Err}
use Rattle.std.specs.Prelude.{IfErr, IfSome, IsSome}
use Rattle.logbook.specs.Pages.{Book}
use Rattle.group_history.specs.declared.refusals.Refusal.{Refusal}
use Rattle.group_history.specs.Meaning.{Meanings}
use Rattle.linearized.specs.Answered.{IsLinearized, no_change}
use Rattle.change_tries.specs.Missing.{IsStoreOrMemory}
use Rattle.rebase.specs.Clients.{ClientState}
use Rattle.rebase.specs.declared.tickets.Ticket.{Ticket}
use Rattle.rebase.specs.declared.watching.Polled.{Polled}
use Rattle.rebase.specs.Watching.{Watched, poll_at, watch_after}
use Rattle.client_desk.specs.declared.calls.Keep.{Keep}
use Rattle.client_desk.specs.declared.outcomes.Outcome.TheVariants.{Number, Refused}
use Rattle.client_desk.specs.declared.watches.Tells.{Tells}
use Rattle.client_desk.specs.declared.watches.Tells.TheVariants as tells
use Rattle.client_desk.specs.Answers.{Telling, TellsChanges, TellsRows, tries}
use Rattle.client_desk.specs.Kept.{IsKeptAt, IsNumberFor, kept_at, given_up_at}
use Rattle.client_desk.specs.Told.{Told, dry, told, told_alone}

-- something is kept, under the number that is said or the first free one
pub record KeepsAt {X : Type 0} (keep : Keep) (number : ℕ) (x : X) (old new : List (Option X)) : Type 0 where
  pub where_ : IsNumberFor keep number old
  pub there : IsKeptAt number x old new

-- a ticket is kept, and its request is told; or memory was refused
pub record KeepsTicket (keep : Keep) (ticket : Ticket) (t : Told) (old new : List (Option Ticket)) : Type 0 where
  pub number : ℕ
  pub kept : Ticket
  pub cookie : kept.cookie ≡ ticket.cookie
  pub there : KeepsAt keep number kept old new
  pub told : t ≡ told (Number number) ticket.body.items

abbrev pub KeepsOne : Keep → Ticket → Told → List (Option Ticket) → List (Option Ticket) → Type 0
KeepsOne keep ticket t old new = KeepsTicket keep ticket t old new ⊎ ((t ≡ dry) × (new ≡ old))

abbrev pub Keeps : Keep → Result Ticket Refusal → Told → List (Option Ticket) → List (Option Ticket) → Type 0
Keeps keep (Ok ticket) t old new = KeepsOne keep ticket t old new
Keeps keep (Err e) t old new = (t ≡ told_alone (Refused e)) × (new ≡ old)

-- whether something was given up
abbrev pub GivesUpKept : {X : Type 0} → Bool → ℕ → List (Option X) → List (Option X) → Type 0
GivesUpKept true n old new = IsSome (kept_at old n) × (new ≡ given_up_at old n)
GivesUpKept false n old new = (kept_at old n ≡ None) × (new ≡ old)

-- a watch is kept; or memory was refused
abbrev pub KeepsWatch : Keep → Watched → Told → List (Option Watched) → List (Option Watched) → Type 0
KeepsWatch keep watch t old new = ((number : ℕ) × (t ≡ told_alone (Number number)) × KeepsAt keep number watch old new)
    ⊎ ((t ≡ dry) × (new ≡ old))

-- how a reply is told
abbrev pub telling_of : Tells → Telling
telling_of tells.Rows = TellsRows
telling_of tells.Changes = TellsChanges

-- how a watch was polled: its reply is told so, and it has the rows that are new; or memory was refused, and it is as
-- it was
abbrev pub IsPolled : Telling → Meanings → ClientState → ClientState → Watched → Watched → Told → Type 0
IsPolled telling means client next watch new t = ((reply : Result Polled Refusal)
    × IsLinearized means tries client.seat.mark next.seat.mark reply no_change (λ s. Ok (poll_at means watch s))
    × IfErr reply (IsStoreOrMemory ⊤) × telling watch reply t × (new ≡ watch_after watch reply))
    ⊎ ((t ≡ dry) × (new ≡ watch))

-- each watch that is kept is of this book
abbrev pub AreFor : Book → List (Option Watched) → Type 0
AreFor book watches = (n : ℕ) → IfSome (kept_at watches n) (λ w. w.book ≡ book)
