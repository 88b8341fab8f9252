-- What a client's queries answer.
use Rattle.std.specs.Prelude.{◌⊎◌, List, None, Result, Ok, Err}
use Rattle.group_history.specs.Cookies.{Cookie}
use Rattle.group_history.specs.Map.{Bytes}
use Rattle.group_history.specs.Meaning.{Meanings}
use Rattle.group_history.specs.Queries.{view_rows}
use Rattle.group_history.specs.Record.{after}
use Rattle.group_history.specs.Rows.{Rows}
use Rattle.group_history.specs.State.{State}
use Rattle.group_history.specs.declared.refusals.Refusal.{Refusal}
use Rattle.group_history.specs.declared.scans.Scan.{Scan}
use Rattle.head_word.specs.declared.entry.Entry.{Entry}
use Rattle.head_word.specs.Books.{record_of}
use Rattle.head_word.specs.Marks.{Known}
use Rattle.map_chunks.specs.Sinks.{HasBegun, HasStill}
use Rattle.linearized.specs.Answered.{IsPoint}
use Rattle.push_body.specs.Bodies.{pull_text}
use Rattle.push_body.specs.declared.identities.Identity.{Identity}
use Rattle.rebase.specs.declared.tickets.Ticket.{Ticket}

-- what a reply tells that gave these rows to a sink
abbrev pub gave : {X : Type 0} → Rows → Result X Refusal → Result Rows Refusal
gave rows (Ok done) = Ok rows
gave rows (Err e) = Err e

-- A refused scan into a sink: it gave nothing, or a beginning of the rows that are right at a point of the call.
abbrev pub GaveSome : {S : Type 0} → Meanings → (S → Rows → Type 0) → Known → Known → Scan → S → S → Type 0
GaveSome means has old new scan sink given = HasStill has sink given ⊎ ((log : List Entry)
    × IsPoint means old new None log × HasBegun has sink given (view_rows means (after (record_of log)) scan))

-- what a pull asks for: all that came after this cookie, by a request with this body
pub record AskedQuery : Type 0 where
  pub cookie : Cookie
  pub body : Bytes

-- as a ticket has it, and as it is right at a state
abbrev pub asked : Ticket → AskedQuery
asked ticket = record { cookie = ticket.cookie; body = ticket.body.items }

abbrev pub asked_at : Identity → State → AskedQuery
asked_at identity s = record { cookie = s.cookie; body = pull_text identity s.cookie }
