-- Tickets that a place keeps.
use Rattle.std.proofs.Common.{◌≡◌, ◌⊎◌, inl, inr, List, Option, Some, Result, Ok, Err, refl, ap, subst}
use Rattle.std.specs.Prelude.{⊤, IfErr}
use Rattle.group_history.specs.Meaning.{Meanings}
use Rattle.group_history.specs.declared.refusals.Refusal.{Refusal}
use Rattle.linearized.specs.Answered.{IsLinearized, no_change}
use Rattle.change_tries.specs.Missing.{IsStoreOrMemory, map_ok}
use Rattle.rebase.specs.Clients.{ClientState, AfterQuery}
use Rattle.rebase.specs.Queries.{asked, asked_at}
use Rattle.rebase.specs.declared.tickets.Ticket.{Ticket}
use Rattle.client_desk.specs.declared.calls.DeskCall.TheVariants as call
use Rattle.client_desk.specs.declared.calls.Keep.{Keep}
use Rattle.client_desk.specs.Answers.{BeginsPull, ByClient, AnswersLack, Rule, absent, made_room, tries}
use Rattle.client_desk.specs.Inside.Keeping.{Keeps}
use Rattle.client_desk.specs.Kept.{room_for}
use Rattle.client_desk.specs.Places.{PlaceState, with_tickets}
use Rattle.client_desk.specs.Told.{Told}
use Rattle.client_desk.proofs.Telling.{at_some}

-- a pull is begun where room was made for its ticket
abbrev pub BeginsThere : Keep → Meanings → ClientState → Rule
BeginsThere keep means c b = BeginsPull keep means c (made_room (call.Begin keep) b)

begun_here : (keep : Keep) (means : Meanings) (v : PlaceState) (client next : ClientState)
    (reply : Result Ticket Refusal) (t : Told) (tickets : List (Option Ticket)) → v.client ≡ Some client
    → IsLinearized means tries client.seat.mark next.seat.mark (map_ok asked reply) no_change
    (λ s. Ok (asked_at client.group.identity s))
    → IfErr reply (IsStoreOrMemory ⊤) → AfterQuery ⊤ client next → Keeps keep reply t (room_for keep v.tickets) tickets
    → AnswersLack (made_room (call.Begin keep) v) t (with_tickets next tickets v)
    ⊎ ByClient (BeginsThere keep means) v t (with_tickets next tickets v)
begun_here keep means v client next (Ok ticket) t tickets is answer refused stays (inl kept) =
    inr (at_some v.client (absent v.reading) (BeginsThere keep means) client v t (with_tickets next tickets v) is
    (record {
      reply = Ok (asked ticket);
      next = next;
      answer = answer;
      refused = tt;
      stays = stays;
      begun = record {
        number = kept.number;
        kept = kept.kept;
        tickets = tickets;
        cookie = kept.cookie;
        where_ = kept.there.where_;
        there = kept.there.there;
        told = kept.told;
        left = refl;
      };
    }))
begun_here keep means v client next (Ok ticket) t tickets is answer refused stays (inr (lack, same)) =
    inl (record {
      told = lack;
      left = inr (record {
        old = client;
        new = next;
        sits = is;
        stays = stays;
        left = ap (λ ts. with_tickets next ts v) same;
      });
    })
begun_here keep means v client next (Err e) t tickets is answer refused stays (told, same) =
    inr (at_some v.client (absent v.reading) (BeginsThere keep means) client v t (with_tickets next tickets v) is
    (record {
      reply = Err e;
      next = next;
      answer = answer;
      refused = refused;
      stays = stays;
      begun = (told, ap (λ ts. with_tickets next ts v) same);
    }))

-- a pull was begun, or memory was refused, at a place that is seen so
pub begun_told : (keep : Keep) (means : Meanings) (v b : PlaceState) (client next : ClientState)
    (reply : Result Ticket Refusal) (t : Told) (room tickets : List (Option Ticket)) → v ≡ b → v.client ≡ Some client
    → IsLinearized means tries client.seat.mark next.seat.mark (map_ok asked reply) no_change
    (λ s. Ok (asked_at client.group.identity s))
    → IfErr reply (IsStoreOrMemory ⊤) → AfterQuery ⊤ client next → room ≡ room_for keep v.tickets
    → Keeps keep reply t room tickets
    → AnswersLack (made_room (call.Begin keep) b) t (with_tickets next tickets v)
    ⊎ ByClient (BeginsThere keep means) b t (with_tickets next tickets v)
begun_told keep means v b client next reply t room tickets same is answer refused stays made kept =
    subst (λ s. AnswersLack (made_room (call.Begin keep) s) t (with_tickets next tickets v)
    ⊎ ByClient (BeginsThere keep means) s t (with_tickets next tickets v)) same
    (begun_here keep means v client next reply t tickets is answer refused stays
    (subst (λ ts. Keeps keep reply t ts tickets) made kept))
