-- Who is taken from a place and put there.
use Rattle.std.proofs.Common.{◌≡◌, ℕ, List, [], Option, Some, None, refl, sym, ap, ◌∙◌, subst}
use Rattle.std.specs.Prelude.{⊤, Bool}
use Rattle.std.proofs.Math.Logic.{∥∥₁_elim}
use Rattle.std.specs.Coded.{Coded-set, codes}
use Rattle.group_history.specs.Map.{Bytes}
use Rattle.group_history.specs.Meaning.{Meanings}
use Rattle.head_word.specs.contracts.entry.Entry as entry
use Rattle.linearized.specs.Answered.{own_moves}
use Rattle.change_tries.specs.Leaving.{Frees}
use Rattle.rebase.specs.Clients.{AfterChange, ClientState, Grouped, IsSameClient, AfterQuery}
use Rattle.rebase.specs.Running.{BeganAs, UnderWay}
use Rattle.rebase.specs.declared.tickets.Ticket.{Ticket}
use Rattle.commit_graph.specs.Seats.{IsSameSeat}
use Rattle.rebase.proofs.Causing.{looked_looked}
use Rattle.client_desk.specs.declared.faults.CallFault.{CallFault}
use Rattle.client_desk.specs.declared.faults.CallFault.TheVariants as fault
use Rattle.client_desk.specs.declared.outcomes.Outcome.TheVariants.{Done, Faulty}
use Rattle.client_desk.specs.declared.sitting.Sitting.{Sitting}
use Rattle.client_desk.specs.declared.sitting.Sitting.TheVariants as sits
use Rattle.client_desk.specs.Answers.{ByAny, ByClient, ByReader, EndsReading, Leaves, Rule, absent}
use Rattle.client_desk.specs.Drafts.{ByRun, GivesUpRun, LeavesAsked}
use Rattle.client_desk.specs.Inside.Sitting.{CanSit, IsAt, IsPlaceLeft, IsTaken, with_sitting}
use Rattle.client_desk.specs.Places.{PlaceState, client_at, free_place}
use Rattle.client_desk.specs.Kept.{kept_at}
use Rattle.client_desk.specs.Runs.{GaveUp, IsBegunAt}
use Rattle.client_desk.specs.Sitting.{asking_of, client_of, reading_of}
use Rattle.client_desk.specs.Told.{Told, told_alone}
use Rattle.client_desk.proofs.Telling.{at_some, by_nobody, no_client}

-- who was put there may sit there
pub can_sit : (has : Bytes → Bool) (means : Meanings) (v b : PlaceState) {M : Type 0} (now sitting : Sitting M) → v ≡ b
    → now ≡ sitting → CanSit has means b.group sitting → CanSit has means v.group now
can_sit has means v b now sitting is same fits =
    subst (CanSit has means v.group) (sym same)
    (subst (λ (p : PlaceState). CanSit has means p.group sitting) (sym is) fits)

-- the client is one of the group, as the one before it
at_same : (group : Grouped) (before after : ClientState) → IsAt group before → IsSameClient before after
    → IsSameSeat before.seat after.seat → IsAt group after
at_same group before after at client seat = (
  client.0 ∙ at.0,
  (seat.later.book ∙ at.1.0, seat.table ∙ at.1.1),
)

pub at_later : (group : Grouped) (before after : ClientState) → IsAt group before → AfterChange ⊤ before after
    → IsAt group after
at_later group before after at acts = at_same group before after at acts.client acts.seat

pub at_looked : (group : Grouped) (before after : ClientState) → IsAt group before → AfterQuery ⊤ before after
    → IsAt group after
at_looked group before after at stays = at_same group before after at stays.0.client stays.0.looked.seat

pub at_prop : (group : Grouped) (client : ClientState) → IsProp (IsAt group client)
at_prop group client = hlevel (codes, Coded-set, entry.the_row.coded)

-- what the client that sat there does, and the run that was asked for
pub by_client : (rule : ClientState → Rule) (client : ClientState) (b new : PlaceState) (t : Told)
    → Some client ≡ b.client → rule client b t new → ByClient rule b t new
by_client rule client b new t is done = at_some b.client (absent b.reading) rule client b t new (sym is) done

pub by_run : (rule : UnderWay → Rule) (a : UnderWay) (b new : PlaceState) (t : Told) → Some a ≡ b.asking
    → rule a b t new → ByRun rule b t new
by_run rule a b new t is done = at_some b.asking fault.NotAsked rule a b t new (sym is) done

-- a ticket that was found where the client was taken is one that it has
pub ticket_kept : (v taken b : PlaceState) (shown : List (Option Ticket)) (n : ℕ) (kept : Ticket)
    → Some kept ≡ kept_at shown n → shown ≡ v.tickets → v ≡ taken
    → taken ≡ record b { seat = None; client = None; asking = None; reading = None }
    → kept_at b.tickets n ≡ Some kept
ticket_kept v taken b shown n kept there same is left =
    ap (λ (p : PlaceState). kept_at p.tickets n) (sym left) ∙ ap (λ (p : PlaceState). kept_at p.tickets n) (sym is)
    ∙ ap (λ ts. kept_at ts n) (sym same) ∙ sym there

-- who was taken was put there again
pub back_there : (has : Bytes → Bool) (means : Meanings) {M : Type 0} (s : Sitting M) (b taken new : PlaceState)
    → IsTaken has means s b taken → new ≡ with_sitting s taken → new ≡ b
back_there has means s b taken new was put =
    put
    ∙ ap (λ (p : PlaceState). with_sitting s p) was.left
    ∙ ap (λ o. record b { seat = o; client = client_of s; asking = asking_of s; reading = reading_of s }) was.seat
    ∙ ap (λ o. record b { client = o; asking = asking_of s; reading = reading_of s }) was.client
    ∙ ap (λ o. record b { asking = o; reading = reading_of s }) was.asking
    ∙ ap (λ o. record b { reading = o }) was.reading

-- and was no client
pub none_there : (rule : ClientState → Rule) (has : Bytes → Bool) (means : Meanings) {M : Type 0} (s : Sitting M)
    (b taken new : PlaceState) (f : CallFault) → IsTaken has means s b taken → new ≡ with_sitting s taken
    → ((x : _) → s ≡ sits.Client x → ⊥) → f ≡ absent (reading_of s) → ByClient rule b (told_alone (Faulty f)) new
none_there rule has means s b taken new f was put other is =
    by_nobody rule new b f [] (back_there has means s b taken new was put)
    (ap (λ (p : PlaceState). p.client) put ∙ no_client s other)
    (is ∙ sym (ap (λ (p : PlaceState). absent p.reading) put)) refl

-- the client left
pub left_place : (b taken new : PlaceState) (client : ClientState) → Some client ≡ client_at b
    → taken ≡ record b { seat = None; client = None; asking = None; reading = None } → IsPlaceLeft client taken new
    → ByAny Leaves b (told_alone Done) new
left_place b taken new client is left gone =
    at_some (client_at b) fault.NoClient Leaves client b (told_alone Done) new (sym is) (record {
      seat = gone.0;
      gone = gone.1;
      told = refl;
      left = gone.2 ∙ ap (λ (p : PlaceState). free_place p.group gone.0) left;
    })

-- where it had a reading open, which ended first
pub left_reading : (reader client : ClientState) (taken new : PlaceState) → AfterQuery ⊤ reader client
    → client.seat.mark ≡ reader.seat.mark → IsPlaceLeft client taken new → IsPlaceLeft reader taken new
left_reading reader client taken new stays same gone = (
  gone.0,
  record {
    looked = looked_looked ⊤ reader.seat client.seat gone.0 stays.0.looked gone.1.looked;
    mark = gone.1.mark ∙ same;
    rests = gone.1.rests;
  },
  gone.2,
)

-- a reading ended
pub read_ended : (b taken new : PlaceState) (reader client : ClientState) → Some reader ≡ b.reading → None ≡ b.seat
    → None ≡ b.asking → taken ≡ record b { seat = None; client = None; asking = None; reading = None }
    → AfterQuery ⊤ reader client → client.seat.mark ≡ reader.seat.mark
    → new ≡ record taken { seat = None; client = Some client; asking = None; reading = None }
    → ByReader EndsReading b (told_alone Done) new
read_ended b taken new reader client is free calm left stays same put =
    at_some b.reading fault.NotRead EndsReading reader b (told_alone Done) new (sym is) (record {
      client = client;
      stays = stays;
      mark = same;
      told = refl;
      left = put
          ∙ ap (λ (p : PlaceState). record p { seat = None; client = Some client; asking = None; reading = None }) left
          ∙ ap (λ seat. record b { seat = seat; client = Some client; asking = None; reading = None }) free
          ∙ ap (λ asking. record b { client = Some client; asking = asking; reading = None }) calm;
    })

-- ---- a change that is given up

-- what it is given up with, whichever client its call began with
pub gave : (means : Meanings) (was : UnderWay) (client : ClientState)
    → ((c : ClientState) → BeganAs means ⊤ c was → AfterChange ⊤ c client × (client.last ≡ c.last)
    × (own_moves client.seat.mark ≡ own_moves c.seat.mark)
    × (⊤ → Frees (Some was.change) 0 c.seat client.seat None))
    → GaveUp means was client
gave means was client left = λ c began.
    let h = left c began in record { acts = h.0; last = h.1; own = h.2; frees = h.3 tt }

-- the client is one of the group
pub gave_at : (means : Meanings) (group : Grouped) (was : UnderWay) (client : ClientState) → IsBegunAt means group was
    → GaveUp means was client → IsAt group client
gave_at means group was client begun given =
    ∥∥₁_elim begun (at_prop group client) (λ b. at_later group b.0 client (b.1, b.2) (given b.0 b.3).acts)

pub gave_up : (means : Meanings) (b taken new : PlaceState) (a : UnderWay) (client : ClientState) → Some a ≡ b.asking
    → None ≡ b.seat → None ≡ b.reading
    → taken ≡ record b { seat = None; client = None; asking = None; reading = None } → GaveUp means a client
    → new ≡ record taken { seat = None; client = Some client; asking = None; reading = None }
    → ByRun (GivesUpRun means) b (told_alone Done) new
gave_up means b taken new a client is free closed left given put =
    by_run (GivesUpRun means) a b new (told_alone Done) is (record {
      client = client;
      gave = given;
      told = refl;
      left = put
          ∙ ap (λ (p : PlaceState). record p { seat = None; client = Some client; asking = None; reading = None }) left
          ∙ ap (λ seat. record b { seat = seat; client = Some client; asking = None; reading = None }) free
          ∙ ap (λ reading. record b { client = Some client; asking = None; reading = reading }) closed;
    })

pub left_asked : (means : Meanings) (b taken new : PlaceState) (a : UnderWay) (client : ClientState)
    → Some a ≡ b.asking → taken ≡ record b { seat = None; client = None; asking = None; reading = None }
    → GaveUp means a client → IsPlaceLeft client taken new → ByRun (LeavesAsked means) b (told_alone Done) new
left_asked means b taken new a client is left given gone =
    by_run (LeavesAsked means) a b new (told_alone Done) is (record {
      seat = gone.0;
      gone = record { client = client; gave = given; gone = gone.1 };
      told = refl;
      left = gone.2 ∙ ap (λ (p : PlaceState). free_place p.group gone.0) left;
    })
