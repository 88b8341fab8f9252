-- A call of a place that asks for no run leaves it at its group.
use Rattle.std.proofs.Common.{◌≡◌, ℕ, List, ap, inl, inr, ◌∙◌, refl, subst, true, Option, Some, None, Result, Ok, Err}
use Rattle.group_history.specs.declared.refusals.Refusal.{Refusal}
use Rattle.group_history.specs.Meaning.{Meanings}
use Rattle.group_history.specs.State.{State}
use Rattle.rebase.specs.Clients.{ClientState, Grouped}
use Rattle.rebase.specs.Queries.{AskedQuery as Begun}
use Rattle.rebase.specs.Running.{UnderWay}
use Rattle.rebase.specs.declared.tickets.Ticket.{Ticket}
use Rattle.std.specs.Prelude.{IfSome, drop}
use Rattle.std.specs.FinMap as finite
use Rattle.client_desk.specs.Runs.{IsAsking}
use Rattle.client_desk.specs.declared.calls.DeskCall.{DeskCall}
use Rattle.client_desk.specs.declared.calls.DeskCall.TheVariants as call
use Rattle.client_desk.specs.declared.calls.Keep.{Keep}
use Rattle.client_desk.specs.declared.faults.CallFault.{CallFault}
use Rattle.client_desk.specs.declared.faults.CallFault.TheVariants as fault
use Rattle.client_desk.specs.Answers.{AnswersQuery, AsksAs, At, BeginsPull, ByClient, CountsFree}
use Rattle.client_desk.specs.Answers.{EndsReading, Forgets, IsBegun}
use Rattle.client_desk.specs.Answers.{AnswersLack, Leaves, MayBeginReading, Polls, PollsAs}
use Rattle.client_desk.specs.Answers.{PollsChanges, AnswersRead, Refreshes}
use Rattle.client_desk.specs.Answers.{Rule, AnswersSit, Telling, TellsChanges, TellsMoment, TellsMomentAs, TellsRows}
use Rattle.client_desk.specs.Answers.{Unwatches, Watches, absent, made_room}
use Rattle.client_desk.specs.Calls.{AnswersCalm, MayAnswerAt}
use Rattle.client_desk.specs.Places.{PlaceState, client_at}
use Rattle.client_desk.specs.Kept.{kept_at}
use Rattle.client_desk.specs.Told.{Told, bytes_told, cookie_told, is_told, pending_told, rows_told, value_told}
use Rattle.group_history.specs.Queries.{get_at, has_at, is_empty_at, view_rows}
use Rattle.group_history.specs.Scans.{rows_of}
use Rattle.push_body.specs.Bodies.{push_text}
use Rattle.client_desk.specs.Waiting.{IsEndOf, MayAnswerWaiting, Waits}
use Rattle.group_history.specs.declared.scans.Scan.{Scan}
use Rattle.rebase.specs.Watching.{Watched}
use Rattle.rebase.specs.declared.calls.Call.{Call as Changing}
use Rattle.rebase.specs.declared.calls.Call.TheVariants as changing

abbrev group_of : PlaceState → Grouped
group_of p = p.group

room_stays : (made : DeskCall) (b : PlaceState) → (made_room made b).group ≡ b.group
room_stays (call.Begin keep) b = refl
room_stays (call.Watch keep scan) b = refl
room_stays other b = refl

module _ (means : Meanings) (b a : PlaceState) (t : Told) where
  abbrev pub Stays : Type 0
  Stays = a.group ≡ b.group

  lacks_stays : (made : DeskCall) → AnswersLack (made_room made b) t a → Stays
  lacks_stays made l = elim l.left [
    | inl same ↦ ap group_of same ∙ room_stays made b
    | inr looked ↦ ap group_of looked.left ∙ room_stays made b
  ]

  at_stays : {X : Type 0} (x : Option X) (none : CallFault) (rule : X → Rule) → ((y : X) → rule y b t a → Stays)
      → At x none rule b t a → Stays
  at_stays (Some y) none rule each h = each y h
  at_stays None none rule each h = ap group_of h.1

  by_stays : (rule : ClientState → Rule) → ((c : ClientState) → rule c b t a → Stays) → ByClient rule b t a → Stays
  by_stays rule each h = at_stays b.client (absent b.reading) rule each h

  reads_stays : {X : Type 0} (tell : X → Told) (right : State → X) (c : ClientState)
      → AnswersRead tell right means c b t a
      → Stays
  reads_stays tell right c h = ap group_of h.2

  asked_stays : {X : Type 0} (tell : X → Told) (right : ClientState → State → X) (o : Option ClientState)
      → AsksAs tell right means o b t a → Stays
  asked_stays tell right (Some reader) h = ap group_of h.1
  asked_stays tell right None h =
      by_stays (λ c. AnswersRead tell (right c) means c) (λ c. reads_stays tell (right c) c) h

  asks_stays : {X : Type 0} (tell : X → Told) (right : ClientState → State → X)
      → AnswersQuery tell right means b t a → Stays
  asks_stays tell right h = asked_stays tell right b.reading h

  moment_stays : (o : Option ClientState) → TellsMomentAs means o b t a → Stays
  moment_stays (Some reader) h = ap group_of h.1
  moment_stays None h = by_stays (TellsMoment means) (λ c m. ap group_of m.left) h

  calm_stays : (made : DeskCall) → b.asking ≡ None → (AnswersCalm (λ name. true) means made b t a → Stays)
      → MayAnswerAt (λ name. true) means made b.asking b t a → Stays
  calm_stays made none each h =
      elim (subst (λ x. MayAnswerAt (λ name. true) means made x b t a) none h) [
        | inl dry ↦ lacks_stays made dry.1
        | inr done ↦ each done
      ]

  sits_stays : (id : List ℕ) → AnswersSit means id b t a → Stays
  sits_stays id h =
      at_stays b.seat _ _ (λ seat s. elim s [ inl sat ↦ ap group_of sat.left | inr away ↦ ap group_of away.left ]) h

  begun_stays : (keep : Keep) (reply : Result Begun Refusal) (next : ClientState) (p : PlaceState) → p.group ≡ b.group
      → IsBegun keep reply next p t a → Stays
  begun_stays keep (Ok asked) next p same k = ap group_of k.left ∙ same
  begun_stays keep (Err e) next p same k = ap group_of k.1 ∙ same

  begins_stays : (keep : Keep) (c : ClientState) → BeginsPull keep means c (made_room (call.Begin keep) b) t a → Stays
  begins_stays keep c h = begun_stays keep h.reply h.next (made_room (call.Begin keep) b) refl h.begun

  forgets_stays : (n : ℕ) (kept : Ticket) → Forgets n kept b t a → Stays
  forgets_stays n kept f = ap group_of f.1

  leaves_stays : (c : ClientState) → Leaves c b t a → Stays
  leaves_stays c l = ap group_of l.left

  begins_reading_stays : (c : ClientState) → MayBeginReading means c b t a → Stays
  begins_reading_stays c h = elim h [ inl begun ↦ ap group_of begun.left | inr lost ↦ ap group_of lost.left ]

  ends_reading_stays : (reader : ClientState) → EndsReading reader b t a → Stays
  ends_reading_stays reader e = ap group_of e.left

  refreshes_stays : (c : ClientState) → Refreshes means c b t a → Stays
  refreshes_stays c r = ap group_of r.left

  counts_stays : (c : ClientState) → CountsFree c b t a → Stays
  counts_stays c h = ap group_of h.2

  watches_stays : (keep : Keep) (scan : Scan) (p : PlaceState) (c : ClientState) → p.group ≡ b.group
      → Watches keep scan c p t a → Stays
  watches_stays keep scan p c same w = ap group_of w.left ∙ same

  unwatches_stays : (n : ℕ) (watch : Watched) → Unwatches n watch b t a → Stays
  unwatches_stays n watch u = ap group_of u.1

  polls_stays : (telling : Telling) (n : ℕ) (c : ClientState) → At (kept_at b.watches n) fault.NoWatch
      (λ watch. PollsAs telling means c n watch) b t a → Stays
  polls_stays telling n c h =
      at_stays (kept_at b.watches n) fault.NoWatch (λ watch. PollsAs telling means c n watch)
      (λ watch p. ap group_of p.left) h

  waits_stays : (is : Changing → Type 0) (c : ClientState) → Waits means is c b t a → Stays
  waits_stays is c w = ap group_of w.left

  pub stays : (made : DeskCall) → b.asking ≡ None → MayAnswerWaiting means made b t a → Stays
  stays (call.Mutate m) none h = by_stays (Waits means (λ x. x ≡ changing.Mutate m)) (waits_stays _) h
  stays (call.End n body) none h =
      by_stays (λ c p. At (kept_at p.tickets n) fault.NoTicket (λ kept. Waits means (IsEndOf kept body.now) c) p)
      (λ c. at_stays (kept_at b.tickets n) fault.NoTicket (λ kept. Waits means (IsEndOf kept body.now) c)
      (λ kept. waits_stays (IsEndOf kept body.now) c)) h
  stays (call.Sit id) none h = calm_stays (call.Sit id) none (sits_stays id.now) h
  stays call.Leave none h =
      calm_stays call.Leave none (at_stays (client_at b) fault.NoClient Leaves leaves_stays) h
  stays call.BeginRead none h =
      calm_stays call.BeginRead none (by_stays (MayBeginReading means) begins_reading_stays) h
  stays call.EndRead none h =
      calm_stays call.EndRead none (at_stays b.reading fault.NotRead EndsReading ends_reading_stays) h
  stays call.Slots none h = calm_stays call.Slots none (by_stays CountsFree counts_stays) h
  stays call.Refresh none h =
      calm_stays call.Refresh none (by_stays (Refreshes means) refreshes_stays) h
  stays (call.Begin keep) none h =
      calm_stays (call.Begin keep) none (by_stays (λ c p. BeginsPull keep means c (made_room (call.Begin keep) p))
      (λ c. begins_stays keep c)) h
  stays (call.Forget n) none h =
      calm_stays (call.Forget n) none (at_stays (kept_at b.tickets n) fault.NoTicket (Forgets n) (forgets_stays n)) h
  stays (call.Watch keep scan) none h =
      calm_stays (call.Watch keep scan) none
      (by_stays (λ c p. Watches keep scan.now c (made_room (call.Watch keep scan) p))
      (λ c. watches_stays keep scan.now (made_room (call.Watch keep scan) b) c refl)) h
  stays (call.Poll n) none h =
      calm_stays (call.Poll n) none (by_stays
      (λ c p. At (kept_at p.watches n) fault.NoWatch (λ watch. Polls means c n watch) p)
      (polls_stays TellsRows n)) h
  stays (call.PollChanges n) none h =
      calm_stays (call.PollChanges n) none (by_stays
      (λ c p. At (kept_at p.watches n) fault.NoWatch (λ watch. PollsChanges means c n watch) p)
      (polls_stays TellsChanges n)) h
  stays (call.Unwatch n) none h =
      calm_stays (call.Unwatch n) none (at_stays (kept_at b.watches n) fault.NoWatch (Unwatches n)
      (unwatches_stays n)) h
  stays (call.Get key) none h =
      calm_stays (call.Get key) none (asks_stays value_told (λ c s. get_at means s key.now)) h
  stays (call.Has key) none h = calm_stays (call.Has key) none (asks_stays is_told (λ c s. has_at means s key.now)) h
  stays (call.Scan scan) none h =
      calm_stays (call.Scan scan) none (asks_stays rows_told (λ c s. view_rows means s scan.now)) h
  stays (call.PulledGet key) none h =
      calm_stays (call.PulledGet key) none (asks_stays value_told (λ c s. finite.get s.pulled key.now)) h
  stays (call.PulledScan scan) none h =
      calm_stays (call.PulledScan scan) none (asks_stays rows_told (λ c s. rows_of scan.now s.pulled)) h
  stays call.Empty none h = calm_stays call.Empty none (asks_stays is_told (λ c s. is_empty_at means s)) h
  stays call.Pending none h = calm_stays call.Pending none (asks_stays pending_told (λ c s. s.pending)) h
  stays call.Cookie none h = calm_stays call.Cookie none (asks_stays cookie_told (λ c s. s.cookie)) h
  stays call.Closed none h = calm_stays call.Closed none (asks_stays is_told (λ c s. s.closed)) h
  stays (call.Push skip) none h =
      calm_stays (call.Push skip) none
      (asks_stays bytes_told (λ c s. push_text c.group.identity (drop skip s.pending))) h
  stays call.Moment none h = calm_stays call.Moment none (moment_stays b.reading) h
  stays other none h = calm_stays other none (λ n. ap group_of n.1) h

-- a group that has all mutators asks for no run
pub none_asks : (means : Meanings) (group : Grouped) (asking : Option UnderWay)
    → IfSome asking (IsAsking (λ name. true) means group) → asking ≡ None
none_asks means group None is = refl
none_asks means group (Some a) is = absurd (cc is.0)
