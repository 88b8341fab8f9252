-- A call of the client that sits at a place, but for one that sits down, leaves or begins a reading, leaves the same
-- client there, which knows no less; and it asks for no run.
use Rattle.std.proofs.Common.{◌≡◌, ℕ, [], ap, inl, inr, ◌∙◌, refl, subst, sym, true, Option, Some, None, Result, Ok}
use Rattle.std.proofs.Common.{Err}
use Rattle.std.proofs.lemmas.List.{append-nil}
use Rattle.std.specs.Prelude.{⊤, drop}
use Rattle.std.specs.FinMap as finite
use Rattle.group_history.specs.declared.scans.Scan.{Scan}
use Rattle.group_history.specs.Meaning.{Meanings}
use Rattle.group_history.specs.Queries.{get_at, has_at, is_empty_at, view_rows}
use Rattle.group_history.specs.Scans.{rows_of}
use Rattle.group_history.specs.State.{State}
use Rattle.push_body.specs.Bodies.{push_text}
use Rattle.commit_graph.specs.Seats.{IsSameSeat, SeatState}
use Rattle.rebase.specs.Clients.{ClientState, IsSameClient, AfterLook}
use Rattle.rebase.specs.Queries.{AskedQuery as Begun}
use Rattle.rebase.specs.Running.{UnderWay}
use Rattle.rebase.specs.declared.calls.Call.{Call as Changing}
use Rattle.rebase.specs.declared.calls.Call.TheVariants as changing
use Rattle.group_history.specs.declared.refusals.Refusal.{Refusal}
use Rattle.client_desk.specs.declared.calls.DeskCall.{DeskCall}
use Rattle.client_desk.specs.declared.calls.DeskCall.TheVariants as call
use Rattle.client_desk.specs.declared.calls.Keep.{Keep}
use Rattle.client_desk.specs.declared.faults.CallFault.{CallFault}
use Rattle.client_desk.specs.declared.faults.CallFault.TheVariants as fault
use Rattle.client_desk.specs.Answers.{AnswersQuery, AsksAs, At, BeginsPull, ByClient}
use Rattle.client_desk.specs.Answers.{CountsFree, EndsReading, HasOnlyLooked}
use Rattle.client_desk.specs.Answers.{IsBegun, AnswersLack, Polls, PollsAs, PollsChanges, AnswersRead, Refreshes}
use Rattle.client_desk.specs.Answers.{Rule, Telling}
use Rattle.client_desk.specs.Answers.{TellsChanges, TellsMoment, TellsMomentAs, TellsRows, Unwatches, Watches, absent}
use Rattle.client_desk.specs.Answers.{made_room}
use Rattle.client_desk.specs.Calls.{AnswersCalm, MayAnswerAt}
use Rattle.client_desk.specs.Inside.Sitting.{IsAtRest}
use Rattle.client_desk.specs.Kept.{kept_at}
use Rattle.client_desk.specs.Places.{PlaceState}
use Rattle.client_desk.specs.Told.{Told, bytes_told, cookie_told, is_told, pending_told, rows_told, value_told}
use Rattle.client_desk.specs.Waiting.{IsEndOf, MayAnswerWaiting, Waits}

-- the call is none that sits down, leaves or begins a reading
abbrev pub IsSitting : DeskCall → Type 0
IsSitting (call.Sit id) = ⊥
IsSitting call.Leave = ⊥
IsSitting call.BeginRead = ⊥
IsSitting other = ⊤

-- who sits at a place, the change there that asks for a run, and who has a reading open
abbrev who : PlaceState → Option ClientState × Option UnderWay × Option ClientState
who p = (p.client, p.asking, p.reading)

room_same : (made : DeskCall) (b : PlaceState) → who (made_room made b) ≡ who b
room_same (call.Begin keep) b = refl
room_same (call.Watch keep scan) b = refl
room_same other b = refl

-- the same client, which knows no less, sits at the place, where no run is asked for and no reading is open
abbrev pub Sits : ClientState → PlaceState → Type 0
Sits c a = (d : ClientState) × (a.client ≡ Some d) × IsAtRest a × IsSameClient c d × IsSameSeat c.seat d.seat

same_seat : (s : SeatState) → IsSameSeat s s
same_seat s = record {
  table = refl;
  later = record { book = refl; seat = refl; seen = ([], append-nil s.mark.log) };
}

module _ (means : Meanings) (c : ClientState) (b a : PlaceState) (t : Told) (sits : b.client ≡ Some c)
    (calm : IsAtRest b) where
  moved_on : (d : ClientState) → who a ≡ (Some d, b.asking, b.reading) → IsSameClient c d → IsSameSeat c.seat d.seat
      → Sits c a
  moved_on d is client seat =
      (d, ap (λ w. w.0) is, (ap (λ w. w.1) is ∙ calm.0, ap (λ w. w.2) is ∙ calm.1), client, seat)

  as_before : who a ≡ who b → Sits c a
  as_before same = moved_on c (same ∙ ap (λ o. (o, b.asking, b.reading)) sits) (refl, refl) (same_seat c.seat)

  by_looks : (d : ClientState) → who a ≡ (Some d, b.asking, b.reading) → AfterLook ⊤ c d → Sits c a
  by_looks d is l = moved_on d is l.client l.looked.seat

  only_looked : (p : PlaceState) → who p ≡ who b → HasOnlyLooked p a → Sits c a
  only_looked p same h =
      let here : Some h.old ≡ Some c = sym h.sits ∙ ap (λ w. w.0) same ∙ sits in
      let is : h.old ≡ c = cc here in
      by_looks h.new (ap who h.left ∙ ap (λ w. (Some h.new, w.1, w.2)) same)
      (subst (λ o. AfterLook ⊤ o h.new) is h.stays.0)

  lacks : (made : DeskCall) → AnswersLack (made_room made b) t a → Sits c a
  lacks made l = elim l.left [
    | inl same ↦ as_before (ap who same ∙ room_same made b)
    | inr looked ↦ only_looked (made_room made b) (room_same made b) looked
  ]

  at_sits : {X : Type 0} (x : Option X) (none : CallFault) (rule : X → Rule) → ((y : X) → rule y b t a → Sits c a)
      → At x none rule b t a → Sits c a
  at_sits (Some y) none rule each h = each y h
  at_sits None none rule each h = as_before (ap who h.1)

  by_sits : (rule : ClientState → Rule) → (rule c b t a → Sits c a) → ByClient rule b t a → Sits c a
  by_sits rule each h = each (subst (λ o. At o (absent b.reading) rule b t a) sits h)

  reads_sits : {X : Type 0} (tell : X → Told) (right : State → X) → AnswersRead tell right means c b t a → Sits c a
  reads_sits tell right h = by_looks h.0 (ap who h.2) h.1.stays.0

  asks_sits : {X : Type 0} (tell : X → Told) (right : ClientState → State → X) → AnswersQuery tell right means b t a
      → Sits c a
  asks_sits tell right h =
      by_sits (λ d. AnswersRead tell (right d) means d) (reads_sits tell (right c))
      (subst (λ o. AsksAs tell right means o b t a) calm.1 h)

  moment_sits : TellsMomentAs means b.reading b t a → Sits c a
  moment_sits h =
      by_sits (TellsMoment means) (λ m. moved_on m.next (ap who m.left) m.same.0 m.looked.seat)
      (subst (λ o. TellsMomentAs means o b t a) calm.1 h)

  calm_sits : (made : DeskCall) → (AnswersCalm (λ name. true) means made b t a → Sits c a)
      → MayAnswerAt (λ name. true) means made b.asking b t a → Sits c a
  calm_sits made each h =
      elim (subst (λ x. MayAnswerAt (λ name. true) means made x b t a) calm.0 h) [
        | inl dry ↦ lacks made dry.1
        | inr done ↦ each done
      ]

  none_ends : At None fault.NotRead EndsReading b t a → Sits c a
  none_ends h = as_before (ap who h.1)

  counts_sits : CountsFree c b t a → Sits c a
  counts_sits h = moved_on h.0 (ap who h.2) h.1.same.0 h.1.looked.seat

  begun_sits : (keep : Keep) (reply : Result Begun Refusal) (next : ClientState) (p : PlaceState) → who p ≡ who b
      → AfterLook ⊤ c next → IsBegun keep reply next p t a → Sits c a
  begun_sits keep (Ok asked) next p same l k =
      by_looks next (ap who k.left ∙ ap (λ w. (Some next, w.1, w.2)) same) l
  begun_sits keep (Err e) next p same l k = by_looks next (ap who k.1 ∙ ap (λ w. (Some next, w.1, w.2)) same) l

  begins_sits : (keep : Keep) → BeginsPull keep means c (made_room (call.Begin keep) b) t a → Sits c a
  begins_sits keep h = begun_sits keep h.reply h.next (made_room (call.Begin keep) b) refl h.stays.0 h.begun

  watches_sits : (keep : Keep) (scan : Scan) (p : PlaceState) → who p ≡ who b → Watches keep scan c p t a → Sits c a
  watches_sits keep scan p same w = as_before (ap who w.left ∙ same)

  waits_sits : (is : Changing → Type 0) → Waits means is c b t a → Sits c a
  waits_sits is w = moved_on w.next (ap who w.left) w.acts.client w.acts.seat

  polls_sits : (telling : Telling) (n : ℕ) → At (kept_at b.watches n) fault.NoWatch
      (λ watch. PollsAs telling means c n watch) b t a → Sits c a
  polls_sits telling n h =
      at_sits (kept_at b.watches n) fault.NoWatch (λ watch. PollsAs telling means c n watch)
      (λ watch p. by_looks p.next (ap who p.left) p.stays.0) h

  pub remains : (made : DeskCall) → IsSitting made → MayAnswerWaiting means made b t a → Sits c a
  remains (call.Mutate m) is h = by_sits (Waits means (λ x. x ≡ changing.Mutate m)) (waits_sits _) h
  remains (call.End n body) is h =
      by_sits (λ c p. At (kept_at p.tickets n) fault.NoTicket (λ kept. Waits means (IsEndOf kept body.now) c) p)
      (at_sits (kept_at b.tickets n) fault.NoTicket (λ kept. Waits means (IsEndOf kept body.now) c)
      (λ kept. waits_sits (IsEndOf kept body.now))) h
  remains (call.Sit id) is h = absurd is
  remains call.Leave is h = absurd is
  remains call.BeginRead is h = absurd is
  remains call.EndRead is h =
      calm_sits call.EndRead (λ e. none_ends (subst (λ o. At o fault.NotRead EndsReading b t a) calm.1 e)) h
  remains call.Slots is h = calm_sits call.Slots (by_sits CountsFree counts_sits) h
  remains call.Refresh is h =
      calm_sits call.Refresh (by_sits (Refreshes means) (λ r. by_looks r.next (ap who r.left) r.looks)) h
  remains (call.Begin keep) is h =
      calm_sits (call.Begin keep) (by_sits (λ c p. BeginsPull keep means c (made_room (call.Begin keep) p))
      (begins_sits keep)) h
  remains (call.Forget n) is h =
      calm_sits (call.Forget n) (at_sits (kept_at b.tickets n) fault.NoTicket _
      (λ kept f. as_before (ap who f.1))) h
  remains (call.Watch keep scan) is h =
      calm_sits (call.Watch keep scan)
      (by_sits (λ c p. Watches keep scan.now c (made_room (call.Watch keep scan) p))
      (watches_sits keep scan.now (made_room (call.Watch keep scan) b) refl)) h
  remains (call.Poll n) is h =
      calm_sits (call.Poll n) (by_sits
      (λ c p. At (kept_at p.watches n) fault.NoWatch (λ watch. Polls means c n watch) p)
      (polls_sits TellsRows n)) h
  remains (call.PollChanges n) is h =
      calm_sits (call.PollChanges n) (by_sits
      (λ c p. At (kept_at p.watches n) fault.NoWatch (λ watch. PollsChanges means c n watch) p)
      (polls_sits TellsChanges n)) h
  remains (call.Unwatch n) is h =
      calm_sits (call.Unwatch n) (at_sits (kept_at b.watches n) fault.NoWatch (Unwatches n)
      (λ kept u. as_before (ap who u.1))) h
  remains (call.Get key) is h = calm_sits (call.Get key) (asks_sits value_told (λ c s. get_at means s key.now)) h
  remains (call.Has key) is h = calm_sits (call.Has key) (asks_sits is_told (λ c s. has_at means s key.now)) h
  remains (call.Scan scan) is h =
      calm_sits (call.Scan scan) (asks_sits rows_told (λ c s. view_rows means s scan.now)) h
  remains (call.PulledGet key) is h =
      calm_sits (call.PulledGet key) (asks_sits value_told (λ c s. finite.get s.pulled key.now)) h
  remains (call.PulledScan scan) is h =
      calm_sits (call.PulledScan scan) (asks_sits rows_told (λ c s. rows_of scan.now s.pulled)) h
  remains call.Empty is h = calm_sits call.Empty (asks_sits is_told (λ c s. is_empty_at means s)) h
  remains call.Pending is h = calm_sits call.Pending (asks_sits pending_told (λ c s. s.pending)) h
  remains call.Cookie is h = calm_sits call.Cookie (asks_sits cookie_told (λ c s. s.cookie)) h
  remains call.Closed is h = calm_sits call.Closed (asks_sits is_told (λ c s. s.closed)) h
  remains (call.Push skip) is h =
      calm_sits (call.Push skip)
      (asks_sits bytes_told (λ c s. push_text c.group.identity (drop skip s.pending))) h
  remains call.Moment is h = calm_sits call.Moment moment_sits h
  remains other is h = calm_sits other (λ n. as_before (ap who n.1)) h
