-- A line of a client that has a reading open: what it is told, and that it leaves the client there.
use Rattle.std.proofs.Common.{◌≡◌, ℕ, inl, inr, true, List, [], Option, Some, None, Result, Ok, Err, IfErr, IfOk}
use Rattle.std.proofs.Common.{refl, sym, ap, subst, ◌∙◌}
use Rattle.std.proofs.lemmas.List.{append-nil}
use Rattle.std.specs.FinMap as finite
use Rattle.std.specs.Prelude.{⊤, drop, option_map}
use Rattle.group_history.specs.declared.changes.Change.{Change}
use Rattle.group_history.specs.declared.refusals.Refusal.{Refusal}
use Rattle.group_history.specs.declared.refusals.Refusal.TheVariants.{NoMemory}
use Rattle.group_history.specs.declared.scans.Scan.{Scan}
use Rattle.group_history.specs.Map.{Bytes}
use Rattle.group_history.specs.Meaning.{Meanings}
use Rattle.group_history.specs.Queries.{get_at, has_at, is_empty_at, view_rows}
use Rattle.group_history.specs.Scans.{rows_of}
use Rattle.group_history.specs.State.{State}
use Rattle.head_word.specs.Laws.{moment}
use Rattle.head_word.specs.Marks.{Known}
use Rattle.linearized.specs.Answered.{is_resource_refusal}
use Rattle.commit_graph.specs.Seats.{IsSameSeat, SeatState}
use Rattle.change_tries.specs.Missing.{IsStoreOrMemory}
use Rattle.push_body.specs.Bodies.{push_text}
use Rattle.rebase.specs.declared.calls.Call.TheVariants as changing
use Rattle.rebase.specs.Calls.{caller_of}
use Rattle.rebase.specs.Clients.{ClientState}
use Rattle.rebase.specs.Running.{UnderWay}
use Rattle.rebase.specs.Watching.{Watched}
use Rattle.client_desk.specs.declared.calls.DeskCall.{DeskCall}
use Rattle.client_desk.specs.declared.calls.DeskCall.TheVariants as call
use Rattle.client_desk.specs.declared.faults.CallFault.TheVariants as fault
use Rattle.client_desk.specs.declared.outcomes.Outcome.TheVariants.{Done, Faulty}
use Rattle.client_desk.specs.Answers.{AsksAs, At, BeginsPull, ByClient, CountsFree}
use Rattle.client_desk.specs.Answers.{EndsReading, AnswersLack, MayBeginReading}
use Rattle.client_desk.specs.Answers.{Polls, PollsChanges, Refreshes, Rule, TellsMomentAs, Unwatches}
use Rattle.client_desk.specs.Answers.{AnswersQuery as Queries}
use Rattle.client_desk.specs.Answers.{Watches, absent, made_room, read_by_client}
use Rattle.client_desk.specs.Calls.{AnswersCalm, MayAnswerAt}
use Rattle.client_desk.specs.Kept.{kept_at}
use Rattle.client_desk.specs.Learning.{LearnsAt}
use Rattle.client_desk.specs.Places.{PlaceState}
use Rattle.client_desk.specs.Told.{Told, bytes_told, cookie_told, id_told, is_told, pending_told, rows_told, tells}
use Rattle.client_desk.specs.Told.{told_alone, value_told}
use Rattle.client_desk.specs.Waiting.{IsEndOf, MayAnswerWaiting, Waits}
use Rattle.script_parser.specs.declared.script.Command.{Command}
use Rattle.script_parser.specs.declared.script.Command.TheVariants as command
use Rattle.script_parser.specs.declared.script.MutatorCall.{MutatorCall}
use Rattle.script_parser.specs.declared.script.Query.{Query}
use Rattle.script_parser.specs.declared.script.Query.TheVariants as query
use Rattle.script_runner.specs.Commanding.{AsksDesk, AsksQuery, LearnsFirst, MayTell, learnt_by}
use Rattle.script_runner.specs.Inside.Records.{IsClientOf}
use Rattle.script_runner.specs.Plain.{IsDone, Plain, if_kept, looked, plain_reading, query_told}
use Rattle.script_runner.specs.Plain.{reading_at, reading_behind, client_reading}

-- why a query is refused that a reading answers
pub missed_wants : (e : Refusal) → IsStoreOrMemory ⊤ e → is_resource_refusal e ≡ true
missed_wants e (inl is) = ap is_resource_refusal is
missed_wants e (inr (inl is)) = ap is_resource_refusal is
missed_wants e (inr (inr is)) = ap is_resource_refusal is.1

-- who sits at a place, the change there that asks for a run, and who has a reading open
abbrev who : PlaceState → Option ClientState × Option UnderWay × Option ClientState
who p = (p.client, p.asking, p.reading)

room_same : (made : DeskCall) (b : PlaceState) → who (made_room made b) ≡ who b
room_same (call.Begin keep) b = refl
room_same (call.Watch keep scan) b = refl
room_same other b = refl

same_seat : (s : SeatState) → IsSameSeat s s
same_seat s = record {
  table = refl;
  later = record { book = refl; seat = refl; seen = ([], append-nil s.mark.log) };
}

-- it learns nothing
pub learns_none : (sight : Option Known) (before after : PlaceState) → before.client ≡ None
    → LearnsFirst sight before after
    → after ≡ before
learns_none None before after none h = h
learns_none (Some other) before after none h = subst (λ o. LearnsAt o other before after) none h

-- the line is told what it should be, and the record stays; its client is the one of the place still, which has seen
-- what it had, and reads what it should
pub record HasRead (means : Meanings) (r : ClientState) (b a : PlaceState) (t : Told) (old : List Change) (x : Command)
    : Type 0 where
  pub done : IsDone (plain_reading means (caller_of r) b.watches (client_reading r) x) t old old
  pub next : ClientState
  pub is : IsClientOf next a
  pub seat : IsSameSeat r.seat next.seat
  pub mark : next.seat.mark ≡ r.seat.mark
  pub reads : (s : State) (n : ℕ) → reading_at a ≡ reading_behind s n (Some (client_reading r)) x t.outcome

module _ (means : Meanings) (r : ClientState) (b a : PlaceState) (t : Told) (none : b.client ≡ None)
    (opened : b.reading ≡ Some r) (calm : b.asking ≡ None) (old : List Change) where
  abbrev the : Command → Plain
  the x = plain_reading means (caller_of r) b.watches (client_reading r) x

  -- nothing is changed there
  abbrev Is : Plain → Type 0
  Is is = IsDone is t old old × (who a ≡ who b)

  -- the client reads, and can't be called
  abbrev busy : Plain
  busy = looked (told_alone (Faulty fault.Reads))

  only_told : (says : Told) → t ≡ says → who a ≡ who b → Is (looked says)
  only_told says is same = (inl (is, sym (append-nil old)), same)

  lacks : (made : DeskCall) (is : Plain) → AnswersLack (made_room made b) t a → Is is
  lacks made is l = (
    inr ((NoMemory, refl, l.told), refl),
    elim l.left [
      | inl left ↦ ap who left ∙ room_same made b
      | inr h ↦
          let there : Some h.old ≡ None = sym h.sits ∙ ap (λ w. w.0) (room_same made b) ∙ none in
          absurd (cc there)
    ],
  )

  by_calm : (made : DeskCall) (is : Plain) → (AnswersCalm (λ name. true) means made b t a → Is is)
      → MayAnswerAt (λ name. true) means made b.asking b t a → Is is
  by_calm made is each h =
      elim (subst (λ x. MayAnswerAt (λ name. true) means made x b t a) calm h) [
        | inl dry ↦ lacks made is dry.1
        | inr done ↦ each done
      ]

  by_client : (rule : ClientState → Rule) → ByClient rule b t a → Is busy
  by_client rule h =
      let told = subst (λ o. At o (absent b.reading) rule b t a) none h in
      only_told (told_alone (Faulty fault.Reads)) (told.0 ∙ ap (λ o. told_alone (Faulty (absent o))) opened)
      (ap who told.1)

  kept_told : {X : Type 0} (tell : X → Told) (x : X) (reply : Result X Refusal) → IfOk reply (λ y. y ≡ x)
      → IfErr reply (IsStoreOrMemory ⊤) → t ≡ tells tell reply → who a ≡ who b → Is (looked (tell x))
  kept_told tell x (Ok y) is refused told same = only_told (tell x) (told ∙ ap tell is) same
  kept_told tell x (Err e) is refused told same = (inr ((e, missed_wants e refused, told), refl), same)

  by_reading : {X : Type 0} (tell : X → Told) (right : ClientState → State → X) → Queries tell right means b t a
      → Is (looked (tell (right r (read_by_client r))))
  by_reading tell right h =
      let k = subst (λ o. AsksAs tell right means o b t a) opened h in
      kept_told tell (right r (read_by_client r)) k.0.reply k.0.answer k.0.refused k.0.told (ap who k.1)

  by_query : (q : Query) (made : DeskCall) → AsksQuery q made → MayAnswerWaiting means made b t a
      → Is (looked (query_told means (read_by_client r) (caller_of r) q))
  by_query (query.Get key) (call.Get k) asked h =
      subst (λ x. Is (looked (value_told (get_at means (read_by_client r) x)))) asked
      (by_calm (call.Get k) (looked (value_told (get_at means (read_by_client r) k.now)))
      (by_reading value_told (λ x s. get_at means s k.now)) h)
  by_query (query.Get key) other asked h = absurd asked
  by_query (query.Has key) (call.Has k) asked h =
      subst (λ x. Is (looked (is_told (has_at means (read_by_client r) x)))) asked
      (by_calm (call.Has k) (looked (is_told (has_at means (read_by_client r) k.now)))
      (by_reading is_told (λ x s. has_at means s k.now)) h)
  by_query (query.Has key) other asked h = absurd asked
  by_query (query.Scan scan) (call.Scan k) asked h =
      subst (λ x. Is (looked (rows_told (view_rows means (read_by_client r) x)))) asked
      (by_calm (call.Scan k) (looked (rows_told (view_rows means (read_by_client r) k.now)))
      (by_reading rows_told (λ x s. view_rows means s k.now)) h)
  by_query (query.Scan scan) other asked h = absurd asked
  by_query query.Empty call.Empty asked h =
      by_calm call.Empty (looked (is_told (is_empty_at means (read_by_client r))))
      (by_reading is_told (λ x s. is_empty_at means s)) h
  by_query query.Empty other asked h = absurd asked
  by_query query.Closed call.Closed asked h =
      by_calm call.Closed (looked (is_told (read_by_client r).closed)) (by_reading is_told (λ x s. s.closed)) h
  by_query query.Closed other asked h = absurd asked
  by_query query.Pending call.Pending asked h =
      by_calm call.Pending (looked (pending_told (read_by_client r).pending))
      (by_reading pending_told (λ x s. s.pending)) h
  by_query query.Pending other asked h = absurd asked
  by_query query.Cookie call.Cookie asked h =
      by_calm call.Cookie (looked (cookie_told (read_by_client r).cookie)) (by_reading cookie_told (λ x s. s.cookie)) h
  by_query query.Cookie other asked h = absurd asked
  by_query (query.Push n) (call.Push skip) asked h =
      subst (λ k. Is (looked (bytes_told (push_text r.group.identity (drop k (read_by_client r).pending))))) asked
      (by_calm (call.Push skip)
      (looked (bytes_told (push_text r.group.identity (drop skip (read_by_client r).pending))))
      (by_reading bytes_told (λ x s. push_text x.group.identity (drop skip s.pending))) h)
  by_query (query.Push n) other asked h = absurd asked
  by_query (query.PulledGet key) (call.PulledGet k) asked h =
      subst (λ x. Is (looked (value_told (finite.get (read_by_client r).pulled x)))) asked
      (by_calm (call.PulledGet k) (looked (value_told (finite.get (read_by_client r).pulled k.now)))
      (by_reading value_told (λ x s. finite.get s.pulled k.now)) h)
  by_query (query.PulledGet key) other asked h = absurd asked
  by_query (query.PulledScan scan) (call.PulledScan k) asked h =
      subst (λ x. Is (looked (rows_told (rows_of x (read_by_client r).pulled)))) asked
      (by_calm (call.PulledScan k) (looked (rows_told (rows_of k.now (read_by_client r).pulled)))
      (by_reading rows_told (λ x s. rows_of k.now s.pulled)) h)
  by_query (query.PulledScan scan) other asked h = absurd asked

  by_begin : (n : ℕ) (made : DeskCall) → AsksDesk (command.Begin n) made → MayAnswerWaiting means made b t a → Is busy
  by_begin n (call.Begin keep) asked h =
      by_calm (call.Begin keep) busy (by_client (λ x p. BeginsPull keep means x (made_room (call.Begin keep) p))) h
  by_begin n other asked h = absurd asked

  by_end : (n : ℕ) (body : Bytes) (made : DeskCall) → AsksDesk (command.End n body) made
      → MayAnswerWaiting means made b t a
      → Is busy
  by_end n body (call.End m bytes) asked h =
      by_client (λ x p. At (kept_at p.tickets m) fault.NoTicket (λ kept. Waits means (IsEndOf kept bytes.now) x) p) h
  by_end n body other asked h = absurd asked

  by_mutation : (m : MutatorCall) (made : DeskCall) → AsksDesk (command.Mutate m) made
      → MayAnswerWaiting means made b t a
      → Is busy
  by_mutation m (call.Mutate n) asked h = by_client (Waits means (λ x. x ≡ changing.Mutate n)) h
  by_mutation m other asked h = absurd asked

  by_refresh : (made : DeskCall) → AsksDesk command.Refresh made → MayAnswerWaiting means made b t a → Is busy
  by_refresh call.Refresh asked h = by_calm call.Refresh busy (by_client (Refreshes means)) h
  by_refresh other asked h = absurd asked

  by_slots : (made : DeskCall) → AsksDesk command.Slots made → MayAnswerWaiting means made b t a → Is busy
  by_slots call.Slots asked h = by_calm call.Slots busy (by_client CountsFree) h
  by_slots other asked h = absurd asked

  by_moment : (made : DeskCall) → AsksDesk command.Moment made → MayAnswerWaiting means made b t a
      → Is (the command.Moment)
  by_moment call.Moment asked h =
      by_calm call.Moment (the command.Moment)
      (λ done.
      let m = subst (λ o. TellsMomentAs means o b t a) opened done in
      only_told (id_told (moment r.seat.mark.log)) m.0 (ap who m.1)) h
  by_moment other asked h = absurd asked

  by_watch : (n : ℕ) (scan : Scan) (made : DeskCall) → AsksDesk (command.Watch n scan) made
      → MayAnswerWaiting means made b t a
      → Is busy
  by_watch n scan (call.Watch keep k) asked h =
      by_calm (call.Watch keep k) busy
      (by_client (λ x p. Watches keep k.now x (made_room (call.Watch keep k) p))) h
  by_watch n scan other asked h = absurd asked

  by_poll : (n : ℕ) (made : DeskCall) → AsksDesk (command.Poll n) made → MayAnswerWaiting means made b t a → Is busy
  by_poll n (call.Poll k) asked h =
      by_calm (call.Poll k) busy
      (by_client (λ x p. At (kept_at p.watches k) fault.NoWatch (λ watch. Polls means x k watch) p)) h
  by_poll n other asked h = absurd asked

  by_changes : (n : ℕ) (made : DeskCall) → AsksDesk (command.Changes n) made → MayAnswerWaiting means made b t a
      → Is busy
  by_changes n (call.PollChanges k) asked h =
      by_calm (call.PollChanges k) busy
      (by_client (λ x p. At (kept_at p.watches k) fault.NoWatch (λ watch. PollsChanges means x k watch) p)) h
  by_changes n other asked h = absurd asked

  by_unkept : (n : ℕ) (x : Option Watched) → At x fault.NoWatch (Unwatches n) b t a
      → Is (if_kept x fault.NoWatch (λ watch. looked (told_alone Done)))
  by_unkept n (Some watch) h = only_told (told_alone Done) h.0 (ap who h.1)
  by_unkept n None h = only_told (told_alone (Faulty fault.NoWatch)) h.0 (ap who h.1)

  by_unwatch : (n : ℕ) (made : DeskCall) → AsksDesk (command.Unwatch n) made → MayAnswerWaiting means made b t a
      → Is (the (command.Unwatch n))
  by_unwatch n (call.Unwatch k) asked h =
      subst (λ j. Is (the (command.Unwatch j))) asked
      (by_calm (call.Unwatch k) (the (command.Unwatch k)) (by_unkept k (kept_at b.watches k)) h)
  by_unwatch n other asked h = absurd asked

  -- the place has its reading still
  still : (x : Command)
      → ((s : State) (n : ℕ) → Some (client_reading r) ≡ reading_behind s n (Some (client_reading r)) x t.outcome)
      → Is (the x) → HasRead means r b a t old x
  still x reads is = record {
    done = is.0;
    next = r;
    is = record {
      at = inr (ap (λ w. w.0) is.1 ∙ none, ap (λ w. w.2) is.1 ∙ opened);
      calm = ap (λ w. w.1) is.1 ∙ calm;
    };
    seat = same_seat r.seat;
    mark = refl;
    reads = λ s n. ap (λ w. option_map client_reading w.2) is.1 ∙ ap (option_map client_reading) opened ∙ reads s n;
  }

  by_begin_read : (made : DeskCall) → AsksDesk command.BeginRead made → MayAnswerWaiting means made b t a
      → HasRead means r b a t old command.BeginRead
  by_begin_read call.BeginRead asked h =
      elim (subst (λ x. MayAnswerAt (λ name. true) means call.BeginRead x b t a) calm h) [
        | inl dry ↦ absurd dry.0
        | inr done ↦
            let told = subst (λ o. At o (absent b.reading) (MayBeginReading means) b t a) none done in
            let is : t ≡ told_alone (Faulty fault.Reads) = told.0 ∙ ap (λ o. told_alone (Faulty (absent o))) opened in
            still command.BeginRead
            (λ s n. sym
            (ap (λ (w : Told). reading_behind s n (Some (client_reading r)) command.BeginRead w.outcome) is))
            (only_told (told_alone (Faulty fault.Reads)) is (ap who told.1))
      ]
  by_begin_read other asked h = absurd asked

  -- its reading ends
  ended : EndsReading r b t a → HasRead means r b a t old command.EndRead
  ended e = record {
    done = inl (e.told, sym (append-nil old));
    next = e.client;
    is = record {
      at = inl (ap (λ (p : PlaceState). p.client) e.left, ap (λ (p : PlaceState). p.reading) e.left);
      calm = ap (λ (p : PlaceState). p.asking) e.left ∙ calm;
    };
    seat = e.stays.0.looked.seat;
    mark = e.mark;
    reads = λ s n. ap (λ (p : PlaceState). reading_at p) e.left
        ∙ sym (ap (λ (w : Told). reading_behind s n (Some (client_reading r)) command.EndRead w.outcome) e.told);
  }

  by_end_read : (made : DeskCall) → AsksDesk command.EndRead made → MayAnswerWaiting means made b t a
      → HasRead means r b a t old command.EndRead
  by_end_read call.EndRead asked h =
      elim (subst (λ x. MayAnswerAt (λ name. true) means call.EndRead x b t a) calm h) [
        | inl dry ↦ absurd dry.0
        | inr done ↦ ended (subst (λ o. At o fault.NotRead EndsReading b t a) opened done)
      ]
  by_end_read other asked h = absurd asked

  -- any command
  pub has_read : (sights : List (Option Known)) (x : Command) → MayTell means sights x b t a
      → HasRead means r b a t old x
  has_read sights (command.Query q) h =
      still (command.Query q) (λ s n. refl) (by_query q h.made h.asked h.may)
  has_read sights (command.Begin n) h = still (command.Begin n) (λ s k. refl) (by_begin n h.made h.asked h.may)
  has_read sights (command.End n body) h =
      still (command.End n body) (λ s k. refl) (by_end n body h.made h.asked h.may)
  has_read sights (command.Mutate m) h = still (command.Mutate m) (λ s n. refl) (by_mutation m h.made h.asked h.may)
  has_read sights command.Refresh h = still command.Refresh (λ s n. refl) (by_refresh h.made h.asked h.may)
  has_read sights command.Moment h = still command.Moment (λ s n. refl) (by_moment h.made h.asked h.may)
  has_read sights command.Slots h = still command.Slots (λ s n. refl) (by_slots h.made h.asked h.may)
  has_read sights command.BeginRead h = by_begin_read h.made h.asked h.may
  has_read sights command.EndRead h = by_end_read h.made h.asked h.may
  has_read sights (command.Learn other) h =
      still (command.Learn other) (λ s n. refl)
      (only_told (told_alone (Faulty fault.Reads)) (h.told ∙ ap (λ o. told_alone (learnt_by o)) opened)
      (ap who (learns_none (kept_at sights other) b a none h.learnt)))
  has_read sights (command.Watch n scan) h =
      still (command.Watch n scan) (λ s k. refl) (by_watch n scan h.made h.asked h.may)
  has_read sights (command.Poll n) h = still (command.Poll n) (λ s k. refl) (by_poll n h.made h.asked h.may)
  has_read sights (command.Changes n) h = still (command.Changes n) (λ s k. refl) (by_changes n h.made h.asked h.may)
  has_read sights (command.Unwatch n) h = still (command.Unwatch n) (λ s k. refl) (by_unwatch n h.made h.asked h.may)
