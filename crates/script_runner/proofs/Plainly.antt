-- A command beside which nobody changes the group is told what the group of one thread replies.
use Rattle.std.proofs.Common.{◌≡◌, ◌+◌, ℕ, inl, inr, true, List, Option, Some, None, Result}
use Rattle.std.proofs.Common.{Ok, Err, refl, sym, ap, subst, ◌∙◌, filter}
use Rattle.std.proofs.lemmas.List.{append-nil}
use Rattle.std.specs.FinMap as finite
use Rattle.std.specs.Prelude.{drop, option_map}
use Rattle.std.specs.Option.{option_or}
use Rattle.group_history.specs.declared.changes.Change.{Change}
use Rattle.group_history.specs.declared.scans.Scan.{Scan}
use Rattle.group_history.specs.declared.refusals.Refusal.{Refusal}
use Rattle.group_history.specs.declared.refusals.Refusal.TheVariants.{NoMemory}
use Rattle.group_history.specs.Map.{Bytes}
use Rattle.group_history.specs.Meaning.{Meanings}
use Rattle.group_history.specs.Mutating.{mutate_reply}
use Rattle.group_history.specs.Queries.{get_at, has_at, is_empty_at, view_rows}
use Rattle.group_history.specs.Record.{after}
use Rattle.group_history.specs.Scans.{rows_of}
use Rattle.group_history.specs.State.{State, last_id, made}
use Rattle.head_word.specs.Books.{record_of}
use Rattle.head_word.specs.Laws.{moment}
use Rattle.head_word.specs.Marks.{Known, own}
use Rattle.linearized.specs.Answered.{IsLinearized, is_move, no_change}
use Rattle.linearized.specs.Changes.{change_made, change_read}
use Rattle.pull_patch.specs.Grammar.{answer_to}
use Rattle.push_body.specs.Bodies.{push_text}
use Rattle.rebase.specs.Asking.{end_bytes_reply}
use Rattle.rebase.specs.Calls.{asked_mutation, caller_of, change_of, reply_to}
use Rattle.rebase.specs.Clients.{ClientState}
use Rattle.rebase.specs.Queries.{asked_at, AskedQuery as Begun}
use Rattle.rebase.specs.Watching.{Watched, poll_at}
use Rattle.rebase.specs.declared.watching.Polled.{Polled}
use Rattle.rebase.specs.declared.calls.Call.{Call as Changing}
use Rattle.rebase.specs.declared.calls.Call.TheVariants as changing
use Rattle.rebase.specs.declared.calls.Mutate.{Mutate}
use Rattle.rebase.specs.declared.tickets.Ticket.{Ticket}
use Rattle.client_desk.specs.declared.calls.DeskCall.{DeskCall}
use Rattle.client_desk.specs.declared.calls.DeskCall.TheVariants as call
use Rattle.client_desk.specs.declared.calls.Keep.{Keep}
use Rattle.client_desk.specs.declared.calls.Keep.TheVariants.{At as AtNumber}
use Rattle.client_desk.specs.declared.faults.CallFault.{CallFault}
use Rattle.client_desk.specs.declared.faults.CallFault.TheVariants as fault
use Rattle.client_desk.specs.declared.outcomes.Outcome.TheVariants.{Done, Faulty, Number}
use Rattle.client_desk.specs.Answers.{AsksAs, At, BeginsPull, ByClient, CountsBy, CountsFree, EndsReading, IsBegun}
use Rattle.client_desk.specs.Answers.{AnswersLack, Polls, read_by_client}
use Rattle.client_desk.specs.Answers.{PollsChanges, AnswersRead, Refreshes, TellsChanges, TellsMoment, TellsMomentAs}
use Rattle.client_desk.specs.Answers.{AnswersQuery as Queries}
use Rattle.client_desk.specs.Answers.{Rule, Unwatches, Watches, absent, made_room, tries}
use Rattle.client_desk.specs.Inside.Sitting.{IsAtRest}
use Rattle.client_desk.specs.Calls.{AnswersCalm, MayAnswerAt}
use Rattle.client_desk.specs.Kept.{IsNumberFor, kept_at}
use Rattle.client_desk.specs.Learning.{LearnsAt, sight_of}
use Rattle.client_desk.specs.Places.{PlaceState, client_at}
use Rattle.client_desk.proofs.Remaining.{IsSitting, remains}
use Rattle.client_desk.specs.Told.{Told, bytes_told, cookie_told, id_told, is_told, pending_told}
use Rattle.client_desk.specs.Told.{polled_told, replied_told, rows_told, tells, told}
use Rattle.client_desk.specs.Told.{told_alone, value_told}
use Rattle.client_desk.specs.Waiting.{IsEndOf, MayAnswerWaiting, Waits}
use Rattle.script_parser.specs.declared.script.Command.{Command}
use Rattle.script_parser.specs.declared.script.Command.TheVariants as command
use Rattle.script_parser.specs.declared.script.MutatorCall.{MutatorCall}
use Rattle.script_parser.specs.declared.script.Query.{Query}
use Rattle.script_parser.specs.declared.script.Query.TheVariants as query
use Rattle.script_runner.specs.Answering.{moment_seen, record_seen}
use Rattle.script_runner.specs.Inside.Exact.{IsExactCall}
use Rattle.script_runner.specs.Commanding.{AsksDesk, AsksQuery, LearnsFirst, MayTell, learnt_by}
use Rattle.script_runner.specs.Plain.{IsDone, Plain, changed, counted, ended, if_kept, looked, mutated}
use Rattle.script_runner.specs.Plain.{plain_sitting, query_told, reading_at, reading_behind, client_reading}
use Rattle.script_runner.specs.Sights.{sight_at}
use Rattle.script_runner.proofs.Reading.{missed_wants}
use Rattle.script_runner.proofs.Seated.{begins_reading, caught_up, leaves_none, sits_none}
use Rattle.script_runner.proofs.Replying.{ended_means, ended_says, id_means, id_says, replies, says_right, tells_right}

module _ (means : Meanings) (seen : Option Known) (c d : ClientState) (b a : PlaceState) (t : Told)
    (sat : b.client ≡ Some c) (calm : IsAtRest b) (there : client_at a ≡ Some d)
    (exact : IsExactCall means seen c.seat.mark d.seat.mark) where
  abbrev now : State
  now = after (record_seen seen)

  abbrev the : Command → Plain
  the x = plain_sitting means now (caller_of c) b.tickets b.watches (moment_seen (sight_at a)) x

  abbrev Is : Plain → Type 0
  Is is = IsDone is t (record_seen seen) (record_seen (sight_at a))

  -- the client that sits there at the end is the one of the place
  at_end : (next : ClientState) → a.client ≡ Some next → client_at a ≡ Some next
  at_end next is = ap (λ o. option_or o a.reading) is

  -- what the client of the place has seen at the end
  seen_at : (next : ClientState) → client_at a ≡ Some next → record_seen (sight_at a) ≡ record_of next.seat.mark.log
  seen_at next is = ap (λ o. record_seen (option_map sight_of o)) is

  exact_at : (next : ClientState) → client_at a ≡ Some next → IsExactCall means seen c.seat.mark next.seat.mark
  exact_at next is =
      let whole : Some d ≡ Some next = sym there ∙ is in
      let same : d ≡ next = cc whole in
      subst (λ (x : ClientState). IsExactCall means seen c.seat.mark x.seat.mark) same exact

  still_at : (next : ClientState) → client_at a ≡ Some next → own next.seat.mark ≡ own c.seat.mark
      → record_seen (sight_at a) ≡ record_seen seen
  still_at next is same = seen_at next is ∙ (exact_at next is).none (ap (filter is_move) same)

  seen_by : (next : ClientState) → a.client ≡ Some next → record_seen (sight_at a) ≡ record_of next.seat.mark.log
  seen_by next is = seen_at next (at_end next is)

  exact_by : (next : ClientState) → a.client ≡ Some next → IsExactCall means seen c.seat.mark next.seat.mark
  exact_by next is = exact_at next (at_end next is)

  still : (next : ClientState) → a.client ≡ Some next → own next.seat.mark ≡ own c.seat.mark
      → record_seen (sight_at a) ≡ record_seen seen
  still next is = still_at next (at_end next is)

  -- this is told, and nothing was changed
  only_told : (says : Told) → t ≡ says → record_seen (sight_at a) ≡ record_seen seen → Is (looked says)
  only_told says is same = inl (is, same ∙ sym (append-nil (record_seen seen)))

  -- a reply, by the client after it
  by_reply : {X : Type 0} (n : ℕ) (tell : X → Told) (is : Plain) (reply : Result X Refusal)
      (change : Result X Refusal → Option Change) (right : State → Result X Refusal) (next : ClientState)
      → a.client ≡ Some next → IsLinearized means n c.seat.mark next.seat.mark reply change right
      → t ≡ tells tell reply → is.says (tells tell (right now)) → change (right now) ≡ is.change → Is is
  by_reply n tell is reply change right next there answer said told_is change_is =
      subst (IsDone is t (record_seen seen)) (sym (seen_by next there))
      (tells_right tell is t (record_seen seen) (record_of next.seat.mark.log) reply change right said told_is change_is
      (replies means seen n c.seat.mark next.seat.mark reply change right (exact_by next there) answer))

  lacks : (is : Plain) (p : PlaceState) → p.client ≡ b.client → AnswersLack p t a → Is is
  lacks is p same l = inr (
    (NoMemory, refl, l.told),
    elim l.left [
      | inl left ↦ still c (ap (λ (q : PlaceState). q.client) left ∙ same ∙ sat) refl
      | inr h ↦
          let here : Some h.old ≡ Some c = sym h.sits ∙ same ∙ sat in
          let old : h.old ≡ c = cc here in
          still h.new (ap (λ (q : PlaceState). q.client) h.left)
          (h.stays.0.looked.own ∙ ap (λ (x : ClientState). own x.seat.mark) old)
    ],
  )

  room_client : (made : DeskCall) → (made_room made b).client ≡ b.client
  room_client (call.Begin keep) = refl
  room_client (call.Watch keep scan) = refl
  room_client other = refl

  by_calm : (made : DeskCall) (is : Plain) → (AnswersCalm (λ name. true) means made b t a → Is is)
      → MayAnswerAt (λ name. true) means made b.asking b t a → Is is
  by_calm made is each h =
      elim (subst (λ x. MayAnswerAt (λ name. true) means made x b t a) calm.0 h) [
        | inl dry ↦ lacks is (made_room made b) (room_client made) dry.1
        | inr done ↦ each done
      ]

  by_client : (rule : ClientState → Rule) → ByClient rule b t a → rule c b t a
  by_client rule h = subst (λ o. At o (absent b.reading) rule b t a) sat h

  by_kept : {X : Type 0} (x : Option X) (none : CallFault) (rule : X → Rule) (is : X → Plain)
      → ((y : X) → rule y b t a → Is (is y)) → At x none rule b t a → Is (if_kept x none is)
  by_kept (Some y) none rule is each h = each y h
  by_kept None none rule is each h =
      only_told (told_alone (Faulty none)) h.0 (still c (ap (λ (q : PlaceState). q.client) h.1 ∙ sat) refl)

  by_reading : {X : Type 0} (tell : X → Told) (right : ClientState → State → X) → Queries tell right means b t a
      → Is (looked (tell (right c now)))
  by_reading tell right h =
      let r = by_client (λ x. AnswersRead tell (right x) means x)
      (subst (λ o. AsksAs tell right means o b t a) calm.1 h) in
      by_reply tries tell (looked (tell (right c now))) r.1.reply no_change (λ s. Ok (right c s)) r.0
      (ap (λ (q : PlaceState). q.client) r.2) r.1.answer r.1.told refl refl

  by_query : (q : Query) (made : DeskCall) → AsksQuery q made → MayAnswerWaiting means made b t a
      → Is (looked (query_told means now (caller_of c) q))
  by_query (query.Get key) (call.Get k) asked h =
      subst (λ x. Is (looked (value_told (get_at means now x)))) asked
      (by_calm (call.Get k) (looked (value_told (get_at means now k.now)))
      (by_reading value_told (λ x s. get_at means s k.now)) h)
  by_query (query.Get key) other asked h = absurd asked
  by_query (query.Has key) (call.Has k) asked h =
      subst (λ x. Is (looked (is_told (has_at means now x)))) asked
      (by_calm (call.Has k) (looked (is_told (has_at means now k.now)))
      (by_reading is_told (λ x s. has_at means s k.now)) h)
  by_query (query.Has key) other asked h = absurd asked
  by_query (query.Scan scan) (call.Scan k) asked h =
      subst (λ x. Is (looked (rows_told (view_rows means now x)))) asked
      (by_calm (call.Scan k) (looked (rows_told (view_rows means now k.now)))
      (by_reading rows_told (λ x s. view_rows means s k.now)) h)
  by_query (query.Scan scan) other asked h = absurd asked
  by_query query.Empty call.Empty asked h =
      by_calm call.Empty (looked (is_told (is_empty_at means now))) (by_reading is_told (λ x s. is_empty_at means s)) h
  by_query query.Empty other asked h = absurd asked
  by_query query.Closed call.Closed asked h =
      by_calm call.Closed (looked (is_told now.closed)) (by_reading is_told (λ x s. s.closed)) h
  by_query query.Closed other asked h = absurd asked
  by_query query.Pending call.Pending asked h =
      by_calm call.Pending (looked (pending_told now.pending)) (by_reading pending_told (λ x s. s.pending)) h
  by_query query.Pending other asked h = absurd asked
  by_query query.Cookie call.Cookie asked h =
      by_calm call.Cookie (looked (cookie_told now.cookie)) (by_reading cookie_told (λ x s. s.cookie)) h
  by_query query.Cookie other asked h = absurd asked
  by_query (query.Push n) (call.Push skip) asked h =
      subst (λ k. Is (looked (bytes_told (push_text c.group.identity (drop k now.pending))))) asked
      (by_calm (call.Push skip) (looked (bytes_told (push_text c.group.identity (drop skip now.pending))))
      (by_reading bytes_told (λ x s. push_text x.group.identity (drop skip s.pending))) h)
  by_query (query.Push n) other asked h = absurd asked
  by_query (query.PulledGet key) (call.PulledGet k) asked h =
      subst (λ x. Is (looked (value_told (finite.get now.pulled x)))) asked
      (by_calm (call.PulledGet k) (looked (value_told (finite.get now.pulled k.now)))
      (by_reading value_told (λ x s. finite.get s.pulled k.now)) h)
  by_query (query.PulledGet key) other asked h = absurd asked
  by_query (query.PulledScan scan) (call.PulledScan k) asked h =
      subst (λ x. Is (looked (rows_told (rows_of x now.pulled)))) asked
      (by_calm (call.PulledScan k) (looked (rows_told (rows_of k.now now.pulled)))
      (by_reading rows_told (λ x s. rows_of k.now s.pulled)) h)
  by_query (query.PulledScan scan) other asked h = absurd asked

  by_begun : (n : ℕ) (keep : Keep) (reply : Result Begun Refusal) (next : ClientState) (p : PlaceState)
      → keep ≡ AtNumber n
      → IsLinearized means tries c.seat.mark next.seat.mark reply no_change (λ s. Ok (asked_at c.group.identity s))
      → IsBegun keep reply next p t a → Is (looked (told (Number n) (asked_at c.group.identity now).body))
  by_begun n keep (Ok asked) next p at answer begun =
      let number : begun.number ≡ n = subst (λ k. IsNumberFor k begun.number p.tickets) at begun.where_ in
      by_reply tries (λ (x : Begun). told (Number n) x.body)
      (looked (told (Number n) (asked_at c.group.identity now).body)) (Ok asked) no_change
      (λ s. Ok (asked_at c.group.identity s)) next (ap (λ (q : PlaceState). q.client) begun.left) answer
      (begun.told ∙ ap (λ k. told (Number k) asked.body) number) refl refl
  by_begun n keep (Err e) next p at answer begun =
      by_reply tries (λ (x : Begun). told (Number n) x.body)
      (looked (told (Number n) (asked_at c.group.identity now).body)) (Err e) no_change
      (λ s. Ok (asked_at c.group.identity s)) next (ap (λ (q : PlaceState). q.client) begun.1) answer begun.0 refl refl

  by_begin : (n : ℕ) (made : DeskCall) → AsksDesk (command.Begin n) made → MayAnswerWaiting means made b t a
      → Is (the (command.Begin n))
  by_begin n (call.Begin keep) asked h =
      by_calm (call.Begin keep) (the (command.Begin n))
      (λ done.
      let r = by_client (λ x p. BeginsPull keep means x (made_room (call.Begin keep) p)) done in
      by_begun n keep r.reply r.next (made_room (call.Begin keep) b) asked r.answer r.begun) h
  by_begin n other asked h = absurd asked

  by_end_of : (kept : Ticket) (body : Bytes) → Waits means (IsEndOf kept body) c b t a
      → Is (ended means now (caller_of c) kept body)
  by_end_of kept body w = go w.made w.asked w.answer
    where
      go : (made : Changing) → IsEndOf kept body made
          → IsLinearized means 0 c.seat.mark w.next.seat.mark w.reply (change_of (caller_of c) made)
          (λ s. reply_to means (caller_of c) s made) → Is (ended means now (caller_of c) kept body)
      go (changing.EndPull at bytes) asked answer =
          let right = end_bytes_reply now at.now.cookie.text bytes.now in
          subst (λ k. Is (ended means now (caller_of c) k body)) asked.0
          (subst (λ x. Is (ended means now (caller_of c) at.now x)) asked.1
          (by_reply 0 replied_told (ended means now (caller_of c) at.now bytes.now) w.reply
          (change_of (caller_of c) (changing.EndPull at bytes))
          (λ s. reply_to means (caller_of c) s (changing.EndPull at bytes)) w.next
          (ap (λ (q : PlaceState). q.client) w.left) answer w.told (ended_says right)
          (ap (change_read at.now.cookie (answer_to bytes.now)) (ended_means right))))
      go other asked answer = absurd asked

  by_end : (n : ℕ) (body : Bytes) (made : DeskCall) → AsksDesk (command.End n body) made
      → MayAnswerWaiting means made b t a
      → Is (the (command.End n body))
  by_end n body (call.End m bytes) asked h =
      subst (λ k. Is (the (command.End k body))) asked.0
      (subst (λ x. Is (the (command.End m x))) asked.1
      (by_kept (kept_at b.tickets m) fault.NoTicket (λ kept. Waits means (IsEndOf kept bytes.now) c)
      (λ kept. ended means now (caller_of c) kept bytes.now) (λ kept. by_end_of kept bytes.now)
      (by_client (λ x p. At (kept_at p.tickets m) fault.NoTicket (λ kept. Waits means (IsEndOf kept bytes.now) x) p)
      h)))
  by_end n body other asked h = absurd asked

  by_mutation : (m : MutatorCall) (made : DeskCall) → AsksDesk (command.Mutate m) made
      → MayAnswerWaiting means made b t a
      → Is (the (command.Mutate m))
  by_mutation m (call.Mutate n) asked h =
      let w = by_client (Waits means (λ x. x ≡ changing.Mutate n)) h in
      let x = asked_mutation (caller_of c) n in
      let right = mutate_reply means now c.last x in
      let same : x ≡ made c.id (c.last + 1) m.mutator m.args m.time =
      ap (λ k. made c.id (c.last + 1) k n.args.now n.time) asked.name
      ∙ ap (λ k. made c.id (c.last + 1) m.mutator k n.time) asked.args
      ∙ ap (made c.id (c.last + 1) m.mutator m.args) asked.time in
      subst (λ y. Is (mutated means now (caller_of c) y)) same
      (by_reply 0 replied_told (mutated means now (caller_of c) x) w.reply (change_of (caller_of c) (changing.Mutate n))
      (λ s. reply_to means (caller_of c) s (changing.Mutate n)) w.next (ap (λ (q : PlaceState). q.client) w.left)
      (subst (λ y. IsLinearized means 0 c.seat.mark w.next.seat.mark w.reply (change_of (caller_of c) y)
      (λ s. reply_to means (caller_of c) s y)) w.asked w.answer) w.told (id_says right)
      (ap (change_made x) (id_means right)))
  by_mutation m other asked h = absurd asked

  by_refresh : (made : DeskCall) → AsksDesk command.Refresh made → MayAnswerWaiting means made b t a
      → Is (the command.Refresh)
  by_refresh call.Refresh asked h =
      by_calm call.Refresh (the command.Refresh)
      (λ done.
      let r = by_client (Refreshes means) done in
      by_reply tries id_told (the command.Refresh) r.reply no_change (λ s. Ok (last_id s c.id)) r.next
      (ap (λ (q : PlaceState). q.client) r.left) r.answer r.told refl refl) h
  by_refresh other asked h = absurd asked

  by_moment : (made : DeskCall) → AsksDesk command.Moment made → MayAnswerWaiting means made b t a
      → Is (the command.Moment)
  by_moment call.Moment asked h =
      by_calm call.Moment (the command.Moment)
      (λ done.
      let m = by_client (TellsMoment means) (subst (λ o. TellsMomentAs means o b t a) calm.1 done) in
      let there : a.client ≡ Some m.next = ap (λ (q : PlaceState). q.client) m.left in
      let seen_at : moment_seen (sight_at a) ≡ moment m.next.seat.mark.log =
      ap (λ o. moment_seen (option_map sight_of o)) (at_end m.next there) in
      only_told (id_told (moment_seen (sight_at a))) (m.told ∙ ap id_told (sym seen_at))
      (still m.next there m.looked.own)) h
  by_moment other asked h = absurd asked

  by_counts : (next : ClientState) → a.client ≡ Some next → CountsBy c t next → Is counted
  by_counts next there r = elim r.told [
    | inl is ↦ inl ((r.counts, is), still next there r.looked.own ∙ sym (append-nil (record_seen seen)))
    | inr dry ↦ inr ((NoMemory, refl, dry), still next there r.looked.own)
  ]

  by_slots : (made : DeskCall) → AsksDesk command.Slots made → MayAnswerWaiting means made b t a → Is counted
  by_slots call.Slots asked h =
      by_calm call.Slots counted
      (λ done.
      let r = by_client CountsFree done in by_counts r.0 (ap (λ (q : PlaceState). q.client) r.2) r.1) h
  by_slots other asked h = absurd asked

  by_watch : (n : ℕ) (scan : Scan) (made : DeskCall) → AsksDesk (command.Watch n scan) made
      → MayAnswerWaiting means made b t a
      → Is (the (command.Watch n scan))
  by_watch n scan (call.Watch keep k) asked h =
      by_calm (call.Watch keep k) (the (command.Watch n scan))
      (λ done.
      let r = by_client (λ x p. Watches keep k.now x (made_room (call.Watch keep k) p)) done in
      let number : r.number ≡ n =
      subst (λ j. IsNumberFor j r.number (made_room (call.Watch keep k) b).watches) asked.0 r.where_ in
      only_told (told_alone (Number n)) (r.told ∙ ap (λ j. told_alone (Number j)) number)
      (still c (ap (λ (q : PlaceState). q.client) r.left ∙ sat) refl)) h
  by_watch n scan other asked h = absurd asked

  by_poll : (n : ℕ) (made : DeskCall) → AsksDesk (command.Poll n) made → MayAnswerWaiting means made b t a
      → Is (the (command.Poll n))
  by_poll n (call.Poll k) asked h =
      subst (λ j. Is (the (command.Poll j))) asked
      (by_calm (call.Poll k) (the (command.Poll k))
      (λ done.
      by_kept (kept_at b.watches k) fault.NoWatch (λ watch. Polls means c k watch)
      (λ watch. looked (polled_told (poll_at means watch now)))
      (λ watch r. by_reply tries polled_told (looked (polled_told (poll_at means watch now))) r.reply no_change
      (λ s. Ok (poll_at means watch s)) r.next (ap (λ (q : PlaceState). q.client) r.left) r.answer r.told refl refl)
      (by_client (λ x p. At (kept_at p.watches k) fault.NoWatch (λ watch. Polls means x k watch) p) done)) h)
  by_poll n other asked h = absurd asked

  by_changed : (k : ℕ) (watch : Watched) → PollsChanges means c k watch b t a
      → Is (changed watch (poll_at means watch now))
  by_changed k watch r =
      let there : a.client ≡ Some r.next = ap (λ (q : PlaceState). q.client) r.left in
      let right : State → Result Polled Refusal = λ s. Ok (poll_at means watch s) in
      subst (IsDone (changed watch (poll_at means watch now)) t (record_seen seen)) (sym (seen_by r.next there))
      (says_right (TellsChanges watch) (changed watch (poll_at means watch now)) t (record_seen seen)
      (record_of r.next.seat.mark.log) r.reply no_change right r.told (λ e h. h) (λ h. h) refl
      (replies means seen tries c.seat.mark r.next.seat.mark r.reply no_change right (exact_by r.next there) r.answer))

  by_changes : (n : ℕ) (made : DeskCall) → AsksDesk (command.Changes n) made → MayAnswerWaiting means made b t a
      → Is (the (command.Changes n))
  by_changes n (call.PollChanges k) asked h =
      subst (λ j. Is (the (command.Changes j))) asked
      (by_calm (call.PollChanges k) (the (command.Changes k))
      (λ done.
      by_kept (kept_at b.watches k) fault.NoWatch (λ watch. PollsChanges means c k watch)
      (λ watch. changed watch (poll_at means watch now)) (λ watch r. by_changed k watch r)
      (by_client (λ x p. At (kept_at p.watches k) fault.NoWatch (λ watch. PollsChanges means x k watch) p) done)) h)
  by_changes n other asked h = absurd asked

  by_unwatch : (n : ℕ) (made : DeskCall) → AsksDesk (command.Unwatch n) made → MayAnswerWaiting means made b t a
      → Is (the (command.Unwatch n))
  by_unwatch n (call.Unwatch k) asked h =
      subst (λ j. Is (the (command.Unwatch j))) asked
      (by_calm (call.Unwatch k) (the (command.Unwatch k))
      (by_kept (kept_at b.watches k) fault.NoWatch (Unwatches k) (λ watch. looked (told_alone Done))
      (λ watch r. only_told (told_alone Done) r.0 (still c (ap (λ (q : PlaceState). q.client) r.1 ∙ sat) refl))) h)
  by_unwatch n other asked h = absurd asked

  by_learning : (sight : Option Known) → LearnsFirst sight b a → record_seen (sight_at a) ≡ record_seen seen
  by_learning None h = still c (ap (λ (q : PlaceState). q.client) h ∙ sat) refl
  by_learning (Some other) h =
      let l = subst (λ o. LearnsAt o other b a) sat h in
      still l.next (ap (λ (q : PlaceState). q.client) l.left) l.looked.own

  -- what is read then, where nothing was and no reading began
  abbrev IsRead : Command → Type 0
  IsRead x = reading_at a ≡ reading_behind now (moment_seen (sight_at a)) None x t.outcome

  by_begin_read : (made : DeskCall) → AsksDesk command.BeginRead made → MayAnswerWaiting means made b t a
      → Is (the command.BeginRead) × IsRead command.BeginRead
  by_begin_read call.BeginRead asked h = elim (begins_reading means c b t a sat calm h) [
    | inl r ↦
        let there : client_at a ≡ Some r.reader = ap client_at r.left in
        let state : read_by_client r.reader ≡ now =
        ap after ((exact_at r.reader there).point None r.reader.seat.mark.log r.point) in
        let number : moment r.reader.seat.mark.log ≡ moment_seen (sight_at a) =
        sym (ap (λ o. moment_seen (option_map sight_of o)) there) in (
          only_told (told_alone Done) r.told (still_at r.reader there r.reads.looked.own),
          ap (λ (p : PlaceState). reading_at p) r.left
              ∙ ap (λ s. Some (record { state = s; number = moment r.reader.seat.mark.log })) state
              ∙ ap (λ n. Some (record { state = now; number = n })) number
              ∙ sym (ap (λ (w : Told). reading_behind now (moment_seen (sight_at a)) None command.BeginRead w.outcome)
              r.told),
        )
    | inr l ↦ (
      inr (
        (l.refusal, missed_wants l.refusal (inr l.missed), l.told),
        still l.next (ap (λ (p : PlaceState). p.client) l.left) l.stays.0.looked.own,
      ),
      ap (λ (p : PlaceState). reading_at p) l.left ∙ ap (option_map client_reading) calm.1
          ∙ sym (ap (λ (w : Told). reading_behind now (moment_seen (sight_at a)) None command.BeginRead w.outcome)
          l.told),
    )
  ]
  by_begin_read other asked h = absurd asked

  by_end_read : (made : DeskCall) → AsksDesk command.EndRead made → MayAnswerWaiting means made b t a
      → Is (the command.EndRead) × IsRead command.EndRead
  by_end_read call.EndRead asked h =
      elim (subst (λ x. MayAnswerAt (λ name. true) means call.EndRead x b t a) calm.0 h) [
        | inl dry ↦ absurd dry.0
        | inr done ↦
            let e = subst (λ o. At o fault.NotRead EndsReading b t a) calm.1 done in (
              only_told (told_alone (Faulty fault.NotRead)) e.0
                  (still c (ap (λ (q : PlaceState). q.client) e.1 ∙ sat) refl),
              ap (λ (p : PlaceState). reading_at p) e.1 ∙ ap (option_map client_reading) calm.1
                  ∙ sym (ap (λ (w : Told). reading_behind now (moment_seen (sight_at a)) None command.EndRead w.outcome)
                  e.0),
            )
      ]
  by_end_read other asked h = absurd asked

  -- the client of another call sits at its place still
  sits_still : (made : DeskCall) → IsSitting made → MayAnswerWaiting means made b t a → reading_at a ≡ None
  sits_still made is h = ap (option_map client_reading) (remains means c b a t sat calm made is h).2.1

  makes_still : (x : Command) → (AsksDesk x call.BeginRead → ⊥) → (made : DeskCall) → AsksDesk x made
      → MayAnswerWaiting means made b t a → reading_at a ≡ None
  makes_still x none (call.Sit id) asked h = absurd (sits_none x id asked)
  makes_still x none call.Leave asked h = absurd (leaves_none x asked)
  makes_still x none call.BeginRead asked h = absurd (none asked)
  makes_still x none other asked h = sits_still other tt h

  learns_still : (sight : Option Known) → LearnsFirst sight b a → reading_at a ≡ None
  learns_still sight h = ap (option_map client_reading) (caught_up c sight b a sat calm h).calm.1

  no_query : (q : Query) → AsksQuery q call.BeginRead → ⊥
  no_query (query.Get key) h = h
  no_query (query.Has key) h = h
  no_query (query.Scan scan) h = h
  no_query query.Empty h = h
  no_query query.Closed h = h
  no_query query.Pending h = h
  no_query query.Cookie h = h
  no_query (query.Push n) h = h
  no_query (query.PulledGet key) h = h
  no_query (query.PulledScan scan) h = h

  -- any command
  pub plainly : (sights : List (Option Known)) (x : Command) → MayTell means sights x b t a → Is (the x) × IsRead x
  plainly sights (command.Query q) h =
      (by_query q h.made h.asked h.may, makes_still (command.Query q) (no_query q) h.made h.asked h.may)
  plainly sights (command.Begin n) h =
      (by_begin n h.made h.asked h.may, makes_still (command.Begin n) (λ e. e) h.made h.asked h.may)
  plainly sights (command.End n body) h =
      (by_end n body h.made h.asked h.may, makes_still (command.End n body) (λ e. e) h.made h.asked h.may)
  plainly sights (command.Mutate m) h =
      (by_mutation m h.made h.asked h.may, makes_still (command.Mutate m) (λ e. e) h.made h.asked h.may)
  plainly sights command.Refresh h =
      (by_refresh h.made h.asked h.may, makes_still command.Refresh (λ e. e) h.made h.asked h.may)
  plainly sights command.Moment h =
      (by_moment h.made h.asked h.may, makes_still command.Moment (λ e. e) h.made h.asked h.may)
  plainly sights command.Slots h =
      (by_slots h.made h.asked h.may, makes_still command.Slots (λ e. e) h.made h.asked h.may)
  plainly sights command.BeginRead h = by_begin_read h.made h.asked h.may
  plainly sights command.EndRead h = by_end_read h.made h.asked h.may
  plainly sights (command.Learn other) h = (
    only_told (told_alone Done) (h.told ∙ ap (λ o. told_alone (learnt_by o)) calm.1)
        (by_learning (kept_at sights other) h.learnt),
    learns_still (kept_at sights other) h.learnt,
  )
  plainly sights (command.Watch n scan) h =
      (by_watch n scan h.made h.asked h.may, makes_still (command.Watch n scan) (λ e. e) h.made h.asked h.may)
  plainly sights (command.Poll n) h =
      (by_poll n h.made h.asked h.may, makes_still (command.Poll n) (λ e. e) h.made h.asked h.may)
  plainly sights (command.Changes n) h =
      (by_changes n h.made h.asked h.may, makes_still (command.Changes n) (λ e. e) h.made h.asked h.may)
  plainly sights (command.Unwatch n) h =
      (by_unwatch n h.made h.asked h.may, makes_still (command.Unwatch n) (λ e. e) h.made h.asked h.may)
