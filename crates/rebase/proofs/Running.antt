-- A change whose mutators the caller runs: how its call ends.
use Rattle.std.proofs.Common.{◌≡◌, ◌≤◌, inl, inr, ℕ, ◌+◌, ◌∷◌, List, [], Option, Some, None, Result, Ok, Err, refl, sym}
use Rattle.std.proofs.Common.{ap, subst, ◌∙◌, arith, reverse, Bool, ◌++◌, append_assoc}
use Rattle.std.specs.Prelude.{IfErr}
use Rattle.group_history.specs.declared.changes.Change.{Change}
use Rattle.group_history.specs.declared.changes.Change.TheVariants.{Mutated, Pulled, Closed}
use Rattle.group_history.specs.declared.mutations.MutationFields.{MutationFields as Mutation}
use Rattle.group_history.specs.declared.refs.Ref.{Ref}
use Rattle.group_history.specs.declared.mutators.Ran.{Ran}
use Rattle.group_history.specs.declared.refusals.Refusal.{Refusal}
use Rattle.group_history.specs.declared.refusals.Refusal.TheVariants as refusal
use Rattle.group_history.specs.declared.responses.Ended.{Ended}
use Rattle.group_history.specs.declared.responses.Response.{Response}
use Rattle.group_history.specs.declared.responses.Response.TheVariants as response
use Rattle.group_history.specs.declared.responses.VersionKind.{VersionKind}
use Rattle.group_history.specs.Answers.{◌>>=◌}
use Rattle.group_history.specs.Answers.{Refuses}
use Rattle.group_history.specs.Cookies.{Cookie}
use Rattle.group_history.specs.Map.{Bytes}
use Rattle.group_history.specs.Meaning.{Meanings}
use Rattle.group_history.specs.Pull.{Pull}
use Rattle.group_history.specs.Mutating.{mutate_reply}
use Rattle.group_history.specs.Pulling.{end_reply}
use Rattle.group_history.specs.Record.{after}
use Rattle.group_history.specs.Spelling.{Contents}
use Rattle.group_history.specs.State.{State, state}
use Rattle.head_word.specs.Books.{IsOpened, drawn, record_of}
use Rattle.head_word.specs.Marks.{Known}
use Rattle.pull_patch.specs.Grammar.{answer_to}
use Rattle.commit_graph.specs.Seats.{GroupId, IsSameSeat, SeatState}
use Rattle.chunk_slots.specs.Seats.{IsIdle}
use Rattle.commit_graph.proofs.Seating.{seat-self, seat-trans}
use Rattle.linearized.specs.Answered.{IsLinearized, is_resource_refusal, no_change, own_moves}
use Rattle.linearized.specs.Changes.{change_applied, change_closing, change_made, change_read}
use mathlib.Core.List.{IsPrefix}
use Rattle.linearized.proofs.Losing.{others_grow}
use Rattle.change_tries.proofs.Giving.{after_tries, gives_calm, gives_none}
use Rattle.change_tries.specs.Arriving.{when_seen}
use Rattle.change_tries.specs.Causes.{HasCause}
use Rattle.change_tries.specs.Changing.{ended_as, is_made}
use Rattle.change_tries.specs.Leaving.{Frees, MayTake, spared}
use Rattle.change_tries.specs.Missing.{map_ok}
use Rattle.change_tries.specs.Proposing.{asked_reply, change_asked}
use Rattle.change_tries.proofs.Making.{wanting}
use Rattle.transactions.specs.Maps.{map_or}
use Rattle.change_tries.specs.Runs.{IsAskedRun, run_start}
use Rattle.change_tries.specs.Runs.{IsFirstRun, left_of, with_more}
use Rattle.group_history.proofs.Replays.{replayed-append}
use Rattle.change_tries.specs.Tries.{FollowsRun, StartsAnew}
use Rattle.change_tries.specs.Tries.{IsEnded, IsFoundMade, IsProgress, IsSince, TellsProgress}
use Rattle.change_tries.specs.declared.trying.Attempt.{Attempt}
use Rattle.change_tries.specs.declared.runs.AskedRun.{AskedRun}
use Rattle.change_tries.specs.declared.trying.Progress.{Progress}
use Rattle.change_tries.specs.declared.trying.Progress.TheVariants as progress
use Rattle.rebase.specs.Asked.{TellsAsked}
use Rattle.rebase.specs.Asking.{change_wanted, end_bytes_reply}
use Rattle.rebase.specs.Calls.{ended_in}
use Rattle.rebase.specs.Clients.{AfterChange, ClientState, IsSameClient, AfterQuery}
use Rattle.rebase.specs.Inside.Made.{closing_ended, reply_made}
use Rattle.rebase.specs.Inside.Shown.{IsRunShown, under_way}
use Rattle.rebase.specs.Replies.{Replied, ended, id, reply_seen}
use Rattle.rebase.specs.Running.{AsksFor, BeganAs, EndsCall, EndsPull, Follows, IsAsked, IsFirstAsked, IsFirstAt}
use Rattle.rebase.specs.Running.{IsJudgedAt, IsUnwritten, UnderWay, change_replied, change_reply, last_called}
use Rattle.rebase.specs.declared.asking.Asked.{Asked}
use Rattle.rebase.specs.declared.asking.Asked.TheVariants as asked
use Rattle.rebase.specs.declared.calls.CallReply.{CallReply}
use Rattle.rebase.proofs.CallLemmas.{answers_told, ended_shown, id_shown, why_told}
use Rattle.rebase.proofs.Causing.{cause_missed, cause_named, frees_more, frees_none}
use Rattle.rebase.proofs.Telling.{closing_told, never_unknown, next_told, pull_told}
use Rattle.rebase.proofs.Unread.{unread, unread_cause, unread_changes}

-- how a change is told
pub change_told : (means : Meanings) (tries : ℕ) (old new : Known) (last : ℕ) (c : Change)
    (made : Result (Option Ref) Refusal)
    → IsLinearized means tries old new (map_ok is_made made) (change_asked c) (λ s. asked_reply means s last c)
    → IsLinearized means tries old new (reply_made last c made) (change_replied c) (λ s. change_reply means s last c)
change_told means tries old new last (Mutated x) made is =
    let r : Result ℕ Refusal = map_ok (λ (at : Option Ref). last + 1) made in
    answers_told id means tries old new r (change_made x) (λ s. mutate_reply means s last x)
    (change_replied (Mutated x))
    (λ s. change_reply means s last (Mutated x)) (ap (change_made x) (id_shown r)) (λ s. refl)
    (next_told means tries old new last x made is)
change_told means tries old new last (Pulled t p) made is =
    let r : Result Ended Refusal = map_ok ended_as made in
    answers_told ended means tries old new r (change_applied t p) (λ s. end_reply s t.text (response.Ok p))
    (change_replied (Pulled t p)) (λ s. change_reply means s last (Pulled t p))
    (ap (change_applied t p) (ended_shown r))
    (λ s. refl) (pull_told means tries old new last t p made is)
change_told means tries old new last Closed made is =
    let r : Result Ended Refusal = closing_ended made in
    answers_told ended means tries old new r change_closing (λ s. end_reply s [] response.StateNotFound)
    (change_replied Closed) (λ s. change_reply means s last Closed) (ap change_closing (ended_shown r))
    (λ s. refl) (closing_told means tries old new last [] made is)

-- a reply stands for the change that was made
pub replied_same : (means : Meanings) (tries : ℕ) (old new : Known) (last : ℕ) (c : Change) (cs : Contents)
    (made : Result (Option Ref) Refusal) → IsFoundMade cs c made
    → IsLinearized means tries old new (map_ok is_made made) (change_asked c) (λ s. asked_reply means s last c)
    → change_asked c (map_ok is_made made) ≡ change_replied c (reply_made last c made)
replied_same means tries old new last (Mutated x) cs (Ok (Some at)) found is = refl
replied_same means tries old new last (Mutated x) cs (Ok None) found is = absurd found
replied_same means tries old new last (Mutated x) cs (Err e) found is = refl
replied_same means tries old new last (Pulled t r) cs (Ok (Some at)) found is = refl
replied_same means tries old new last (Pulled t r) cs (Ok None) found is = refl
replied_same means tries old new last (Pulled t r) cs (Err e) found is = refl
replied_same means tries old new last Closed cs (Ok (Some at)) found is = refl
replied_same means tries old new last Closed cs (Ok None) found is = absurd found
replied_same means tries old new last Closed cs (Err refusal.StateNotFound) found is =
    absurd (never_unknown (after (record_of is.0)).closed is.2)
replied_same means tries old new last Closed cs (Err e) found is = refl

-- a refusal that is told has its cause
pub cause_replied : (means : Meanings) (reused : Type 0) (last : ℕ) (c : Change) (before new : SeatState)
    (made : Result (Option Ref) Refusal) → IfErr made (HasCause means reused last (Some c) before new)
    → IfErr (reply_made last c made) (HasCause means reused last (Some c) before new)
cause_replied means reused last (Mutated x) before new (Ok at) h = tt
cause_replied means reused last (Mutated x) before new (Err e) h = h
cause_replied means reused last (Pulled t r) before new (Ok at) h = tt
cause_replied means reused last (Pulled t r) before new (Err e) h = h
cause_replied means reused last Closed before new (Ok at) h =
    cause_named means reused last (Some Closed) before new refusal.StateNotFound refl
cause_replied means reused last Closed before new (Err e) h = h

-- what is told as a refusal may be a change that was made
spared_replied : (last : ℕ) (c : Change) (made : Result (Option Ref) Refusal)
    → spared made ≤ spared (reply_made last c made)
spared_replied last (Mutated x) (Ok at) = omega arith
spared_replied last (Mutated x) (Err e) = omega arith
spared_replied last (Pulled t r) (Ok at) = omega arith
spared_replied last (Pulled t r) (Err e) = omega arith
spared_replied last Closed (Ok at) = omega arith
spared_replied last Closed (Err e) = omega arith

-- the end of a call
pub ends_call : (means : Meanings) (reused : Type 0) (tries : ℕ) (before new : ClientState) (c : Change) (cs : Contents)
    (made : Result (Option Ref) Refusal) (reply : Result Replied Refusal)
    → reply ≡ reply_made before.last c made → IsFoundMade cs c made
    → new.last ≡ last_called before.last c reply → AfterChange reused before new
    → IsEnded means reused tries before.seat new.seat before.last c made
    → EndsCall means reused tries before new c reply
ends_call means reused tries before new c cs made reply is found last acts e =
    let told = change_told means tries before.seat.mark new.seat.mark before.last c made e.answer in
    let same = replied_same means tries before.seat.mark new.seat.mark before.last c cs made found e.answer in
    subst (EndsCall means reused tries before new c) (sym is) (record {
      answer = told;
      last = subst (λ (r : Result Replied Refusal). new.last ≡ last_called before.last c r) is last;
      acts = acts;
      cause = cause_replied means reused before.last c before.seat new.seat made e.cause;
      frees = λ r. subst (Frees (Some c) (spared (reply_made before.last c made)) before.seat new.seat) same
          (frees_more (Some c) (spared made) (spared (reply_made before.last c made)) before.seat new.seat
          (change_asked c (map_ok is_made made)) (spared_replied before.last c made) (e.frees r));
    })

-- THE RUNS

-- mutations behind mutations
more_more : (s : State) (xs ys : List Mutation) → with_more (with_more s xs) ys ≡ with_more s (xs ++ ys)
more_more s xs ys = ap (λ (w : List Mutation). state s.pulled s.cookie s.confirmed w s.closed)
    (append_assoc s.pending xs ys)

judged_at : (means : Meanings) (cs : Contents) (s : State) (last : ℕ) (c : Change) (run : AskedRun) (u : UnderWay)
    → u.mutation ≡ run.mutation → u.behind ≡ reverse run.behind.items → u.start ≡ run_start cs run
    → IsAskedRun means cs s last c run → IsJudgedAt means s last c u
judged_at means cs s last (Mutated x) run u one others start is =
    let j = is.judged in
    (j.2.opened, j.2.own, one ∙ j.0, others ∙ ap reverse j.1, start ∙ j.4)
judged_at means cs s last (Pulled t r) run u one others start is = is.judged.0
judged_at means cs s last Closed run u one others start is = is.judged

-- the run is one of the replay
pub asks_for : (means : Meanings) (cs : Contents) (s : State) (last : ℕ) (c : Change) (run : AskedRun) (u : UnderWay)
    → u.mutation ≡ run.mutation → u.behind ≡ reverse run.behind.items → u.start ≡ run_start cs run
    → IsAskedRun means cs s last c run → AsksFor means s last c u
asks_for means cs s last c run u one others start is = record {
  judged = judged_at means cs s last c run u one others start is;
  between = with_more is.leads.basis run.ran.items;
  start = start ∙ is.leads.mapped
      ∙ sym (replayed-append means is.leads.basis.pulled is.leads.basis.pending run.ran.items);
  whole = ap (λ (y : Mutation). with_more (with_more is.leads.basis run.ran.items) (y ∷ u.behind)) one
      ∙ ap (λ (ys : List Mutation). with_more (with_more is.leads.basis run.ran.items) (run.mutation ∷ ys)) others
      ∙ more_more is.leads.basis run.ran.items (left_of run) ∙ is.leads.whole;
}

-- where a run is asked for, or the call ended, the seat has no taken slot
pub progress_none : (has : Bytes → Bool) (means : Meanings) (reused : Type 0) (group : GroupId) (new : SeatState)
    (tries last : ℕ) (c : Change)
    {M : Type 0} (p : Progress M) → IsProgress has means reused group new tries last c p → reused → new.view.taken ≡ []
progress_none has means reused group new tries last c (progress.Run a) is r = is.0.none r
progress_none has means reused group new tries last c (progress.Ended made) is r = (is.0 r).1

-- CALLS THAT ARE REFUSED BEFORE THEY DID ANYTHING

-- for want of memory
pub refused_call : (means : Meanings) (reused : Type 0) (tries : ℕ) (before new : ClientState) (c : Change)
    (e : Refusal)
    → change_replied c (Err e) ≡ None → last_called before.last c (Err e) ≡ before.last → e ≡ refusal.NoMemory
    → AfterQuery reused before new → new.seat.mark ≡ before.seat.mark
    → EndsCall means reused tries before new c (Err e)
refused_call means reused tries before new c e none same dry stays mark = record {
  answer = wanting means tries before.seat.mark new.seat.mark e (change_replied c)
      (λ s. change_reply means s before.last c)
      none (ap is_resource_refusal dry) (ap own_moves mark, λ moved. absurd (cc (sym dry ∙ moved)));
  last = stays.1 ∙ sym same;
  acts = record { client = stays.0.client; seat = stays.0.looked.seat; rests = stays.0.rests };
  cause = cause_missed means reused before.last (Some c) before.seat new.seat e (inl dry);
  frees = λ r. subst (Frees (Some c) 1 before.seat new.seat) (sym none)
      (frees_none reused (Some c) 1 before.seat new.seat stays.0.looked r);
}

-- bytes that are no response
pub unread_call : (means : Meanings) (reused : Type 0) (tries : ℕ) (before new : ClientState) (k : Cookie)
    (body : Bytes)
    (e : Refusal) → IsOpened means before.seat.mark.log → Refuses e (answer_to body)
    → AfterQuery reused before new → new.seat.mark ≡ before.seat.mark
    → EndsPull means reused tries before new k body (Err e)
unread_call means reused tries before new k body e legal read stays mark =
    let told : Result Ended Refusal → Option Change = λ reply. change_read k (answer_to body) reply in record {
      answer = answers_told ended means tries before.seat.mark new.seat.mark (Err e) told
          (λ s. end_bytes_reply s k.text body) (λ r. told (map_ok ended_in r))
          (λ s. map_ok ended (end_bytes_reply s k.text body)) refl (λ s. refl)
          (subst (λ (m : Known). IsLinearized means tries before.seat.mark m (Err e) told
          (λ s. end_bytes_reply s k.text body)) (sym mark)
          (unread means tries before.seat.mark k body e legal read));
      last = stays.1;
      acts = record { client = stays.0.client; seat = stays.0.looked.seat; rests = stays.0.rests };
      cause = unread_cause means reused before.last (change_wanted k (answer_to body)) before.seat new.seat body e read;
      frees = λ r. subst (Frees (change_wanted k (answer_to body)) 1 before.seat new.seat)
          (sym (unread_changes k body e read))
          (frees_none reused (change_wanted k (answer_to body)) 1 before.seat new.seat stays.0.looked r);
      looked = λ none. stays.0.looked;
    }

-- ENDS OF PULLS

pub closed_ends : (means : Meanings) (reused : Type 0) (tries : ℕ) (before new : ClientState) (k : Cookie)
    (body : Bytes)
    (reply : Result Replied Refusal) → answer_to body ≡ Ok response.StateNotFound
    → EndsCall means reused tries before new Closed reply → EndsPull means reused tries before new k body reply
closed_ends means reused tries before new k body reply read e = record {
  answer = subst (λ (a : Result Response Refusal). IsLinearized means tries before.seat.mark new.seat.mark reply
      (λ w. change_read k a (map_ok ended_in w)) (λ s. map_ok ended (a >>= end_reply s k.text))) (sym read) e.answer;
  last = e.last;
  acts = e.acts;
  cause = subst (λ (a : Result Response Refusal). IfErr reply (HasCause means reused before.last (change_wanted k a)
      before.seat new.seat)) (sym read) e.cause;
  frees = subst (λ (a : Result Response Refusal). reused → Frees (change_wanted k a) (spared reply) before.seat new.seat
      (change_read k a (map_ok ended_in reply))) (sym read) e.frees;
  looked = λ none. absurd (cc (sym none ∙ ap (change_wanted k) read));
}

pub pulled_ends : (means : Meanings) (reused : Type 0) (tries : ℕ) (before new : ClientState) (k : Cookie) (r : Pull)
    (body : Bytes) (reply : Result Replied Refusal) → answer_to body ≡ Ok (response.Ok r)
    → EndsCall means reused tries before new (Pulled k r) reply → EndsPull means reused tries before new k body reply
pulled_ends means reused tries before new k r body reply read e = record {
  answer = subst (λ (a : Result Response Refusal). IsLinearized means tries before.seat.mark new.seat.mark reply
      (λ w. change_read k a (map_ok ended_in w)) (λ s. map_ok ended (a >>= end_reply s k.text))) (sym read) e.answer;
  last = e.last;
  acts = e.acts;
  cause = subst (λ (a : Result Response Refusal). IfErr reply (HasCause means reused before.last (change_wanted k a)
      before.seat new.seat)) (sym read) e.cause;
  frees = subst (λ (a : Result Response Refusal). reused → Frees (change_wanted k a) (spared reply) before.seat new.seat
      (change_read k a (map_ok ended_in reply))) (sym read) e.frees;
  looked = λ none. absurd (cc (sym none ∙ ap (change_wanted k) read));
}

pub unsupported_ends : (means : Meanings) (reused : Type 0) (tries : ℕ) (before new : ClientState) (k : Cookie)
    (body : Bytes) (kind : VersionKind) (r : Result Ended Refusal) (reply : Result Replied Refusal)
    → answer_to body ≡ Ok (response.VersionNotSupported kind) → reply ≡ map_ok ended r
    → IsLinearized means tries before.seat.mark new.seat.mark r no_change
    (λ s. end_reply s k.text (response.VersionNotSupported kind))
    → AfterQuery reused before new → IfErr r (HasCause means reused before.last None before.seat new.seat)
    → EndsPull means reused tries before new k body reply
unsupported_ends means reused tries before new k body kind r reply read is told stays cause =
    subst (EndsPull means reused tries before new k body) (sym is) (record {
      answer = subst (λ (a : Result Response Refusal). IsLinearized means tries before.seat.mark new.seat.mark
          (map_ok ended r) (λ w. change_read k a (map_ok ended_in w)) (λ s. map_ok ended (a >>= end_reply s k.text)))
          (sym read) (answers_told ended means tries before.seat.mark new.seat.mark r no_change
          (λ s. end_reply s k.text (response.VersionNotSupported kind)) no_change
          (λ s. map_ok ended (end_reply s k.text (response.VersionNotSupported kind))) refl (λ s. refl) told);
      last = stays.1;
      acts = record { client = stays.0.client; seat = stays.0.looked.seat; rests = stays.0.rests };
      cause = subst (λ (a : Result Response Refusal). IfErr (map_ok ended r) (HasCause means reused before.last
          (change_wanted k a) before.seat new.seat)) (sym read) (why_told ended
          (HasCause means reused before.last None before.seat new.seat) r cause);
      frees = subst (λ (a : Result Response Refusal). reused → Frees (change_wanted k a) (spared (map_ok ended r))
          before.seat new.seat (change_read k a (map_ok ended_in (map_ok ended r)))) (sym read)
          (λ again. frees_none reused None (spared (map_ok ended r)) before.seat new.seat stays.0.looked again);
      looked = λ none. stays.0.looked;
    })

-- THE STEPS OF A CALL

-- a run is asked for
pub go_run : (has : Bytes → Bool) (means : Meanings) (reused : Type 0) (tries : ℕ) (before client : ClientState)
    (c : Change) {M : Type 0}
    (p : Progress M) (a : Attempt M) → p ≡ progress.Run a → IsSameClient before client → client.last ≡ before.last
    → IsProgress has means reused client.group.group client.seat tries client.last c p
    → TellsProgress means reused tries before.seat client.seat before.last c p
    → IsAsked means reused tries before c (under_way client c a tries)
go_run has means reused tries before client c {M} p a is same last stands tells =
    let s = subst (λ (w : Progress M). IsProgress has means reused client.group.group client.seat tries client.last c w)
    is
    stands in
    record {
      began = record {
        client = same;
        last = last;
        since = subst (λ (w : Progress M). TellsProgress means reused tries before.seat client.seat before.last c w) is
            tells;
      };
      same = refl;
      run = subst (λ (n : ℕ). AsksFor means (after (record_of a.arrival.seen.log)) n c (under_way client c a tries))
          last
          (asks_for means (drawn client.seat.mark.log) (after (record_of a.arrival.seen.log)) client.last c a.run
          (under_way client c a tries) refl refl refl s.0.run);
      tried = refl;
      few = s.1;
    }

-- and nothing is written yet
pub go_fresh : (has : Bytes → Bool) (means : Meanings) (reused : Type 0) (tries : ℕ) (client : ClientState)
    (c : Change) {M : Type 0}
    (p : Progress M) (a : Attempt M) → p ≡ progress.Run a
    → IsProgress has means reused client.group.group client.seat tries client.last c p → IsUnwritten has
    (under_way client c a tries)
go_fresh has means reused tries client c {M} p a is stands =
    let s = subst (λ (w : Progress M). IsProgress has means reused client.group.group client.seat tries client.last c w)
    is
    stands in s.2

-- the call ends
pub go_end : (has : Bytes → Bool) (means : Meanings) (reused : Type 0) (tries : ℕ) (before client new : ClientState)
    (c : Change) {M : Type 0}
    (p : Progress M) (made : Result (Option Ref) Refusal) (reply : Result Replied Refusal) → p ≡ progress.Ended made
    → IsSameClient before client → client.last ≡ before.last → IsSameSeat before.seat client.seat
    → IsProgress has means reused client.group.group client.seat tries client.last c p
    → TellsProgress means reused tries before.seat client.seat before.last c p
    → reply ≡ reply_made client.last c made
    → new.last ≡ last_called client.last c reply → new.seat ≡ client.seat → IsSameClient client new
    → EndsCall means reused tries before new c reply
go_end has means reused tries before client new c {M} p made reply is same last seat stands tells told called here kept
    =
    let s = subst (λ (w : Progress M). IsProgress has means reused client.group.group client.seat tries client.last c w)
    is
    stands in
    let t = subst (λ (w : Progress M). TellsProgress means reused tries before.seat client.seat before.last c w) is
    tells in
    ends_call means reused tries before new c (drawn client.seat.mark.log) made reply
    (subst (λ (n : ℕ). reply ≡ reply_made n c made) last told) s.1
    (subst (λ (n : ℕ). new.last ≡ last_called n c reply) last called)
    (record {
      client = (kept.0 ∙ same.0, kept.1 ∙ same.1);
      seat = subst (λ (w : SeatState). IsSameSeat before.seat w) (sym here) seat;
      rests = subst (λ (w : SeatState). reused → IsIdle w.view) (sym here) s.0;
    })
    (subst (λ (w : SeatState). IsEnded means reused tries before.seat w before.last c made) (sym here) t)

-- nothing was changed
pub given_up : (means : Meanings) (reused : Type 0) (before : ClientState) (u : UnderWay) (new : ClientState)
    → BeganAs means reused before u → AfterQuery reused u.client new
    → new.seat.mark ≡ u.client.seat.mark
    → AfterChange reused before new × (new.last ≡ before.last) × (own_moves new.seat.mark ≡ own_moves before.seat.mark)
    × (reused → Frees (Some u.change) 0 before.seat new.seat None)
given_up means reused before u new b stays mark = (
  record {
    client = (stays.0.client.0 ∙ b.client.0, stays.0.client.1 ∙ b.client.1);
    seat = seat-trans before.seat u.client.seat new.seat b.since.same stays.0.looked.seat;
    rests = stays.0.rests;
  },
  stays.1 ∙ b.last,
  ap own_moves mark ∙ b.since.arrived.same,
  λ r. (
    u.lost + 0,
    omega (
      arith,
      b.since.others,
      others_grow (when_seen before.seat.mark u.seen) new.seat.mark
          (subst (λ (m : Known). IsPrefix u.seen m.log) (sym mark) b.since.arrived.since)
          (stays.0.looked.seat.later.seat ∙ b.since.same.later.seat),
    ),
    after_tries before.seat u.client.seat new.seat (Some u.change) u.lost 0 None b.since.same stays.0.looked.seat
        (b.since.gave r) (gives_calm (MayTake u.client.seat.table.sizes
        (Some u.change) u.client.seat.mark new.seat.mark)
        u.client.seat new.seat stays.0.looked.own (stays.0.looked.calm r)),
  ),
)

-- what is told where a call is refused before it did anything
pub refused_told : (means : Meanings) (reused : Type 0) (tries : ℕ) (before : ClientState) (c : Change) (e : Refusal)
    {M S T : Type 0} (a : Asked M S T) → change_replied c (Err e) ≡ None → last_called before.last c (Err e)
    ≡ before.last
    → e ≡ refusal.NoMemory
    → TellsAsked a (λ u. ⊥) (λ client reply. (reply ≡ Err e) × AfterQuery reused before client
    × (client.seat.mark ≡ before.seat.mark))
    → TellsAsked a (IsAsked means reused tries before c)
    (λ client reply. EndsCall means reused tries before client c (map_ok reply_seen reply))
refused_told means reused tries before c e (asked.Run u) none same dry h = absurd h
refused_told means reused tries before c e (asked.Ended client reply) none same dry h =
    subst (EndsCall means reused tries before client c) (sym (ap (map_ok reply_seen) h.0))
    (refused_call means reused tries before client c e none same dry h.1 h.2)

pub unread_told : (means : Meanings) (reused : Type 0) (tries : ℕ) (before : ClientState) (k : Cookie) (body : Bytes)
    (e : Refusal) (P : UnderWay → Type 0) {M S T : Type 0} (a : Asked M S T) → IsOpened means before.seat.mark.log
    → Refuses e (answer_to body)
    → TellsAsked a (λ u. ⊥) (λ client reply. (reply ≡ Err e) × AfterQuery reused before client
    × (client.seat.mark ≡ before.seat.mark))
    → TellsAsked a P (λ client reply. EndsPull means reused tries before client k body (map_ok reply_seen reply))
unread_told means reused tries before k body e P (asked.Run u) legal read h = absurd h
unread_told means reused tries before k body e P (asked.Ended client reply) legal read h =
    subst (EndsPull means reused tries before client k body) (sym (ap (map_ok reply_seen) h.0))
    (unread_call means reused tries before client k body e legal read h.1 h.2)

-- what is told of a response without an error
pub pulled_told_as : (means : Meanings) (reused : Type 0) (tries : ℕ) (before : ClientState) (k : Cookie) (r : Pull)
    (body : Bytes) {M S T : Type 0} (a : Asked M S T) → answer_to body ≡ Ok (response.Ok r)
    → TellsAsked a (IsAsked means reused tries before (Pulled k r))
    (λ client reply. EndsCall means reused tries before client (Pulled k r) (map_ok reply_seen reply))
    → TellsAsked a (λ u. (given : Pull) × (answer_to body ≡ Ok (response.Ok given))
    × IsAsked means reused tries before (Pulled k given) u)
    (λ client reply. EndsPull means reused tries before client k body (map_ok reply_seen reply))
pulled_told_as means reused tries before k r body (asked.Run u) read h = (r, read, h)
pulled_told_as means reused tries before k r body (asked.Ended client reply) read h =
    pulled_ends means reused tries before client k r body (map_ok reply_seen reply) read h

-- and where the server does not know the group
pub closed_told_as : (means : Meanings) (reused : Type 0) (tries : ℕ) (before : ClientState) (k : Cookie) (body : Bytes)
    (P : UnderWay → Type 0) {M S T : Type 0} (a : Asked M S T) → answer_to body ≡ Ok response.StateNotFound
    → TellsAsked a (IsAsked means reused tries before Closed)
    (λ client reply. EndsCall means reused tries before client Closed (map_ok reply_seen reply))
    → TellsAsked a P (λ client reply. EndsPull means reused tries before client k body (map_ok reply_seen reply))
closed_told_as means reused tries before k body P (asked.Run u) read h = absurd h.run.judged
closed_told_as means reused tries before k body P (asked.Ended client reply) read h =
    closed_ends means reused tries before client k body (map_ok reply_seen reply) read h

-- or a version
pub unsupported_told : (means : Meanings) (reused : Type 0) (tries : ℕ) (before : ClientState) (k : Cookie)
    (body : Bytes)
    (P : UnderWay → Type 0) {M S T : Type 0} (a : Asked M S T)
    → TellsAsked a (λ u. ⊥) (λ client reply. EndsPull means reused tries before client k body (map_ok reply_seen reply))
    → TellsAsked a P (λ client reply. EndsPull means reused tries before client k body (map_ok reply_seen reply))
unsupported_told means reused tries before k body P (asked.Run u) h = absurd h
unsupported_told means reused tries before k body P (asked.Ended client reply) h = h

-- WHAT IS ASKED FOR

-- nothing more is told
pub tells_none : {M S T : Type 0} (a : Asked M S T) (P : UnderWay → Type 0)
    (E : ClientState → Result CallReply Refusal → Type 0)
    → TellsAsked a (λ u. ⊥) E → TellsAsked a P (λ client reply. Unit {0})
tells_none (asked.Run u) P E h = absurd h
tells_none (asked.Ended client reply) P E h = tt

first_at : (has : Bytes → Bool) (s : State) (c : Change) (cs : Contents) {M : Type 0} (client : ClientState)
    (a : Attempt M) (tries : ℕ)
    → IsFirstRun has s c a.run → IsFirstAt has s c (under_way client c a tries)
first_at has s (Mutated x) cs client a tries h = tt
first_at has s (Pulled t r) cs client a tries h = h
first_at has s Closed cs client a tries h = tt

-- the first run of a call
pub first_shown : (has : Bytes → Bool) (client : ClientState) (c : Change) (tries n : ℕ) {M : Type 0}
    (p : Progress M) {X S T : Type 0}
    (asking : Asked X S T) → TellsAsked asking (IsRunShown client c tries p) (λ client reply. Unit {0})
    → StartsAnew has n c p
    → TellsAsked asking (IsFirstAsked has) (λ client reply. Unit {0})
first_shown has client c tries n (progress.Run a) (asked.Run u) h start =
    subst (λ (w : UnderWay). IsFirstAsked has w) (sym h)
    (first_at has (after (record_of a.arrival.seen.log)) c [] client a tries start.1)
first_shown has client c tries n (progress.Ended made) (asked.Run u) h start = absurd h
first_shown has client c tries n (progress.Run a) (asked.Ended d reply) h start = tt
first_shown has client c tries n (progress.Ended made) (asked.Ended d reply) h start = tt

-- the run behind another
pub next_run : (has : Bytes → Bool) (means : Meanings) (old client : ClientState) (c : Change) (tries : ℕ) {M : Type 0}
    (was a : Attempt M) (ran : Ran)
    → FollowsRun has means old.seat client.seat was ran c (progress.Run a)
    → Follows has means (under_way old c was tries) ran (under_way client c a tries)
next_run has means old client c tries was a ran (inl f) =
    let cs : SeatState → Contents = λ w. drawn w.mark.log in
    inl (record {
      lost = f.1;
      seen = ap (λ w. w.seen.log) f.2;
      own = f.3.own;
      had = f.3.had;
      order = f.3.order;
      start = ap (λ (w : SeatState). run_start (cs w) a.run) f.0 ∙ f.3.start;
    })
next_run has means old client c tries was a ran (inr g) =
    inr (omega (arith, g.0), first_at has (after (record_of a.arrival.seen.log)) c [] client a tries g.1)

pub next_shown : (has : Bytes → Bool) (means : Meanings) (old client : ClientState) (c : Change)
    (tries : ℕ) {M : Type 0} (was : Attempt M) (ran : Ran)
    (p : Progress M) {X S T : Type 0} (asking : Asked X S T)
    → TellsAsked asking (IsRunShown client c tries p) (λ client reply. Unit {0})
    → FollowsRun has means old.seat client.seat was ran c p
    → TellsAsked asking (Follows has means (under_way old c was tries) ran) (λ client reply. Unit {0})
next_shown has means old client c tries was ran (progress.Run a) (asked.Run u) h f =
    subst (λ (w : UnderWay). Follows has means (under_way old c was tries) ran w) (sym h)
    (next_run has means old client c tries was a ran f)
next_shown has means old client c tries was ran (progress.Ended made) (asked.Run u) h f = absurd h
next_shown has means old client c tries was ran (progress.Run a) (asked.Ended d reply) h f = tt
next_shown has means old client c tries was ran (progress.Ended made) (asked.Ended d reply) h f = tt

-- what is shown where a run is asked for
pub shown_run : (client self : ClientState) (c : Change) (tries : ℕ) {M : Type 0} (p : Progress M) (a : Attempt M)
    → p ≡ progress.Run a → client ≡ self → IsRunShown self c tries p (under_way client c a tries)
shown_run client self c tries {M} p a is same =
    subst (λ (w : Progress M). IsRunShown self c tries w (under_way client c a tries)) (sym is)
    (ap (λ (w : ClientState). under_way w c a tries) same)
