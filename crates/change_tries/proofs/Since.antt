-- What the tries of a call come to, since it began.
use Rattle.std.proofs.Common.{◌≡◌, inr, ℕ, ◌+◌, ◌≤◌, ◌-◌, Bool, true, false, List, Option, Some, None, Result, Ok, Err}
use Rattle.std.proofs.Common.{filter, length, refl, sym, ap, subst, ◌∙◌, arith}
use Rattle.std.specs.Prelude.{IfOk, IfErr}
use mathlib.Core.List.{IsPrefix}
use Rattle.group_history.specs.declared.changes.Change.{Change}
use Rattle.group_history.specs.declared.changes.Change.TheVariants.{Mutated, Pulled, Closed}
use Rattle.group_history.specs.declared.refs.Ref.{Ref}
use Rattle.group_history.specs.declared.mutators.Ran.{Ran}
use Rattle.group_history.specs.declared.refusals.Refusal.{Refusal}
use Rattle.group_history.specs.declared.refusals.Refusal.TheVariants as refusal
use Rattle.group_history.specs.Map.{Bytes}
use Rattle.group_history.specs.Meaning.{Meanings}
use Rattle.group_history.specs.Mutating.{mutate_reply}
use Rattle.group_history.specs.Record.{after}
use Rattle.group_history.specs.Spelling.{Contents}
use Rattle.group_history.specs.State.{State}
use Rattle.group_history.proofs.Lists.{prefix_trans}
use Rattle.head_word.specs.declared.entry.Entry.{Entry}
use Rattle.head_word.specs.Books.{drawn, last_move, next_stamp, record_of}
use Rattle.head_word.specs.Marks.{Known, others, own, own_of}
use Rattle.reader_claims.specs.declared.words.Pin.TheVariants.{Absent}
use Rattle.reader_claims.specs.Views.{with_pin}
use Rattle.chunk_slots.specs.Seats.{IsIdle}
use Rattle.commit_graph.specs.Seats.{HasLooked, IsCalm, IsSameSeat, SeatState}
use Rattle.commit_graph.proofs.Seating.{seat-self, seat-trans}
use Rattle.linearized.specs.Answered.{IsLinearized, is_move, is_resource_refusal, own_moves}
use Rattle.linearized.specs.Trying.{IsBase}
use Rattle.linearized.proofs.Losing.{lost_to_others, others_grow, point_since}
use Rattle.change_tries.specs.Arriving.{IsArrived, when_seen}
use Rattle.change_tries.specs.Causes.{HasCauseAt}
use Rattle.change_tries.specs.Changing.{AnswersTry, EndsAt, EndsTry, FreesTry, is_made}
use Rattle.change_tries.specs.Leaving.{FreesIn, FreesNone, MayTake}
use Rattle.change_tries.specs.Missing.{IsStop, map_ok}
use Rattle.change_tries.specs.Proposing.{HasLast, IsUnmade, asked_reply, change_asked, closing_reply}
use Rattle.change_tries.specs.declared.trying.Tried.{Tried}
use Rattle.change_tries.specs.declared.trying.Tried.TheVariants as tried
use Rattle.change_tries.proofs.Giving.{after_tries, cause_arrived, cause_other, frees_as, frees_since, frees_then}
use Rattle.change_tries.proofs.Giving.{gives_calm, gives_none, may_before, may_here}
use Rattle.change_tries.proofs.Making.{wanting}
use Rattle.change_tries.proofs.Answering.{try_answered}
use Rattle.change_tries.specs.Runs.{IsBehind, IsFirstStep}
use Rattle.change_tries.specs.Tries.{BeginsFirst, FollowsRun, GoesBehind, IsPassed, NeedsNone, StartsAnew}
use Rattle.change_tries.specs.declared.runs.AskedRun.{AskedRun}
use Rattle.change_tries.specs.declared.runs.NextStep.{NextStep}
use Rattle.change_tries.specs.declared.trying.Attempt.{Attempt}
use Rattle.change_tries.specs.declared.trying.TryOutcome.{TryOutcome}
use Rattle.change_tries.specs.declared.trying.TryOutcome.TheVariants as turn
use Rattle.change_tries.specs.Tries.{IsArrivedSince, IsEnded, IsFoundMade, IsSince, IsTurn, TellsTurn, turn_of}
use Rattle.change_tries.specs.declared.trying.Progress.{Progress}
use Rattle.change_tries.specs.declared.trying.Progress.TheVariants as progress

-- THE BEGINNING OF A TRY

-- what was given up, and then the seat looked
looked_more : (c : Change) (n : ℕ) (before old new : SeatState) → IsSameSeat before old → IsSameSeat old new
    → own new.mark ≡ own old.mark → IsCalm old.view new.view
    → FreesNone (MayTake before.table.sizes (Some c) before.mark old.mark) n before old
    → FreesNone (MayTake before.table.sizes (Some c) before.mark new.mark) n before new
looked_more c n before old new first then same calm a =
    let may = MayTake before.table.sizes (Some c) before.mark new.mark in
    frees_as may may (n + 0) n before new None (omega arith) (λ end is. is)
    (after_tries before old new (Some c) n 0 None first then a
    (gives_calm (MayTake old.table.sizes (Some c) old.mark new.mark) old new same calm))

-- a call that begins has lost no try
pub since_self : (reused : Type 0) (c : Change) (seat : SeatState) → IsSince reused seat 0 c seat
since_self reused c seat = record {
  same = seat-self seat;
  own = refl;
  others = omega arith;
  gave = λ r. gives_none (MayTake seat.table.sizes (Some c) seat.mark seat.mark) seat;
}

-- a call that lost so many tries arrives
pub arrived_since : (means : Meanings) (reused : Type 0) (before old new : SeatState) (lost : ℕ) (c : Change)
    (seen : List Entry) (base : Ref) (first : ℕ) → IsSince reused before lost c old
    → IsArrived means old.mark (when_seen old.mark seen) new.mark base first
    → HasLooked reused old new → IsArrivedSince means reused before lost c seen new
arrived_since means reused before old new lost c seen base first i a looked = record {
  arrived = record {
    point = point_since means before.mark old.mark new.mark None seen i.same.later.seen i.same.later.seat i.own a.point;
    last = refl;
    spelled = subst (λ (b : Ref). IsBase means new.mark b (after (record_of seen))) a.last a.spelled;
    drawn = refl;
    seat = refl;
    since = a.since;
    own = ap (λ (s : Option ℕ). filter is_move (own_of s seen)) (sym i.same.later.seat) ∙ a.own ∙ i.own;
    same = a.same ∙ i.own;
    before = omega (arith, i.others, a.before, number);
    others = omega (arith, i.others, a.others);
  };
  same = seat-trans before old new i.same looked.seat;
  others = omega (arith, i.others, a.before, number);
  gave = λ r. looked_more c lost before old new i.same looked.seat looked.own (looked.calm r) (i.gave r);
}
  where
    number : others (when_seen old.mark seen) ≡ others (when_seen before.mark seen)
    number = ap (λ (s : Option ℕ). length seen - length (own_of s seen)) i.same.later.seat

-- a call whose pin was lost to others ends
pub refused_since : (means : Meanings) (reused : Type 0) (tries : ℕ) (before old new : SeatState) (lost last : ℕ)
    (c : Change)
    (e : Refusal) → IsSince reused before lost c old → HasLooked reused old new
    → (e ≡ refusal.Busy) × reused × (new.mark ≡ old.mark) → IsEnded means reused tries before new last c (Err e)
refused_since means reused tries before old new lost last c e i looked busy = record {
  answer = wanting means tries before.mark new.mark e (change_asked c) (λ s. asked_reply means s last c) refl
      (ap is_resource_refusal busy.0) (ap own_moves busy.2 ∙ i.own, λ moved. absurd (cc (sym busy.0 ∙ moved)));
  cause = cause_other means reused last c before new e (λ full. cc (sym busy.0 ∙ full))
      (λ stamps. cc (sym busy.0 ∙ stamps)) (λ is. busy.1);
  frees = λ r. (
    lost,
    omega (arith, i.others, others_grow old.mark new.mark looked.seat.later.seen looked.seat.later.seat),
    looked_more c lost before old new i.same looked.seat looked.own (looked.calm r) (i.gave r),
  );
}

-- THE END OF A TRY

-- a try that arrived ended so, and then the pin was taken away
pub tried_since : (means : Meanings) (reused : Type 0) (tries : ℕ) (before mid done new : SeatState) (lost last : ℕ)
    (c : Change)
    (seen : List Entry) (base : Ref) (r : Result Tried Refusal) → base ≡ last_move seen
    → IsArrivedSince means reused before lost c seen mid → IsSameSeat mid done → HasLooked reused done new
    → (reused → new.view ≡ with_pin done.view Absent) → new.mark ≡ done.mark
    → IfOk r (EndsTry means mid.mark done.mark base (after (record_of seen)) last c)
    → IfErr r (IsUnmade (IsStop reused) (change_asked c) (asked_reply means (after (record_of seen)) last c) tries
    mid.mark done.mark)
    → IfErr r (HasCauseAt means reused (after (record_of seen)) last c mid done)
    → (reused → FreesTry (EndsAt before.table.sizes (after (record_of seen)) c) c mid done r)
    → TellsTurn means reused tries before lost new last c (turn_of r)
tried_since means reused tries before mid done new lost last c seen base r stood a more looked behind mark ok err cause
    frees = ends r answers ok cause frees
  where
    answers : AnswersTry means tries before.mark done.mark last c r
    answers = try_answered reused means tries before.mark (when_seen before.mark seen) mid.mark done.mark
        (last_move seen) (next_stamp mid.mark.log) last c r a.arrived a.same.later.seen a.same.later.seat
        more.later.seen
        more.later.seat (subst (λ (b : Ref). IfOk r (EndsTry means mid.mark done.mark b
        (after (record_of seen)) last c))
        stood ok) err

    until : IsPrefix seen done.mark.log
    until = prefix_trans seen mid.mark.log done.mark.log a.arrived.since more.later.seen

    after_seen : others (when_seen before.mark seen) ≤ others done.mark
    after_seen = others_grow (when_seen before.mark seen) done.mark until (more.later.seat ∙ a.same.later.seat)

    whole : (m : ℕ) (o : Option Change) → reused
        → FreesIn (EndsAt before.table.sizes (after (record_of seen)) c) m mid done o
        → FreesIn (MayTake before.table.sizes (Some c) before.mark new.mark) (lost + m) before new o
    whole m o again f = frees_then (MayTake before.table.sizes (Some c) before.mark done.mark)
        (MayTake before.table.sizes (Some c) before.mark new.mark) (lost + m) before done new o
        (λ end is. subst (λ (w : Known). MayTake before.table.sizes (Some c) before.mark w end) (sym mark) is) mark
        (looked.calm again)
        (frees_since (MayTake before.table.sizes (Some c) before.mark mid.mark)
        (EndsAt before.table.sizes (after (record_of seen)) c) (MayTake before.table.sizes
        (Some c) before.mark done.mark)
        lost m before mid done o a.same
        (λ end is. may_before before.table.sizes (Some c) before.mark mid.mark done.mark end more.later.seen is)
        (λ end is. may_here before.table before done c seen end refl a.arrived.point.since until is) (a.gave again) f)

    ends : (w : Result Tried Refusal) → AnswersTry means tries before.mark done.mark last c w
        → IfOk w (EndsTry means mid.mark done.mark base (after (record_of seen)) last c)
        → IfErr w (HasCauseAt means reused (after (record_of seen)) last c mid done)
        → (reused → FreesTry (EndsAt before.table.sizes (after (record_of seen)) c) c mid done w)
        → TellsTurn means reused tries before lost new last c (turn_of w)
    ends (Ok (tried.Made at)) t is h f = record {
      answer = subst (λ (m : Known). IsLinearized means tries before.mark m (Ok true) (change_asked c)
          (λ s. asked_reply means s last c)) (sym mark) t.0;
      cause = tt;
      frees = λ again. (
        lost + 0,
        omega (arith, a.others, after_seen, ap others mark),
        whole 0 (Some c) again
            (f again),
      );
    }
    ends (Ok tried.Same) t is h f = record {
      answer = subst (λ (m : Known). IsLinearized means tries before.mark m (map_ok is_made (Ok None)) (change_asked c)
          (λ s. asked_reply means s last c)) (sym mark) t;
      cause = tt;
      frees = λ again. (lost + 0, omega (arith, a.others, after_seen, ap others mark), whole 0 None again (f again));
    }
    ends (Ok tried.Lost) t is h f =
        let away = lost_to_others (when_seen before.mark seen) done.mark (last_move seen)
        (prefix_trans seen mid.mark.log done.mark.log a.arrived.since more.later.seen)
        (more.later.seat ∙ a.same.later.seat) (t.0 ∙ sym a.arrived.own) refl (λ here. is.1 (here ∙ sym stood)) in
        record {
          same = seat-trans before done new (seat-trans before mid done a.same more) looked.seat;
          own = ap own_moves mark ∙ t.0;
          others = omega (arith, a.others, away, ap others mark);
          gave = λ again. whole 1 None again (f again);
        }
    ends (Err e) t is h f = record {
      answer = subst (λ (m : Known). IsLinearized means tries before.mark m (Err e) (change_asked c)
          (λ s. asked_reply means s last c)) (sym mark) t;
      cause = cause_arrived means reused last c before mid done new seen e a.arrived.point.since
          (subst (λ (m : Known). IsPrefix seen m.log) (sym mark)
          (prefix_trans seen mid.mark.log done.mark.log a.arrived.since more.later.seen)) a.same.table
          (λ again. (a.gave again).back.loads) behind mark h;
      frees = λ again. (lost + 1, omega (arith, a.others, after_seen, ap others mark), whole 1 None again (f again));
    }

-- WHAT IS FOUND

no_false : (r : Result ℕ Refusal) → map_ok (λ (id : ℕ). true) r ≡ Ok false → ⊥
no_false (Ok n) h = cc h
no_false (Err e) h = cc h

never_kept : (b : Bool) → closing_reply b ≡ Ok false → ⊥
never_kept true h = cc h
never_kept false h = cc h

same_found : (means : Meanings) (cs : Contents) (s : State) (last : ℕ) (c : Change) → asked_reply means s last c
    ≡ Ok false
    → IsFoundMade cs c (Ok None)
same_found means cs s last (Mutated x) h = no_false (mutate_reply means s last x) h
same_found means cs s last (Pulled ticket r) h = tt
same_found means cs s last Closed h = never_kept s.closed h

-- how a try ended that needed no run more
pub turn_ended : (has : Bytes → Bool) (means : Meanings) (reused : Type 0) (old done new : SeatState) (base : Ref)
    (s : State) (last : ℕ) (c : Change)
    (r : Result Tried Refusal) → new.mark ≡ done.mark → (reused → IsIdle new.view)
    → IfOk r (EndsTry means old.mark done.mark base s last c) → IsTurn has means reused old new s last c (turn_of r)
turn_ended has means reused old done new base s last c (Ok (tried.Made at)) mark idle is =
    (idle, subst (λ (m : Known). HasLast (drawn m.log) at c) (sym mark) is.2)
turn_ended has means reused old done new base s last c (Ok tried.Same) mark idle is =
    (idle, same_found means (drawn new.mark.log) s last c is.0)
turn_ended has means reused old done new base s last c (Ok tried.Lost) mark idle is = idle
turn_ended has means reused old done new base s last c (Err e) mark idle is = (idle, tt)

-- THE TRIES OF A CALL

-- WHAT IS ASKED FOR

-- a try that ended needs no run more
pub needs_none : (r : Result Tried Refusal) → NeedsNone (turn_of r)
needs_none (Ok (tried.Made at)) = tt
needs_none (Ok tried.Same) = tt
needs_none (Ok tried.Lost) = tt
needs_none (Err e) = tt

pub passed_none : (was : Result NextStep Refusal) (t : TryOutcome) → NeedsNone t → IsPassed was t
passed_none was (turn.Run run) h = absurd h
passed_none was (turn.Ended made) h = tt
passed_none was turn.Lost h = tt

-- the first run is asked for
pub begins_first : (has : Bytes → Bool) (s : State) (c : Change) (was : Result NextStep Refusal) (t : TryOutcome)
    → IsPassed was t
    → IfOk was (IsFirstStep has s c) → BeginsFirst has s c t
begins_first has s c was (turn.Run run) h first =
    subst (λ (w : Result NextStep Refusal). IfOk w (IsFirstStep has s c)) h first
begins_first has s c was (turn.Ended made) h first = tt
begins_first has s c was turn.Lost h first = tt

-- the next run is asked for
pub goes_behind : (has : Bytes → Bool) (means : Meanings) (cs : Contents) (run : AskedRun) (ran : Ran)
    (was : Result NextStep Refusal) (t : TryOutcome) → IsPassed was t
    → IfOk was (IsBehind has means cs run ran) → GoesBehind has means cs run ran t
goes_behind has means cs run ran was (turn.Run next) h behind =
    subst (λ (w : Result NextStep Refusal). IfOk w (IsBehind has means cs run ran)) h behind
goes_behind has means cs run ran was (turn.Ended made) h behind = tt
goes_behind has means cs run ran was turn.Lost h behind = tt

-- a later try is one that began after fewer were lost
pub starts_earlier : (has : Bytes → Bool) (m n : ℕ) (c : Change) {M : Type 0} (p : Progress M) → m ≤ n
    → StartsAnew has n c p → StartsAnew has m c p
starts_earlier has m n c (progress.Run a) low h = (omega (arith, low, h.0), h.1)
starts_earlier has m n c (progress.Ended made) low h = tt

pub follows_anew : (has : Bytes → Bool) (means : Meanings) (old new : SeatState) {M : Type 0} (was : Attempt M)
    (ran : Ran)
    (c : Change) (p : Progress M)
    → StartsAnew has (was.lost + 1) c p → FollowsRun has means old new was ran c p
follows_anew has means old new was ran c (progress.Run a) h = inr h
follows_anew has means old new was ran c (progress.Ended made) h = tt
