-- Why a call is refused for want of something, and what it retires.
use Rattle.std.proofs.Common.{◌≡◌, ◌≤◌, ◌+◌, inl, inr, ℕ, false, true≢false, Option, Some, None, Result, Ok, Err, sym}
use Rattle.std.proofs.Common.{ap, subst, ◌∙◌, arith, refl}
use Rattle.std.specs.Prelude.{IfErr}
use mathlib.Core.List.{IsPrefix}
use Rattle.group_history.specs.declared.changes.Change.{Change}
use Rattle.group_history.specs.declared.refusals.Refusal.{Refusal}
use Rattle.group_history.specs.Meaning.{Meanings}
use Rattle.reader_claims.specs.declared.view.View.{View}
use Rattle.commit_graph.specs.Seats.{HasLooked, IsCalm, IsSameSeat, SeatState}
use Rattle.commit_graph.proofs.Seating.{seat-self, seat-trans}
use Rattle.linearized.specs.Answered.{is_resource_refusal}
use Rattle.change_tries.specs.Causes.{HasCause}
use Rattle.linearized.proofs.Losing.{others_grow}
use Rattle.change_tries.specs.Leaving.{Frees, FreesAnew, MayTake, spared}
use Rattle.change_tries.specs.Missing.{IsStoreOrMemory, map_ok}
use Rattle.change_tries.proofs.Giving.{after_tries, cause_since, gives_calm, gives_none}

-- CAUSES

-- a right refusal needs none
pub cause_named : (means : Meanings) (reused : Type 0) (last : ℕ) (asked : Option Change) (old new : SeatState)
    (e : Refusal)
    → is_resource_refusal e ≡ false → HasCause means reused last asked old new e
cause_named means reused last asked old new e named = record {
  full = λ r is. absurd (true≢false (sym (ap is_resource_refusal is) ∙ named));
  past = λ r is. absurd (true≢false (sym (ap is_resource_refusal is) ∙ named));
  busy = λ is. absurd (true≢false (sym (ap is_resource_refusal is) ∙ named));
  stamps = λ is. absurd (true≢false (sym (ap is_resource_refusal is) ∙ named));
}

-- what looks, and asks for no change, has no other causes
pub cause_missed : (means : Meanings) (reused : Type 0) (last : ℕ) (asked : Option Change) (old new : SeatState)
    (e : Refusal)
    → IsStoreOrMemory reused e → HasCause means reused last asked old new e
cause_missed means reused last asked old new e (inl dry) = record {
  full = λ r is. absurd (cc (sym dry ∙ is));
  past = λ r is. absurd (cc (sym dry ∙ is));
  busy = λ is. absurd (cc (sym dry ∙ is));
  stamps = λ is. absurd (cc (sym dry ∙ is));
}
cause_missed means reused last asked old new e (inr (inl gone)) = record {
  full = λ r is. absurd (cc (sym gone ∙ is));
  past = λ r is. absurd (cc (sym gone ∙ is));
  busy = λ is. absurd (cc (sym gone ∙ is));
  stamps = λ is. absurd (cc (sym gone ∙ is));
}
cause_missed means reused last asked old new e (inr (inr busy)) = record {
  full = λ r is. absurd (cc (sym busy.1 ∙ is));
  past = λ r is. absurd (cc (sym busy.1 ∙ is));
  busy = λ is. busy.0;
  stamps = λ is. absurd (cc (sym busy.1 ∙ is));
}

-- the cause stands for the whole of a call that was begun anew
pub cause_anew : (means : Meanings) (reused : Type 0) (last : ℕ) (asked : Option Change) (old mid new : SeatState)
    (e : Refusal) → IsPrefix old.mark.log mid.mark.log → mid.table ≡ old.table →
    (reused → old.view.epoch_loads ≤ mid.view.epoch_loads)
    → HasCause means reused last asked mid new e → HasCause means reused last asked old new e
cause_anew means reused last None old mid new e pre table before h = record {
  full = h.full;
  past = h.past;
  busy = h.busy;
  stamps = h.stamps;
}
cause_anew means reused last (Some c) old mid new e pre table before h =
    cause_since means reused last c old mid new e pre table before h

-- what holds of each such refusal
pub if_err_then : {A E : Type 0} (P Q : E → Type 0) (r : Result A E) → IfErr r P → ((e : E) → P e → Q e) → IfErr r Q
if_err_then P Q (Ok a) p f = tt
if_err_then P Q (Err e) p f = f e p

-- WHAT A CALL RETIRES

-- a refusal is one, whatever else is told
pub spared_told : {X Y : Type 0} (f : X → Y) (r : Result X Refusal) → spared (map_ok f r) ≡ spared r
spared_told f (Ok x) = refl
spared_told f (Err e) = refl

-- a seat that only looked
pub frees_none : (reused : Type 0) (asked : Option Change) (spare : ℕ) (old new : SeatState) → HasLooked reused old new
    → reused → Frees asked spare old new None
frees_none reused asked spare old new looked r = (
  0,
  omega (arith, others_grow old.mark new.mark looked.seat.later.seen looked.seat.later.seat),
  gives_calm (MayTake old.table.sizes asked old.mark new.mark) old new looked.own (looked.calm r),
)

pub frees_self : (asked : Option Change) (old : SeatState) → FreesAnew asked old old None
frees_self asked old = (0, gives_none (MayTake old.table.sizes asked old.mark old.mark) old)

-- what was told of a value in other words
pub frees_told : {X Y : Type 0} (f : X → Y) (asked : Option Change) (old new : SeatState) (r : Result X Refusal)
    (reply : Result Y Refusal) (o p : Option Change) → reply ≡ map_ok f r → o ≡ p
    → Frees asked (spared r) old new o → Frees asked (spared reply) old new p
frees_told f asked old new r reply o p is same frees =
    subst (λ (n : ℕ). Frees asked n old new p) (sym (ap spared is ∙ spared_told f r))
    (subst (Frees asked (spared r) old new) same frees)

-- more may be spared
pub frees_more : (asked : Option Change) (less more : ℕ) (old new : SeatState) (o : Option Change) → less ≤ more
    → Frees asked less old new o → Frees asked more old new o
frees_more asked less more old new o low (n, few, f) = (n, omega (arith, few, low), f)

pub calm_calm : (v w u : View) → IsCalm v w → IsCalm w u → IsCalm v u
calm_calm v w u a b = record {
  deeds = b.deeds ∙ a.deeds;
  taken = b.taken ∙ a.taken;
  loads = let x = a.loads in let y = b.loads in omega arith;
  reached = let x = a.reached in let y = b.reached in omega arith;
}

pub looked_looked : (reused : Type 0) (old mid new : SeatState) → HasLooked reused old mid → HasLooked reused mid new
    → HasLooked reused old new
looked_looked reused old mid new a b = record {
  seat = seat-trans old mid new a.seat b.seat;
  own = b.own ∙ a.own;
  calm = λ r. calm_calm old.view mid.view new.view (a.calm r) (b.calm r);
}

pub looked_self : (reused : Type 0) (old : SeatState) → HasLooked reused old old
looked_self reused old = record {
  seat = seat-self old;
  own = refl;
  calm = λ r. record { deeds = refl; taken = refl; loads = omega arith; reached = omega arith };
}

-- an earlier part of the call made no change
pub frees_anew : (asked : Option Change) (spare : ℕ) (old mid new : SeatState) (o : Option Change) → IsSameSeat old mid
    → IsSameSeat mid new → FreesAnew asked old mid None → Frees asked spare mid new o → FreesAnew asked old new o
frees_anew asked spare old mid new o first then (n, gave) (m, few, frees) =
    (n + m, after_tries old mid new asked n m o first then gave frees)

pub frees_loads : (asked : Option Change) (old new : SeatState) → FreesAnew asked old new None
    → old.view.epoch_loads ≤ new.view.epoch_loads
frees_loads asked old new (n, gave) = gave.back.loads
