-- One answer told as another.
use Rattle.std.proofs.Common.{◌≡◌, ℕ, ◌+◌, Bool, true, false, Option, Some, None, Result, Ok, Err, refl, sym}
use Rattle.std.proofs.Common.{◌≤◌, ap, arith, subst}
use Rattle.std.specs.Prelude.{nat_eq, if◌then◌else◌}
use Rattle.group_history.specs.declared.changes.Change.{Change}
use Rattle.group_history.specs.declared.changes.Change.TheVariants.{Mutated, Pulled, Closed}
use Rattle.group_history.specs.declared.mutations.MutationFields.{MutationFields as Mutation}
use Rattle.group_history.specs.declared.refs.Ref.{Ref}
use Rattle.group_history.specs.declared.refusals.Refusal.{Refusal}
use Rattle.group_history.specs.declared.refusals.Refusal.TheVariants as refusal
use Rattle.group_history.specs.declared.responses.Ended.{Ended}
use Rattle.group_history.specs.declared.responses.Ended.TheVariants as ended
use Rattle.group_history.specs.declared.responses.Response.TheVariants as response
use Rattle.group_history.specs.Cookies.{Cookie}
use Rattle.group_history.specs.Map.{Bytes}
use Rattle.group_history.specs.Meaning.{Meaning, Meanings, unknown, refuses, done, meaning_of}
use Rattle.group_history.specs.Mutating.{mutate_reply, by_meaning, open_reply}
use Rattle.group_history.specs.Pull.{Pull}
use Rattle.group_history.specs.Pulling.{end_reply}
use Rattle.group_history.specs.Record.{after}
use Rattle.group_history.specs.State.{State, last_id, view_of}
use Rattle.head_word.specs.Books.{record_of}
use Rattle.head_word.specs.Marks.{Known}
use Rattle.linearized.specs.Answered.{IsLinearized, IsPoint, IsRefused, is_resource_refusal}
use Rattle.linearized.specs.Changes.{change_applied, change_closing, change_made}
use Rattle.commit_graph.specs.Seats.{SeatState}
use Rattle.change_tries.specs.Leaving.{Frees, spared}
use Rattle.change_tries.specs.Missing.{map_ok}
use Rattle.change_tries.specs.Changing.{ended_as, is_made}
use Rattle.change_tries.specs.Proposing.{asked_reply, change_asked, closing_reply, is_applied}
use Rattle.rebase.specs.Inside.Made.{closing_ended}
use Rattle.rebase.proofs.Causing.{frees_more}

-- a value
answers_as : {X Y : Type 0} (means : Meanings) (tries : ℕ) (old new : Known) (x : X) (y : Y)
    (change : Result X Refusal → Option Change) (other : Result Y Refusal → Option Change)
    (right : State → Result X Refusal) (so : State → Result Y Refusal)
    → change (Ok x) ≡ other (Ok y) → ((s : State) → right s ≡ Ok x → so s ≡ Ok y)
    → IsLinearized means tries old new (Ok x) change right → IsLinearized means tries old new (Ok y) other so
answers_as means tries old new x y change other right so same f is =
    (is.0, subst (λ (o : Option Change). IsPoint means old new o is.0) same is.1, f (after (record_of is.0)) is.2)

refused_as : (means : Meanings) (tries : ℕ) (old new : Known) (mute : Bool) (e : Refusal) (right so : State → Type 0)
    → ((s : State) → right s → so s) → IsRefused means tries old new mute e None right
    → IsRefused means tries old new mute e None so
refused_as means tries old new true e right so f is = is
refused_as means tries old new false e right so f is = (is.0, is.1, f (after (record_of is.0)) is.2)

-- a refusal that stands for no change
refuses_as : {X Y : Type 0} (means : Meanings) (tries : ℕ) (old new : Known) (e : Refusal)
    (change : Result X Refusal → Option Change) (other : Result Y Refusal → Option Change)
    (right : State → Result X Refusal) (so : State → Result Y Refusal)
    → change (Err e) ≡ None → other (Err e) ≡ None → ((s : State) → right s ≡ Err e → so s ≡ Err e)
    → IsLinearized means tries old new (Err e) change right → IsLinearized means tries old new (Err e) other so
refuses_as means tries old new e change other right so one two f is =
    subst (λ (o : Option Change). IsRefused means tries old new (mute o) e o (λ s. so s ≡ Err e)) (sym two)
    (refused_as means tries old new (is_resource_refusal e) e (λ s. right s ≡ Err e) (λ s. so s ≡ Err e) f
    (subst (λ (o : Option Change). IsRefused means tries old new (mute o) e o (λ s. right s ≡ Err e)) one is))
  where
    mute : Option Change → Bool
    mute None = is_resource_refusal e
    mute (Some c) = false

-- WHAT WAS TOLD

told_refused : {X Y : Type 0} (f : X → Y) (r : Result X Refusal) (e : Refusal) → map_ok f r ≡ Err e → r ≡ Err e
told_refused f (Ok x) e h = absurd (cc h)
told_refused f (Err w) e h = let same : w ≡ e = cc h in ap Err same

told_applied : (r : Result Ended Refusal) → map_ok is_applied r ≡ Ok true → r ≡ Ok ended.Applied
told_applied (Ok ended.Applied) h = refl
told_applied (Ok ended.Same) h = absurd (cc h)
told_applied (Err e) h = absurd (cc h)

told_same : (r : Result Ended Refusal) → map_ok is_applied r ≡ Ok false → r ≡ Ok ended.Same
told_same (Ok ended.Applied) h = absurd (cc h)
told_same (Ok ended.Same) h = refl
told_same (Err e) h = absurd (cc h)

by_told : (m : Meaning) (id : ℕ) → map_ok (λ (n : ℕ). true) (by_meaning m id) ≡ Ok true → by_meaning m id ≡ Ok id
by_told unknown id h = absurd (cc h)
by_told (refuses code) id h = absurd (cc h)
by_told (done m) id h = refl

own_told : (b : Bool) (m : Meaning) (id : ℕ)
    → (let w : Result ℕ Refusal = if b then by_meaning m id else Err refusal.Stale in map_ok (λ (n : ℕ). true) w)
    ≡ Ok true → (let w : Result ℕ Refusal = if b then by_meaning m id else Err refusal.Stale in w) ≡ Ok id
own_told true m id h = by_told m id h
own_told false m id h = absurd (cc h)

open_told : (b : Bool) (y : Result ℕ Refusal) (id : ℕ) → (map_ok (λ (n : ℕ). true) y ≡ Ok true → y ≡ Ok id)
    → (let w : Result ℕ Refusal = if b then Err refusal.Closed else y in map_ok (λ (n : ℕ). true) w) ≡ Ok true
    → (let w : Result ℕ Refusal = if b then Err refusal.Closed else y in w) ≡ Ok id
open_told true y id f h = absurd (cc h)
open_told false y id f h = f h

-- a mutation that is made has the next id
told_mutated : (means : Meanings) (s : State) (last : ℕ) (x : Mutation)
    → asked_reply means s last (Mutated x) ≡ Ok true → mutate_reply means s last x ≡ Ok (last + 1)
told_mutated means s last x h = open_told s.closed (open_reply means s last x) (last + 1)
    (own_told (nat_eq (last_id s x.client) last) (meaning_of means x (view_of means s)) (last + 1)) h

told_all : (r : Result ℕ Refusal) → map_ok (λ (n : ℕ). true) r ≡ Ok false → ⊥
told_all (Ok n) h = cc h
told_all (Err e) h = cc h

-- it changes something
never_same : (means : Meanings) (s : State) (last : ℕ) (x : Mutation)
    → asked_reply means s last (Mutated x) ≡ Ok false → ⊥
never_same means s last x h = told_all (mutate_reply means s last x) h

-- WHAT IS MADE OF IT

-- and answered by its id
pub next_told : (means : Meanings) (tries : ℕ) (old new : Known) (last : ℕ) (x : Mutation)
    (made : Result (Option Ref) Refusal) → IsLinearized means tries old new (map_ok is_made made) (change_asked
    (Mutated x))
    (λ s. asked_reply means s last (Mutated x))
    → IsLinearized means tries old new (map_ok (λ at. last + 1) made) (change_made x) (λ s. mutate_reply means s last x)
next_told means tries old new last x (Ok (Some at)) is =
    answers_as means tries old new true (last + 1) (change_asked (Mutated x)) (change_made x)
    (λ s. asked_reply means s last (Mutated x)) (λ s. mutate_reply means s last x) refl
    (λ s h. told_mutated means s last x h) is
next_told means tries old new last x (Ok None) is = absurd (never_same means (after (record_of is.0)) last x is.2)
next_told means tries old new last x (Err e) is =
    refuses_as means tries old new e (change_asked (Mutated x)) (change_made x)
    (λ s. asked_reply means s last (Mutated x)) (λ s. mutate_reply means s last x) refl refl
    (λ s h. told_refused (λ (id : ℕ). true) (mutate_reply means s last x) e h) is

-- a pull is ended as its commit stands there or not
pub pull_told : (means : Meanings) (tries : ℕ) (old new : Known) (last : ℕ) (t : Cookie) (r : Pull)
    (made : Result (Option Ref) Refusal) → IsLinearized means tries old new (map_ok is_made made) (change_asked
    (Pulled t r))
    (λ s. asked_reply means s last (Pulled t r))
    → IsLinearized means tries old new (map_ok ended_as made) (change_applied t r) (λ s. end_reply s t.text
    (response.Ok r))
pull_told means tries old new last t r (Ok (Some at)) is =
    answers_as means tries old new true ended.Applied (change_asked (Pulled t r)) (change_applied t r)
    (λ s. asked_reply means s last (Pulled t r)) (λ s. end_reply s t.text (response.Ok r)) refl
    (λ s h. told_applied (end_reply s t.text (response.Ok r)) h) is
pull_told means tries old new last t r (Ok None) is =
    answers_as means tries old new false ended.Same (change_asked (Pulled t r)) (change_applied t r)
    (λ s. asked_reply means s last (Pulled t r)) (λ s. end_reply s t.text (response.Ok r)) refl
    (λ s h. told_same (end_reply s t.text (response.Ok r)) h) is
pull_told means tries old new last t r (Err e) is =
    refuses_as means tries old new e (change_asked (Pulled t r)) (change_applied t r)
    (λ s. asked_reply means s last (Pulled t r)) (λ s. end_reply s t.text (response.Ok r)) refl refl
    (λ s h. told_refused is_applied (end_reply s t.text (response.Ok r)) e h) is

-- A CLOSING

closed_told : (b : Bool) → closing_reply b ≡ Ok true
    → (let w : Result Ended Refusal = if b then Err refusal.Closed else Err refusal.StateNotFound in w)
    ≡ Err refusal.StateNotFound
closed_told true h = absurd (cc h)
closed_told false h = refl

never_kept : (b : Bool) → closing_reply b ≡ Ok false → ⊥
never_kept true h = cc h
never_kept false h = cc h

pub never_unknown : (b : Bool) → closing_reply b ≡ Err refusal.StateNotFound → ⊥
never_unknown true h = cc h
never_unknown false h = cc h

closed_before : (b : Bool) (e : Refusal) → closing_reply b ≡ Err e
    → (let w : Result Ended Refusal = if b then Err refusal.Closed else Err refusal.StateNotFound in w) ≡ Err e
closed_before true e h = let same : refusal.Closed ≡ e = cc h in ap Err same
closed_before false e h = absurd (cc h)

-- a closing is told as the refusal that it stands for
pub closing_told : (means : Meanings) (tries : ℕ) (old new : Known) (last : ℕ) (ticket : Bytes)
    (made : Result (Option Ref) Refusal)
    → IsLinearized means tries old new (map_ok is_made made) (change_asked Closed)
    (λ s. asked_reply means s last Closed)
    → IsLinearized means tries old new (closing_ended made) change_closing
    (λ s. end_reply s ticket response.StateNotFound)
closing_told means tries old new last ticket (Ok (Some at)) is =
    (is.0, is.1, closed_told (after (record_of is.0)).closed is.2)
closing_told means tries old new last ticket (Ok None) is = absurd (never_kept (after (record_of is.0)).closed is.2)
closing_told means tries old new last ticket (Err refusal.StateNotFound) is =
    absurd (never_unknown (after (record_of is.0)).closed is.2)
closing_told means tries old new last ticket (Err e) is =
    refuses_as means tries old new e (change_asked Closed) change_closing (λ s. asked_reply means s last Closed)
    (λ s. end_reply s ticket response.StateNotFound) refl refl (λ s h. closed_before s.closed e h) is

-- WHAT A REPLY STANDS FOR

pub made_same : (means : Meanings) (tries : ℕ) (old new : Known) (last : ℕ) (x : Mutation)
    (made : Result (Option Ref) Refusal) → IsLinearized means tries old new (map_ok is_made made) (change_asked
    (Mutated x))
    (λ s. asked_reply means s last (Mutated x))
    → change_asked (Mutated x) (map_ok is_made made) ≡ change_made x (map_ok (λ at. last + 1) made)
made_same means tries old new last x (Ok (Some at)) is = refl
made_same means tries old new last x (Ok None) is = absurd (never_same means (after (record_of is.0)) last x is.2)
made_same means tries old new last x (Err e) is = refl

pub applied_same : (t : Cookie) (r : Pull) (made : Result (Option Ref) Refusal)
    → change_asked (Pulled t r) (map_ok is_made made) ≡ change_applied t r (map_ok ended_as made)
applied_same t r (Ok (Some at)) = refl
applied_same t r (Ok None) = refl
applied_same t r (Err e) = refl

pub closing_same : (means : Meanings) (tries : ℕ) (old new : Known) (last : ℕ) (made : Result (Option Ref) Refusal)
    → IsLinearized means tries old new (map_ok is_made made) (change_asked Closed)
    (λ s. asked_reply means s last Closed)
    → change_asked Closed (map_ok is_made made) ≡ change_closing (closing_ended made)
closing_same means tries old new last (Ok (Some at)) is = refl
closing_same means tries old new last (Ok None) is = absurd (never_kept (after (record_of is.0)).closed is.2)
closing_same means tries old new last (Err refusal.StateNotFound) is =
    absurd (never_unknown (after (record_of is.0)).closed is.2)
closing_same means tries old new last (Err e) is = refl

-- what was done to slots, as it is told
pub frees_closing : (means : Meanings) (tries : ℕ) (old new : SeatState) (last : ℕ) (made : Result (Option Ref) Refusal)
    → IsLinearized means tries old.mark new.mark (map_ok is_made made) (change_asked Closed)
    (λ s. asked_reply means s last Closed)
    → Frees (Some Closed) (spared made) old new (change_asked Closed (map_ok is_made made))
    → Frees (Some Closed) (spared (closing_ended made)) old new (change_closing (closing_ended made))
frees_closing means tries old new last made is frees =
    frees_more (Some Closed) (spared made) (spared (closing_ended made)) old new (change_closing (closing_ended made))
    (low made) (subst (Frees (Some Closed) (spared made) old new)
    (closing_same means tries old.mark new.mark last made is) frees)
  where
    low : (w : Result (Option Ref) Refusal) → spared w ≤ spared (closing_ended w)
    low (Ok at) = omega arith
    low (Err e) = omega arith
