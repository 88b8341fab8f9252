-- A call that is begun anew where others were in its way.
use Rattle.std.proofs.Common.{◌≡◌, ℕ, Bool, true, false, Option, Some, None, Result, Ok, Err, refl, sym, ap, subst, ◌∙◌}
use Rattle.std.specs.Prelude.{IfErr}
use mathlib.Core.List.{IsPrefix}
use Rattle.group_history.specs.declared.changes.Change.{Change}
use Rattle.group_history.specs.declared.refusals.Refusal.{Refusal}
use Rattle.group_history.specs.declared.refusals.Refusal.TheVariants as refusal
use Rattle.group_history.specs.declared.responses.Ended.{Ended}
use Rattle.group_history.specs.declared.responses.Response.{Response}
use Rattle.group_history.specs.declared.responses.Response.TheVariants as response
use Rattle.group_history.specs.Cookies.{Cookie}
use Rattle.group_history.specs.Meaning.{Meanings}
use Rattle.group_history.specs.State.{State}
use Rattle.head_word.specs.Marks.{Known}
use Rattle.linearized.specs.Answered.{IsLinearized, IsRefused, is_mute, is_resource_refusal, own_moves}
use Rattle.linearized.specs.Changes.{change_read}
use Rattle.linearized.proofs.Losing.{point_since}
use Rattle.rebase.specs.Asking.{is_passing}

passing_wants : (X : Type 0) (e : Refusal) → is_passing {X = X} (Err e) ≡ true → is_resource_refusal e ≡ true
passing_wants X refusal.Moved is = refl
passing_wants X refusal.Busy is = refl
passing_wants X refusal.Gone is = refl
passing_wants X e is = absurd (cc is)

-- where it passes, the seat did not move the head
pub left_alone : {X : Type 0} (means : Meanings) (tries : ℕ) (old new : Known) (reply : Result X Refusal)
    (change : Result X Refusal → Option Change) (right : State → Result X Refusal)
    → is_passing reply ≡ true → ((e : Refusal) → is_passing {X = X} (Err e) ≡ true → change (Err e) ≡ None)
    → IsLinearized means tries old new reply change right → own_moves new ≡ own_moves old
left_alone means tries old new (Ok x) change right passes none is = absurd (cc passes)
left_alone {X = X} means tries old new (Err e) change right passes none is =
    let told = subst (λ (o : Option Change). IsRefused means tries old new (mute o) e o (λ s. right s ≡ Err e))
    (none e passes) is in
    (subst (λ (b : Bool). IsRefused means tries old new b e None (λ s. right s ≡ Err e))
    (passing_wants X e passes) told).0
  where
    mute : Option Change → Bool
    mute None = is_resource_refusal e
    mute (Some c) = false

refused_anew : (X : Type 0) (means : Meanings) (tries more : ℕ) (old mid new : Known) (mute : Bool) (e : Refusal)
    (change : Option Change) (right : State → Type 0) → IsPrefix old.log mid.log → mid.seat ≡ old.seat
    → own_moves mid ≡ own_moves old
    → is_passing {X = X} (Err e) ≡ false → IsRefused means tries mid new mute e change right
    → IsRefused means more old new mute e change right
refused_anew X means tries more old mid new true e change right pre seat same lasts is =
    (is.0 ∙ same, λ moved. absurd (cc (sym (ap (λ (w : Refusal). is_passing {X = X} (Err w)) moved) ∙ lasts)))
refused_anew X means tries more old mid new false e change right pre seat same lasts is =
    (is.0, point_since means old mid new change is.0 pre seat same is.1, is.2)

-- and what it answers then is right for the whole of it
pub begun_anew : {X : Type 0} (means : Meanings) (tries more : ℕ) (old mid new : Known) (reply : Result X Refusal)
    (change : Result X Refusal → Option Change) (right : State → Result X Refusal)
    → IsPrefix old.log mid.log → mid.seat ≡ old.seat → own_moves mid ≡ own_moves old → is_passing reply ≡ false
    → IsLinearized means tries mid new reply change right → IsLinearized means more old new reply change right
begun_anew means tries more old mid new (Ok x) change right pre seat same lasts is =
    (is.0, point_since means old mid new (change (Ok x)) is.0 pre seat same is.1, is.2)
begun_anew {X = X} means tries more old mid new (Err e) change right pre seat same lasts is =
    refused_anew X means tries more old mid new (is_mute e (change (Err e))) e (change (Err e))
    (λ s. right s ≡ Err e) pre seat same lasts is

-- an end of a pull that passes stands for no change
pub passing_read : (ticket : Cookie) (a : Result Response Refusal) (e : Refusal) → is_passing {X = Ended} (Err e) ≡ true
    → change_read ticket a (Err e) ≡ None
passing_read ticket (Ok (response.Ok r)) e is = refl
passing_read ticket (Ok response.StateNotFound) refusal.Moved is = refl
passing_read ticket (Ok response.StateNotFound) refusal.Busy is = refl
passing_read ticket (Ok response.StateNotFound) refusal.Gone is = refl
passing_read ticket (Ok response.StateNotFound) e is = absurd (cc is)
passing_read ticket (Ok (response.VersionNotSupported kind)) e is = refl
passing_read ticket (Err w) e is = refl

-- and so does any other call that passes
pub passing_changes : {X : Type 0} (reply : Result X Refusal) (change : Result X Refusal → Option Change)
    → is_passing reply ≡ true → ((e : Refusal) → is_passing {X = X} (Err e) ≡ true → change (Err e) ≡ None)
    → change reply ≡ None
passing_changes (Ok x) change passes none = absurd (cc passes)
passing_changes (Err e) change passes none = none e passes

-- a reply that passes is a refusal
pub passing_err : {X : Type 0} (reply : Result X Refusal) (P : Type 0) → is_passing reply ≡ true
    → IfErr reply (λ _. P) → P
passing_err (Ok x) P passes h = absurd (cc passes)
passing_err (Err e) P passes h = h
