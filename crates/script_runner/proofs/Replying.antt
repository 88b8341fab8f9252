-- A reply beside which nobody changes the group is the right one where the lines before left it.
use Rattle.std.proofs.Common.{◌≡◌, ◌⊎◌, ◌++◌, ℕ, inl, inr, Bool, true, false, List, [], Option, Some, None, Result}
use Rattle.std.proofs.Common.{Ok, Err, refl, sym, ap, subst, ◌∙◌}
use Rattle.group_history.specs.declared.changes.Change.{Change}
use Rattle.group_history.specs.declared.refusals.Refusal.{Refusal}
use Rattle.group_history.specs.declared.responses.Ended.{Ended}
use Rattle.group_history.specs.Meaning.{Meanings}
use Rattle.group_history.specs.Record.{after}
use Rattle.group_history.specs.State.{State}
use Rattle.head_word.specs.Books.{record_of, with_change}
use Rattle.head_word.specs.Marks.{Known}
use Rattle.linearized.specs.Answered.{IsLinearized, IsRefused, is_mute, is_resource_refusal}
use Rattle.change_tries.specs.Missing.{map_ok}
use Rattle.rebase.specs.Calls.{ended_in, id_in}
use Rattle.rebase.specs.Replies as replied
use Rattle.client_desk.specs.declared.outcomes.Outcome.TheVariants.{Refused}
use Rattle.client_desk.specs.Told.{Told, ended_told, id_told, replied_told, tells, told_alone}
use Rattle.script_runner.specs.Answering.{record_seen}
use Rattle.script_runner.specs.Inside.Exact.{IsExactCall}
use Rattle.script_runner.specs.Plain.{IsDone, Plain}

-- A reply is the right one at the state after this record, and the record gains its change; or it is refused for want
-- of something, and the record stays.
abbrev pub IsRight : {X : Type 0} → List Change → List Change → Result X Refusal → (Result X Refusal → Option Change)
    → (State → Result X Refusal) → Type 0
IsRight old new reply change right =
    ((reply ≡ right (after old)) × (new ≡ old ++ with_change (change reply) []))
    ⊎ ((e : Refusal) × (is_resource_refusal e ≡ true) × (reply ≡ Err e) × (new ≡ old))

refuses : {X : Type 0} (means : Meanings) (seen : Option Known) (n : ℕ) (old new : Known) (e : Refusal)
    (reply : Result X Refusal) (right : State → Result X Refusal) (o : Option Change) (b : Bool) → reply ≡ Err e
    → is_mute e o ≡ b → IsExactCall means seen old new → IsRefused means n old new b e o (λ s. right s ≡ Err e)
    → ((reply ≡ right (after (record_seen seen))) × (record_of new.log ≡ record_seen seen ++ with_change o []))
    ⊎ ((f : Refusal) × (is_resource_refusal f ≡ true) × (reply ≡ Err f) × (record_of new.log ≡ record_seen seen))
refuses means seen n old new e reply right None true is mute exact left = inr (e, mute, is, exact.none left.0)
refuses means seen n old new e reply right (Some c) true is mute exact left = absurd (cc mute)
refuses means seen n old new e reply right o false is mute exact answered =
    inl (
      is ∙ sym (subst (λ r. right (after r) ≡ Err e) (exact.point o answered.0 answered.1) answered.2),
      exact.behind o answered.0 answered.1,
    )

pub replies : {X : Type 0} (means : Meanings) (seen : Option Known) (n : ℕ) (old new : Known) (reply : Result X Refusal)
    (change : Result X Refusal → Option Change) (right : State → Result X Refusal) → IsExactCall means seen old new
    → IsLinearized means n old new reply change right
    → IsRight (record_seen seen) (record_of new.log) reply change right
replies means seen n old new (Ok x) change right exact is =
    inl (
      sym (subst (λ r. right (after r) ≡ Ok x) (exact.point (change (Ok x)) is.0 is.1) is.2),
      exact.behind (change (Ok x)) is.0 is.1,
    )
replies means seen n old new (Err e) change right exact is =
    refuses means seen n old new e (Err e) right (change (Err e)) (is_mute e (change (Err e))) refl refl exact is

-- so it is told, where a refusal is told as one
pub says_right : {X : Type 0} (saying : Result X Refusal → Told → Type 0) (is : Plain) (t : Told)
    (old new : List Change) (reply : Result X Refusal) (change : Result X Refusal → Option Change)
    (right : State → Result X Refusal) → saying reply t
    → ((e : Refusal) → saying (Err e) t → t ≡ told_alone (Refused e))
    → (saying (right (after old)) t → is.says t) → change (right (after old)) ≡ is.change
    → IsRight old new reply change right → IsDone is t old new
says_right saying is t old new reply change right said refused says_is change_is (inl done) =
    inl (
      says_is (subst (λ r. saying r t) done.0 said),
      done.1 ∙ ap (λ c. old ++ with_change c []) (ap change done.0 ∙ change_is),
    )
says_right saying is t old new reply change right said refused says_is change_is (inr want) =
    inr ((want.0, want.1, refused want.0 (subst (λ r. saying r t) want.2 said)), want.3)

pub tells_right : {X : Type 0} (tell : X → Told) (is : Plain) (t : Told) (old new : List Change)
    (reply : Result X Refusal)
    (change : Result X Refusal → Option Change) (right : State → Result X Refusal) → t ≡ tells tell reply
    → is.says (tells tell (right (after old))) → change (right (after old)) ≡ is.change
    → IsRight old new reply change right → IsDone is t old new
tells_right tell is t old new reply change right said told_is change_is =
    says_right (λ r x. x ≡ tells tell r) is t old new reply change right said (λ e h. h)
    (λ h. subst is.says (sym h) told_is) change_is

pub id_says : (r : Result ℕ Refusal) → tells replied_told (map_ok replied.id r) ≡ tells id_told r
id_says (Ok n) = refl
id_says (Err e) = refl

pub id_means : (r : Result ℕ Refusal) → map_ok id_in (map_ok replied.id r) ≡ r
id_means (Ok n) = refl
id_means (Err e) = refl

pub ended_says : (r : Result Ended Refusal) → tells replied_told (map_ok replied.ended r) ≡ tells ended_told r
ended_says (Ok e) = refl
ended_says (Err e) = refl

pub ended_means : (r : Result Ended Refusal) → map_ok ended_in (map_ok replied.ended r) ≡ r
ended_means (Ok e) = refl
ended_means (Err e) = refl
