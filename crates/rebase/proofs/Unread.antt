-- Bytes that are no response are refused for what they are, never for want of something.
use Rattle.std.proofs.Common.{◌≡◌, ◌⊎◌, inl, inr, ℕ, Bool, false, Option, Some, None, Result, Ok, Err, refl, sym, ap}
use Rattle.std.proofs.Common.{subst, ◌∙◌}
use Rattle.group_history.specs.declared.changes.Change.{Change}
use Rattle.group_history.specs.declared.refusals.Refusal.{Refusal}
use Rattle.group_history.specs.declared.refusals.Refusal.TheVariants as refusal
use Rattle.group_history.specs.declared.responses.Response.{Response}
use Rattle.group_history.specs.declared.responses.Response.TheVariants as response
use Rattle.group_history.specs.Answers.{◌>>=◌, Refuses}
use Rattle.group_history.specs.Cookies.{Cookie}
use Rattle.group_history.specs.Map.{Bytes}
use Rattle.group_history.specs.Meaning.{Meanings}
use Rattle.group_history.specs.Pulling.{end_reply}
use Rattle.group_history.specs.Record.{after}
use Rattle.group_history.proofs.Lists.{prefix_self}
use Rattle.head_word.specs.Books.{IsOpened, record_of}
use Rattle.head_word.specs.Marks.{Known}
use Rattle.pull_patch.specs.Grammar.{answer_to}
use Rattle.pull_patch.proofs.Refusals.{refused_for}
use Rattle.linearized.specs.Answered.{IsLinearized, IsRefused, is_resource_refusal}
use Rattle.linearized.specs.Changes.{change_read}
use Rattle.linearized.proofs.Moving.{point_seen}
use Rattle.rebase.specs.Asking.{end_bytes_reply}
use Rattle.commit_graph.specs.Seats.{SeatState}
use Rattle.change_tries.specs.Causes.{HasCause}
use Rattle.rebase.proofs.Causing.{cause_missed, cause_named}
use Rattle.change_tries.proofs.Drafting.{right_or}
use Rattle.change_tries.proofs.Making.{wanting}

-- WHAT IS ANSWERED

-- want of memory stands for no change
none_read : (ticket : Cookie) (a : Result Response Refusal) → change_read ticket a (Err refusal.NoMemory) ≡ None
none_read ticket (Ok (response.Ok r)) = refl
none_read ticket (Ok response.StateNotFound) = refl
none_read ticket (Ok (response.VersionNotSupported kind)) = refl
none_read ticket (Err e) = refl

-- such bytes are refused rightly where the call began
pub unread : (means : Meanings) (tries : ℕ) (m : Known) (ticket : Cookie) (body : Bytes) (e : Refusal)
    → IsOpened means m.log → Refuses e (answer_to body)
    → IsLinearized means tries m m (Err e) (change_read ticket (answer_to body))
    (λ s. end_bytes_reply s ticket.text body)
unread means tries m ticket body e book is = by_cause (right_or e (answer_to body) is)
  where
    mute : Option Change → Bool
    mute None = is_resource_refusal e
    mute (Some c) = false

    by_cause : (e ≡ refusal.NoMemory) ⊎ (answer_to body ≡ Err e)
        → IsLinearized means tries m m (Err e) (change_read ticket (answer_to body))
        (λ s. end_bytes_reply s ticket.text body)
    by_cause (inl none) =
        wanting means tries m m e (change_read ticket (answer_to body)) (λ s. end_bytes_reply s ticket.text body)
        (ap (λ w. change_read ticket (answer_to body) (Err w)) none ∙ none_read ticket (answer_to body))
        (ap is_resource_refusal none)
        (refl, λ moved. absurd (cc (sym none ∙ moved)))
    by_cause (inr so) =
        let still : change_read ticket (answer_to body) (Err e) ≡ None = ap (λ a. change_read ticket a (Err e)) so in
        subst (λ (o : Option Change). IsRefused means tries m m (mute o) e o
        (λ s. end_bytes_reply s ticket.text body ≡ Err e)) (sym still)
        (subst (λ (b : Bool). IsRefused means tries m m b e None (λ s. end_bytes_reply s ticket.text body ≡ Err e))
        (sym (refused_for (λ (w : Refusal). is_resource_refusal w ≡ false) refl refl refl body e so)) (
          m.log,
          point_seen means m m (prefix_self m.log) book refl,
          ap (λ a. a >>= end_reply (after (record_of m.log)) ticket.text) so,
        ))

-- they lack nothing but memory
pub unread_cause : (means : Meanings) (reused : Type 0) (last : ℕ) (asked : Option Change) (old new : SeatState)
    (body : Bytes) (e : Refusal) → Refuses e (answer_to body) → HasCause means reused last asked old new e
unread_cause means reused last asked old new body e is = by_cause (right_or e (answer_to body) is)
  where
    by_cause : (e ≡ refusal.NoMemory) ⊎ (answer_to body ≡ Err e) → HasCause means reused last asked old new e
    by_cause (inl none) = cause_missed means reused last asked old new e (inl none)
    by_cause (inr so) = cause_named means reused last asked old new e
        (refused_for (λ (w : Refusal). is_resource_refusal w ≡ false) refl refl refl body e so)

-- and change nothing
pub unread_changes : (ticket : Cookie) (body : Bytes) (e : Refusal) → Refuses e (answer_to body)
    → change_read ticket (answer_to body) (Err e) ≡ None
unread_changes ticket body e is = by_cause (right_or e (answer_to body) is)
  where
    by_cause : (e ≡ refusal.NoMemory) ⊎ (answer_to body ≡ Err e) → change_read ticket (answer_to body) (Err e) ≡ None
    by_cause (inl none) = ap (λ (w : Refusal). change_read ticket (answer_to body) (Err w)) none
        ∙ none_read ticket (answer_to body)
    by_cause (inr so) = ap (λ a. change_read ticket a (Err e)) so
