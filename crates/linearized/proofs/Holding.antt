-- The laws of points and changes.
use Rattle.std.proofs.Common.{◌≡◌, ℕ, List, [], ◌∷◌, ◌++◌, Option, Some, None, Result, Ok, Err, refl, ap, sym, subst}
use Rattle.std.proofs.Common.{◌∙◌}
use Rattle.std.proofs.lemmas.List.{append-nil}
use mathlib.Core.List.{IsPrefix}
use Rattle.group_history.specs.declared.changes.Change.{Change}
use Rattle.group_history.specs.declared.mutations.MutationFields.{MutationFields as Mutation}
use Rattle.group_history.specs.declared.refusals.Refusal.{Refusal}
use Rattle.group_history.specs.declared.refusals.Refusal.TheVariants as refusal
use Rattle.group_history.specs.declared.responses.Ended.{Ended}
use Rattle.group_history.specs.declared.responses.Ended.TheVariants as ended
use Rattle.group_history.specs.declared.responses.Response.{Response}
use Rattle.group_history.specs.declared.responses.Response.TheVariants as response
use Rattle.group_history.specs.Cookies.{Cookie}
use Rattle.group_history.specs.Meaning.{Meanings}
use Rattle.group_history.specs.Mutating.{left_by_mutate}
use Rattle.group_history.specs.Pulling.{left_by_end, left_unknown}
use Rattle.group_history.specs.Record.{IsAccepted, IsLegal, AllAccepted, after, after_all, after_change}
use Rattle.group_history.specs.State.{State, opening}
use Rattle.group_history.proofs.Records.{after-push, IsLegal-front}
use Rattle.head_word.specs.declared.entry.Entry.{Entry}
use Rattle.head_word.specs.Books.{record_of, with_change}
use Rattle.head_word.specs.Marks.{Known}
use Rattle.head_word.proofs.BookLaws.{record_begins}
use Rattle.linearized.specs.Answered.{IsPoint, own_moves, moves_for}
use Rattle.linearized.specs.Changes.{change_made, change_closing, change_ended, after_made}
use Rattle.linearized.specs.Laws.{ChangeLaws}
use Rattle.linearized.proofs.AtOnce.{record_at}
use Rattle.linearized.proofs.Losing.{point_since}

-- what is behind one list in two ways is the same
pub same_behind : {A : Type 0} (xs ys zs : List A) → xs ++ ys ≡ xs ++ zs → ys ≡ zs
same_behind [] ys zs h = h
same_behind (x ∷ xs) ys zs h = let e : x ∷ (xs ++ ys) ≡ x ∷ (xs ++ zs) = h in same_behind xs ys zs (cc e)

same_change : (one other : Option Change) → with_change one [] ≡ with_change other [] → one ≡ other
same_change None None h = refl
same_change None (Some d) h = absurd cc
same_change (Some c) None h = absurd cc
same_change (Some c) (Some d) h = let e : c ∷ [] ≡ d ∷ [] = h in ap Some (cc e)

accepted_last : (means : Meanings) (s : State) (cs : List Change) (c : Change) → AllAccepted means s (cs ++ c ∷ [])
    → IsAccepted means (after_all s cs) c
accepted_last means s [] c all = all.0
accepted_last means s (d ∷ cs) c all = accepted_last means (after_change s d) cs c all.1

legal_there : (means : Meanings) (old new : Known) (change : Option Change) (log : List Entry)
    → IsPoint means old new change log → IsLegal means (record_of log ++ with_change change [])
legal_there means old new change log is = subst (IsLegal means) (record_at old.seat is.to change log) is.legal

one_change : (means : Meanings) (old new : Known) (one other : Option Change) (xs ys : List Entry)
    → IsPoint means old new one xs → IsPoint means old new other ys → one ≡ other
one_change means old new one other xs ys p q =
    let a = record_at old.seat p.to one (own_moves old) in
    let b = record_at old.seat q.to other (own_moves old) in
    same_change one other (same_behind (record_of (own_moves old)) (with_change one []) (with_change other [])
    (sym a ∙ (ap record_of (sym p.moves ∙ q.moves) ∙ b)))

after_one : (record_ : List Change) (change : Option Change)
    → after (record_ ++ with_change change []) ≡ after_made (after record_) change
after_one record_ None = ap after (append-nil record_)
after_one record_ (Some c) = after-push record_ c

mutated_leaves : (s : State) (x : Mutation) (reply : Result ℕ Refusal)
    → left_by_mutate reply s x ≡ after_made s (change_made x reply)
mutated_leaves s x (Ok id) = refl
mutated_leaves s x (Err e) = refl

closed_leaves : (s : State) (reply : Result Ended Refusal) → left_unknown reply s ≡ after_made s (change_closing reply)
closed_leaves s (Ok e) = refl
closed_leaves s (Err refusal.StateNotFound) = refl
closed_leaves s (Err e) = refl

ended_leaves : (s : State) (ticket : Cookie) (r : Response) (reply : Result Ended Refusal)
    → left_by_end reply s r ≡ after_made s (change_ended ticket r reply)
ended_leaves s ticket (response.Ok r) (Ok ended.Applied) = refl
ended_leaves s ticket (response.Ok r) (Ok ended.Same) = refl
ended_leaves s ticket (response.Ok r) (Err e) = refl
ended_leaves s ticket response.StateNotFound reply = closed_leaves s reply
ended_leaves s ticket (response.VersionNotSupported kind) reply = refl

pub change_laws_hold : (means : Meanings) → ChangeLaws means
change_laws_hold means = record {
  record_before = λ old new change log is. record_begins old.log log is.since;
  record_after = λ old new change log is. subst (λ w. IsPrefix w (record_of new.log))
      (record_at old.seat is.to change log) (record_begins (log ++ moves_for old.seat is.to change) new.log is.until);
  legal = λ old new change log is. IsLegal-front means opening (record_of log) (with_change change [])
      (legal_there means old new change log is);
  accepted = λ old new c log is. accepted_last means opening (record_of log) c
      (legal_there means old new (Some c) log is);
  made = after_one;
  one_change = one_change means;
  later = point_since means;
  mutated = mutated_leaves;
  ended = ended_leaves;
}
