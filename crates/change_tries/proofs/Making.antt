-- How a change is answered, and where it stands.
use Rattle.std.proofs.Common.{◌≡◌, ◌⊎◌, inl, inr, ℕ, ◌+◌, ◌<◌, ◌^◌, max, fold, Bool, true, false, cond, List, [], ◌∷◌}
use Rattle.std.proofs.Common.{◌++◌, map, filter, length, ◌≤◌, Option, Some, None, Result, Ok, Err, refl, sym, ap, subst}
use Rattle.std.proofs.Common.{◌∙◌, arith, append-nil}
use Rattle.std.proofs.lemmas.List.Sums.{fold-append}
use Rattle.std.specs.Prelude.{nat_eq, if◌then◌else◌}
use mathlib.Core.List.{IsPrefix}
use Rattle.group_history.specs.declared.changes.Change.{Change}
use Rattle.group_history.specs.declared.changes.Change.TheVariants.{Mutated}
use Rattle.group_history.specs.declared.mutations.MutationFields.{MutationFields as Mutation}
use Rattle.group_history.specs.declared.mutations.Reason.TheVariants.{Initial}
use Rattle.group_history.specs.declared.refs.Ref.{Ref}
use Rattle.group_history.specs.declared.refusals.Refusal.{Refusal}
use Rattle.group_history.specs.declared.refusals.Refusal.TheVariants as refusal
use Rattle.group_history.specs.Ids.{IdsFollow}
use Rattle.group_history.specs.Meaning.{Meanings, meaning_of}
use Rattle.group_history.specs.Mutating.{mutate_reply, open_reply, by_meaning, after_mutate}
use Rattle.group_history.specs.Record.{IsAccepted, after}
use Rattle.group_history.specs.Refs.{stamp_of}
use Rattle.group_history.specs.Spelling.{Contents, version_of, Spells}
use Rattle.group_history.specs.State.{State, last_id, confirmed_id, ids_of, view_of}
use Rattle.group_history.proofs.IdLemmas.{ids_of-append, after_mutate-IdsFollow}
use Rattle.group_history.proofs.Lists.{prefix_length, prefix_trans}
use Rattle.map_chunks.proofs.Texts.{same_text-itself}
use Rattle.head_word.specs.declared.entry.Entry.{Entry}
use Rattle.head_word.specs.Books.{last_move, next_stamp, record_of}
use Rattle.head_word.specs.Marks.{Known, others, own, own_of}
use Rattle.head_word.proofs.BookLaws.{spelled-stays}
use Rattle.commit_graph.specs.LastIds.{last_in, last_at}
use Rattle.commit_graph.proofs.Few.{last_id-small, stamp-low}
use Rattle.linearized.specs.Answered.{IsPoint, IsRefused, IsLeft, IsLinearized, is_move, is_resource_refusal, own_moves}
use Rattle.linearized.specs.Trying.{IsBase, IsUnproposed}
use Rattle.change_tries.specs.Missing.{IsStop}
use Rattle.change_tries.proofs.Stopping.{stop_wants}
use Rattle.change_tries.specs.Arriving.{IsArrived, when_seen}
use Rattle.change_tries.specs.Proposing.{IsUnmade}

-- a point stays one while more is seen, where the seat moves nothing
pub point_later : (means : Meanings) (old mid new : Known) (log : List Entry) → IsPoint means old mid None log
    → IsPrefix mid.log new.log → own_moves new ≡ own_moves mid → IsPoint means old new None log
point_later means old mid new log p more same = record {
  to = p.to;
  since = p.since;
  until = prefix_trans _ mid.log new.log p.until more;
  legal = p.legal;
  moves = same ∙ p.moves;
}

-- a call that saw the head at its point, and then which stamps are drawn
pub arrived : (means : Meanings) (old mid new : Known) (log : List Entry) (base : Ref) (first : ℕ) → log ≡ mid.log
    → mid.seat ≡ old.seat → IsPoint means old mid None mid.log → base ≡ last_move mid.log
    → IsBase means mid base (after (record_of mid.log)) → first ≡ next_stamp new.log → IsPrefix mid.log new.log
    → own mid ≡ own old → own new ≡ own mid → others old ≤ others mid
    → IsArrived means old (when_seen old log) new base first
arrived means old mid new log base first is number at last spelled drawn more own_mid own_new before =
    subst (λ (l : List Entry). IsArrived means old (when_seen old l) new base first) (sym is) (record {
      point = point_later means old mid new mid.log at more same;
      last = last;
      spelled = spelled-stays mid.log new.log more (stamp_of base) (version_of means (after (record_of mid.log)))
          spelled;
      drawn = drawn;
      seat = refl;
      since = more;
      own = ap (filter is_move) (sym by_number ∙ own_mid);
      same = same ∙ ap (filter is_move) own_mid;
      before = omega (arith, before, ap length by_number);
      others = omega (arith, before, prefix_length mid.log new.log more, ap length own_new);
    })
  where
    same : own_moves new ≡ own_moves mid
    same = ap (filter is_move) own_new

    by_number : own mid ≡ own (when_seen old mid.log)
    by_number = ap (λ (s : Option ℕ). own_of s mid.log) number

-- a refusal of what was proposed at a point is answered there
unproposed : {X : Type 0} (reused : Type 0) (means : Meanings) (tries : ℕ) (old new : Known) (e : Refusal)
    (change : Result X Refusal → Option Change) (right : State → Result X Refusal) (log : List Entry)
    → IsPoint means old new None log → change (Err e) ≡ None → IsUnproposed (IsStop reused) change
    (right (after (record_of log))) e
    → IsLinearized means tries old new (Err e) change right
unproposed reused means tries old new e change right log p none is =
    subst (λ (o : Option Change). IsRefused means tries old new (mute o) e o (λ s. right s ≡ Err e)) (sym none)
    (by_want (is_resource_refusal e) refl is.0)
  where
    mute : Option Change → Bool
    mute None = is_resource_refusal e
    mute (Some c) = false

    by_want : (b : Bool) → is_resource_refusal e ≡ b →
        (IsStop reused e ⊎ ((right (after (record_of log)) ≡ Err e) × (change (Err e) ≡ None)))
        → IsRefused means tries old new b e None (λ s. right s ≡ Err e)
    by_want true w h = (p.moves ∙ append-nil (own_moves old), λ moved. absurd (is.1 moved))
    by_want false w (inl h) = absurd (cc (sym w ∙ stop_wants reused e h))
    by_want false w (inr h) = (log, p, h.0)

-- so is one for want of something
pub wanting : {X : Type 0} (means : Meanings) (tries : ℕ) (old new : Known) (e : Refusal)
    (change : Result X Refusal → Option Change) (right : State → Result X Refusal)
    → change (Err e) ≡ None → is_resource_refusal e ≡ true → IsLeft tries old new e
    → IsLinearized means tries old new (Err e) change right
wanting means tries old new e change right none want left =
    subst (λ (o : Option Change). IsRefused means tries old new (mute o) e o (λ s. right s ≡ Err e)) (sym none)
    (subst (λ (b : Bool). IsRefused means tries old new b e None (λ s. right s ≡ Err e)) (sym want) left)
  where
    mute : Option Change → Bool
    mute None = is_resource_refusal e
    mute (Some c) = false

-- a call that arrived, and made nothing
pub unmade : {X : Type 0} (reused : Type 0) (means : Meanings) (tries : ℕ) (old seen mid new : Known) (base : Ref)
    (first : ℕ)
    (e : Refusal) (change : Result X Refusal → Option Change) (right : State → Result X Refusal)
    → IsArrived means old seen mid base first → change (Err e) ≡ None
    → IsUnmade (IsStop reused) change (right (after (record_of seen.log))) tries mid new e
    → IsLinearized means tries old new (Err e) change right
unmade reused means tries old seen mid new base first e change right a none (inl h) =
    unproposed reused means tries old new e change right seen.log
    (subst (λ (m : Known). IsPoint means old m None seen.log) (sym h.1) a.point) none h.0
unmade reused means tries old seen mid new base first e change right a none (inr h) =
    wanting means tries old new e change right none h.0 (h.1.0 ∙ a.same, λ moved. omega (arith, h.1.1 moved, a.others))

-- ITS IDS

fold_push : (n : ℕ) (xs : List ℕ) (y : ℕ) → fold max n (xs ++ y ∷ []) ≡ max (fold max n xs) y
fold_push n xs y = fold-append max n xs (y ∷ [])

-- the next mutation of a client is its last
last_made : (s : State) (x : Mutation) → last_id s x.client + 1 ≡ x.id → last_id (after_mutate s x) x.client ≡ x.id
last_made s x next =
    let n = confirmed_id s.confirmed x.client in let before = ids_of x.client s.pending in
    let own : ids_of x.client (x ∷ []) ≡ x.id
    ∷ [] = ap (λ (b : Bool). map (λ (m : Mutation). m.id) (cond b (x ∷ []) [])) (same_text-itself x.client) in
    ap (fold max n) (ids_of-append x.client s.pending (x ∷ []) ∙ ap (λ (is : List ℕ). before ++ is) own) ∙ fold_push n
    before x.id ∙ omega (arith, next)

-- where it stands
pub stands : (means : Meanings) (cs : Contents) (at : Ref) (s : State) (x : Mutation) (last : ℕ) → at.bits < 2 ^ 64
    → IdsFollow s.confirmed s.pending → last_id s x.client ≡ last → x.id ≡ last + 1
    → Spells means cs (stamp_of at) (after_mutate s x)
    → (last_at cs (stamp_of at) x.client ≡ Some x.id) × (x.id < 2 ^ 53)
stands means cs at s x last bits ids is next spells =
    let more : last_id s x.client + 1 ≡ x.id = omega (arith, is, next) in
    let made = last_made s x more in
    let follow = after_mutate-IdsFollow s.confirmed s.pending x ids (sym more) in
    let small = last_id-small cs at x.client (version_of means (after_mutate s x)) (stamp-low at bits) spells follow in
    (ap (last_in x.client) spells ∙ ap Some made, omega (arith, small, made))

-- WHAT IS ACCEPTED

-- the reply at an open state, to a client whose last id is its own
pub reply_next : (means : Meanings) (s : State) (x : Mutation) (last : ℕ) → s.closed ≡ false → last_id s x.client ≡ last
    → x.id ≡ last + 1
    → mutate_reply means s last x ≡ by_meaning (meaning_of means x (view_of means s)) x.id
reply_next means s x last is_open is next =
    let same : nat_eq (last_id s x.client) last ≡ true = grind (arith, is) in
    ap (λ (b : Bool). if b then Err refusal.Closed else open_reply means s last x) is_open
    ∙ ap (λ (b : Bool). if b then by_meaning (meaning_of means x (view_of means s))
    (last + 1) else Err refusal.Stale) same
    ∙ ap (by_meaning (meaning_of means x (view_of means s))) (sym next)

pub accepted_next : (means : Meanings) (s : State) (x : Mutation) (last : ℕ) → last_id s x.client ≡ last
    → mutate_reply means s last x ≡ Ok x.id → x.reason ≡ Initial → IsAccepted means s (Mutated x)
accepted_next means s x last is reply reason = (ap (λ (n : ℕ). mutate_reply means s n x) is ∙ reply, reason)
