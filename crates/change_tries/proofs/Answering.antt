-- How a try of a change is answered.
use Rattle.std.proofs.Common.{◌≡◌, ℕ, ◌+◌, ◌<◌, ◌≤◌, ◌^◌, Bool, true, false, List, Option, Some, None, Result, Ok, Err}
use Rattle.std.proofs.Common.{refl, sym}
use Rattle.std.proofs.Common.{ap, subst, ◌∙◌, arith}
use Rattle.std.specs.Prelude.{nat_eq, if◌then◌else◌, IfOk, IfErr}
use mathlib.Core.List.{IsPrefix}
use Rattle.group_history.specs.declared.changes.Change.{Change}
use Rattle.group_history.specs.declared.changes.Change.TheVariants.{Mutated, Pulled, Closed}
use Rattle.group_history.specs.declared.mutations.MutationFields.{MutationFields as Mutation}
use Rattle.group_history.specs.declared.refs.Ref.{Ref}
use Rattle.group_history.specs.declared.refusals.Refusal.{Refusal}
use Rattle.group_history.specs.declared.refusals.Refusal.TheVariants as refusal
use Rattle.group_history.specs.Ids.{IdsFollow}
use Rattle.group_history.specs.Meaning.{Meanings, meaning_of}
use Rattle.group_history.specs.Mutating.{by_meaning, open_reply}
use Rattle.group_history.specs.Record.{after, after_change}
use Rattle.group_history.specs.Refs.{stamp_of}
use Rattle.group_history.specs.Spelling.{Contents, Spells}
use Rattle.group_history.specs.State.{State, last_id, view_of}
use Rattle.group_history.proofs.Lists.{prefix_trans}
use Rattle.head_word.specs.declared.entry.Entry.{Entry}
use Rattle.head_word.specs.Books.{drawn, record_of}
use Rattle.head_word.specs.Marks.{Known, others}
use Rattle.commit_graph.specs.declared.states.LastId.{LastId}
use Rattle.linearized.specs.Answered.{IsPoint, IsRefused, own_moves}
use Rattle.linearized.proofs.Losing.{lost_to_others, point_since}
use Rattle.change_tries.specs.Missing.{IsStop, map_ok}
use Rattle.change_tries.specs.Arriving.{IsArrived}
use Rattle.change_tries.specs.Changing.{AnswersTry, EndsTry}
use Rattle.change_tries.specs.Proposing.{HasLast, IsUnmade, MayAsk, StaysFound, asked_reply, change_asked}
use Rattle.change_tries.specs.declared.trying.Tried.{Tried}
use Rattle.change_tries.specs.declared.trying.Tried.TheVariants as tried
use Rattle.change_tries.proofs.Finding.{last_grown}
use Rattle.change_tries.proofs.Making.{stands, unmade}

-- WHO ASKS

-- what a client may ask for, it may ask for when more is seen
pub may_ask_grown : (old new : List Entry) (before : LastId) (c : Change) → IsPrefix old new
    → MayAsk (drawn old) before c → MayAsk (drawn new) before c
may_ask_grown old new before (Mutated x) more asks =
    (last_grown old new (stamp_of before.at) x.client before.id more asks.0, asks.1, asks.2)
may_ask_grown old new before (Pulled t r) more asks = tt
may_ask_grown old new before Closed more asks = tt

-- WHERE A LAST ID IS FOUND

pub found_self : (cs : Contents) (found : LastId) (c : Change) → MayAsk cs found c → StaysFound cs found found c
found_self cs found (Mutated x) asks = (asks.0, refl)
found_self cs found (Pulled t r) asks = refl
found_self cs found Closed asks = refl

pub found_grown : (old new : List Entry) (one two : LastId) (c : Change) → IsPrefix old new
    → StaysFound (drawn old) one two c → StaysFound (drawn new) one two c
found_grown old new one two (Mutated x) more is =
    (last_grown old new (stamp_of two.at) x.client two.id more is.0, is.1)
found_grown old new one two (Pulled t r) more is = is
found_grown old new one two Closed more is = is

pub found_more : (cs more : Contents) (one two three : LastId) (c : Change) → StaysFound cs one two c
    → StaysFound more two three c → StaysFound more one three c
found_more cs more one two three (Mutated x) a b = (b.0, b.1 ∙ a.1)
found_more cs more one two three (Pulled t r) a b = b ∙ a
found_more cs more one two three Closed a b = b ∙ a

-- so the same may be asked by what is found there
pub found_asks : (cs : Contents) (old new : LastId) (c : Change) → MayAsk cs old c → StaysFound cs old new c
    → MayAsk cs new c
found_asks cs old new (Mutated x) asks is = (is.0, asks.1 ∙ ap (λ (n : ℕ). n + 1) (sym is.1), asks.2)
found_asks cs old new (Pulled t r) asks is = tt
found_asks cs old new Closed asks is = tt

-- by the id that it had, and the commit where that is found now
pub found_asks_at : (cs : Contents) (old new : LastId) (c : Change) → MayAsk cs old c → StaysFound cs old new c
    → MayAsk cs (record { at = new.at; id = old.id }) c
found_asks_at cs old new (Mutated x) asks is = (is.0 ∙ ap (λ (n : ℕ). Some n) is.1, asks.1, asks.2)
found_asks_at cs old new (Pulled t r) asks is = tt
found_asks_at cs old new Closed asks is = tt

-- WHERE IT STANDS

told_open : (b : Bool) (y : Result ℕ Refusal)
    → map_ok (λ (id : ℕ). true) (let w : Result ℕ Refusal = if b then Err refusal.Closed else y in w) ≡ Ok true
    → map_ok (λ (id : ℕ). true) y ≡ Ok true
told_open true y h = absurd (cc h)
told_open false y h = h

told_own : (b : Bool) (n last : ℕ) (y : Result ℕ Refusal) → nat_eq n last ≡ b
    → map_ok (λ (id : ℕ). true) (let w : Result ℕ Refusal = if b then y else Err refusal.Stale in w) ≡ Ok true → n
    ≡ last
told_own true n last y e h = grind (arith, e)
told_own false n last y e h = absurd (cc h)

-- a client whose mutation is accepted has its own last id
own_last : (means : Meanings) (s : State) (last : ℕ) (x : Mutation) → asked_reply means s last (Mutated x) ≡ Ok true
    → last_id s x.client ≡ last
own_last means s last x h = told_own (nat_eq (last_id s x.client) last) (last_id s x.client) last
    (by_meaning (meaning_of means x (view_of means s)) (last + 1)) refl
    (told_open s.closed (open_reply means s last x) h)

pub has_last : (means : Meanings) (cs new : Contents) (at : Ref) (s : State) (before : LastId) (c : Change)
    → at.bits < 2 ^ 64 → IdsFollow s.confirmed s.pending → MayAsk cs before c
    → asked_reply means s before.id c ≡ Ok true → Spells means new (stamp_of at) (after_change s c) → HasLast new at c
has_last means cs new at s before (Mutated x) bits ids asks is spells = stands means new at s x before.id bits ids
    (own_last means s before.id x is) asks.1 spells
has_last means cs new at s before (Pulled t r) bits ids asks is spells = tt
has_last means cs new at s before Closed bits ids asks is spells = tt

-- WHAT IS ANSWERED

-- a try that looked where the head is, and what it found there
pub try_answered : (reused : Type 0) (means : Meanings) (tries : ℕ) (old seen mid new : Known) (base : Ref)
    (first last : ℕ) (c : Change)
    (r : Result Tried Refusal)
    → IsArrived means old seen mid base first → IsPrefix old.log mid.log → mid.seat ≡ old.seat
    → IsPrefix mid.log new.log → new.seat ≡ mid.seat
    → IfOk r (EndsTry means mid new base (after (record_of seen.log)) last c)
    → IfErr r (IsUnmade (IsStop reused) (change_asked c) (asked_reply means (after (record_of seen.log)) last c) tries
    mid new)
    → AnswersTry means tries old new last c r
try_answered reused means tries old seen mid new base first last c (Ok (tried.Made at)) a pre seat more number is err =
    let won = is.1 in (
      (
        won.0,
        point_since means old mid new (Some c) won.0 pre seat a.same won.1,
        ap (λ (t : State). asked_reply means t last c) won.2 ∙ is.0,
      ),
      is.2,
    )
try_answered reused means tries old seen mid new base first last c (Ok tried.Same) a pre seat more number is err =
    (seen.log, subst (λ (m : Known). IsPoint means old m None seen.log) (sym is.1) a.point, is.0)
try_answered reused means tries old seen mid new base first last c (Ok tried.Lost) a pre seat more number is err =
    let own = is.0 ∙ a.same in
    let by = lost_to_others seen new base (prefix_trans seen.log mid.log new.log a.since more)
    (number ∙ seat ∙ sym a.seat) (own ∙ sym a.own) a.last is.1 in
    (own, omega (arith, by, a.before))
try_answered reused means tries old seen mid new base first last c
    (Err e) a pre seat more number is err = unmade reused means tries old seen mid new base first e (change_asked c)
    (λ (s : State). asked_reply means s last c) a refl err

-- THE LATER PART OF A CALL

refused_since : (means : Meanings) (tries : ℕ) (old mid new : Known) (mute : Bool) (e : Refusal)
    (change : Option Change) (right : State → Type 0) → IsPrefix old.log mid.log → mid.seat ≡ old.seat
    → own_moves mid ≡ own_moves old → others old ≤ others mid
    → IsRefused means tries mid new mute e change right → IsRefused means tries old new mute e change right
refused_since means tries old mid new true e change right pre seat same more is =
    (is.0 ∙ same, λ moved. omega (arith, is.1 moved, more))
refused_since means tries old mid new false e change right pre seat same more is =
    (is.0, point_since means old mid new change is.0 pre seat same is.1, is.2)
