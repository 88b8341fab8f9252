-- Runs that a change asks for, and what they leave.
use Rattle.std.proofs.Common.{◌≡◌, ◌⊎◌, inl, inr, ℕ, Bool, true, false, List, [], ◌∷◌, ◌++◌, Option, Some, IsSome}
use Rattle.std.proofs.Common.{Result, Ok, Err, refl, reverse, sym, ap, subst, ◌∙◌}
use Rattle.map_chunks.specs.Drafts.{AreNeeded}
use Rattle.std.proofs.Common.{append-nil, append_assoc, length}
use Rattle.group_history.proofs.Replays.{replayed-append}
use Rattle.std.specs.Prelude.{IfOk, if◌then◌else◌}
use Rattle.group_history.specs.declared.changes.Change.{Change}
use Rattle.group_history.specs.declared.changes.Change.TheVariants.{Mutated, Pulled}
use Rattle.group_history.specs.declared.mutations.MutationFields.{MutationFields as Mutation}
use Rattle.group_history.specs.declared.mutators.Ran.{Ran}
use Rattle.group_history.specs.declared.mutators.Ran.TheVariants as ran
use Rattle.group_history.specs.declared.refs.Ref.{Ref}
use Rattle.group_history.specs.declared.refusals.Refusal.{Refusal}
use Rattle.group_history.specs.declared.refusals.Refusal.TheVariants as refusal
use Rattle.group_history.specs.declared.responses.Response.TheVariants as response
use Rattle.group_history.specs.Cookies.{Cookie}
use Rattle.group_history.specs.Map.{Bytes, Entries}
use Rattle.group_history.specs.Meaning.{Meaning, Meanings, done, left_by, meaning_of, refuses, unknown}
use Rattle.group_history.specs.Mutating.{by_meaning, map_if_done, mutate_reply}
use Rattle.group_history.specs.Pull.{Pull}
use Rattle.group_history.specs.Pulling.{after_pull, end_at, end_reply}
use Rattle.group_history.specs.Ran.{RunsAs}
use Rattle.group_history.specs.Spelling.{Contents}
use Rattle.group_history.specs.State.{State, replayed, view_of}
use Rattle.transactions.specs.Maps.{map_or}
use Rattle.transactions.proofs.WriteLemmas.{some_map}
use Rattle.map_tree.specs.Trees.{tree_map}
use Rattle.linearized.specs.Changes.{change_made}
use Rattle.linearized.specs.Trying.{IsUnproposed}
use Rattle.change_drafts.specs.Chaining.{IsTip}
use Rattle.change_drafts.specs.Pending.{with_more}
use Rattle.change_drafts.specs.Running.{HasRun, map_now, map_then}
use Rattle.change_drafts.specs.Undoing.{undone}
use Rattle.change_drafts.specs.declared.asked.RunMap.{RunMap}
use Rattle.map_tree.specs.declared.tree.Tree.{Tree}
use Rattle.change_tries.specs.Missing.{IsStop}
use Rattle.change_drafts.proofs.RunLemmas.{Refuses-is, reply-refused}
use Rattle.change_tries.specs.Proposing.{asked_reply, change_asked, kind_left}
use Rattle.change_tries.proofs.Drafting.{refused_for, told_unproposed}
use Rattle.change_tries.proofs.Making.{reply_next}
use Rattle.change_tries.specs.Runs.{AsksNew, HasMap, IsAskedRun, IsBehind, IsFirstStep, IsFresh, IsNewMutation}
use Rattle.change_tries.specs.Runs.{IsNewRun, IsNext, IsOn, IsOnLeft, IsRunOf, Leads, MayStep, NeedsNoRun}
use Rattle.change_tries.specs.Runs.{with_draft, map_by, run_map, run_start}
use Rattle.change_tries.specs.declared.runs.Chain.{Chain}
use Rattle.change_tries.specs.declared.runs.NextStep.{NextStep}
use Rattle.change_tries.specs.declared.runs.NextStep.TheVariants as step
use Rattle.change_tries.specs.declared.runs.AskedRun.{AskedRun}

-- it ran as the caller says
pub has_run : (means : Meanings) (cs : Contents) (run : AskedRun) (ran : Ran) → HasMap cs run → IsRunOf means cs run ran
    → HasRun (with_draft cs run.chain) (meaning_of means run.mutation (run_start cs run))
    (record { ran = ran; tree = run.map.tree })
has_run means cs run ran some is =
    (run_map cs run, some_map (tree_map (with_draft cs run.chain) run.map.tree) some, is)

-- some of the mutations that are left were run
pub leads_on : (means : Meanings) (cs : Contents) (after : State) (chain : Chain) (ran own behind rest : List Mutation)
    (map : Entries) → own ++ rest ≡ behind → Leads means cs after chain ran behind map
    → Leads means cs after chain (ran ++ own) rest (replayed means map own)
leads_on means cs after chain ran own behind rest map order l = record {
  first = l.first;
  needed = l.needed;
  basis = l.basis;
  tip = l.tip;
  opened = l.opened;
  mapped = ap (λ (m : Entries). replayed means m own) l.mapped
      ∙ sym (replayed-append means (view_of means l.basis) ran own);
  whole = ap (with_more l.basis) (append_assoc ran own rest ∙ ap (λ (w : List Mutation). ran ++ w) order) ∙ l.whole;
  bare = λ none. l.bare (sym (append_assoc ran own rest ∙ ap (λ (w : List Mutation). ran ++ w) order) ∙ none);
}

-- none was run, and these are left
pub leads_begun : (means : Meanings) (cs : Contents) (after : State) (chain : Chain) (s : State)
    (ran behind : List Mutation)
    → length cs ≡ chain.draft.first → AreNeeded chain.draft.first chain.draft.nodes (chain.tip.commit ∷ [])
    → IsTip means (with_draft cs chain) chain.tip s → s.closed ≡ false → s.pending ≡ [] → ran ≡ []
    → with_more s behind ≡ after → Leads means cs after chain ran behind (view_of means s)
leads_begun means cs after chain s ran behind first needed tip opened bare none whole = record {
  first = first;
  needed = needed;
  basis = s;
  tip = tip;
  opened = opened;
  mapped = ap (replayed means (view_of means s)) (sym none);
  whole = ap (λ (ys : List Mutation). with_more s (ys ++ behind)) none ∙ whole;
  bare = λ empty. bare;
}

-- all were run
pub leads_ended : (means : Meanings) (cs : Contents) (after : State) (chain : Chain) (s : State) (ran : List Mutation)
    → length cs ≡ chain.draft.first → AreNeeded chain.draft.first chain.draft.nodes (chain.tip.commit ∷ [])
    → IsTip means (with_draft cs chain) chain.tip s → s.closed ≡ false → s.pending ≡ []
    → with_more s ran ≡ after → Leads means cs after chain ran [] (replayed means (view_of means s) ran)
leads_ended means cs after chain s ran first needed tip opened bare whole = record {
  first = first;
  needed = needed;
  basis = s;
  tip = tip;
  opened = opened;
  mapped = refl;
  whole = ap (with_more s) (append-nil ran) ∙ whole;
  bare = λ empty. bare;
}

-- where all were run, the slots are those of what is pending
pub kind_all : (before ran : List Mutation) → (ran ≡ [] → before ≡ []) → kind_left ran ≡ kind_left (before ++ ran)
kind_all before [] none = ap (λ (w : List Mutation). kind_left (w ++ [])) (sym (none refl))
kind_all [] (x ∷ xs) none = refl
kind_all (y ∷ ys) (x ∷ xs) none = refl

-- a run that begins has written nothing
pub begun : (contents : Contents) (map : RunMap) (tree : Tree) (m : Entries) → map.tree ≡ tree → map.before.items ≡ []
    → tree_map contents tree ≡ Some m
    → IsSome (tree_map contents map.tree) × (map_now contents map ≡ m) × (map_then contents map ≡ m)
begun contents map tree m same none is =
    let here : tree_map contents map.tree ≡ Some m = ap (tree_map contents) same ∙ is in (
      subst (λ o. IsSome o) (sym here) refl,
      ap map_or here,
      ap (λ notes. undone notes (map_now contents map)) none ∙ ap map_or here,
    )

-- the run of a new mutation whose mutator the group lacks
pub asked_new : (has : Bytes → Bool) (means : Meanings) (cs : Contents) (s : State) (last : ℕ) (x : Mutation)
    (chain : Chain) (tree : Tree) (run : AskedRun) → IsNewMutation means cs s last x chain → has x.name ≡ false
    → tree_map (with_draft cs chain) tree ≡ Some (view_of means s) → IsNewRun chain x tree run
    → IsAskedRun means cs s last (Mutated x) run × IsFresh has cs run
asked_new has means cs s last x chain tree run new lacks here is =
    let m = view_of means s in let rest = run.behind.items in
    let n : IsNewMutation means cs s last x run.chain =
    subst (λ (w : Chain). IsNewMutation means cs s last x w) (sym is.0) new in
    let b = begun (with_draft cs run.chain) run.map tree m is.3 is.4
    (ap (λ (w : Chain). tree_map (with_draft cs w) tree) is.0 ∙ here) in (
      record {
        leads = record {
          first = n.first;
          needed = n.needed;
          basis = s;
          tip = n.tip;
          opened = n.next.opened;
          mapped = b.2 ∙ ap (replayed means m) (sym is.1);
          whole = ap (λ (ys : List Mutation). with_more s (ys ++ run.mutation ∷ reverse rest)) is.1
              ∙ ap (λ (y : Mutation). with_more s (y ∷ reverse rest)) is.2
              ∙ ap (λ (ys : List Mutation). with_more s (x ∷ reverse ys)) is.5;
          bare = λ none. absurd (cc (ap (λ (ys : List Mutation). ys ++ run.mutation ∷ reverse rest) (sym is.1)
              ∙ none));
        };
        map = b.0;
        judged = (is.2, is.5, n.next, n.tip, b.2);
      },
      (b.1 ∙ sym b.2, ap (λ (y : Mutation). has y.name) is.2 ∙ lacks),
    )

-- and that it is asked for is what is next
pub step_new : (has : Bytes → Bool) (means : Meanings) (cs : Contents) (base : Ref) (s : State) (last : ℕ)
    (x : Mutation) (chain : Chain) (tree : Tree) (next : NextStep) → IsNewMutation means cs s last x chain
    → has x.name ≡ false → tree_map (with_draft cs chain) tree ≡ Some (view_of means s) → AsksNew chain x tree next
    → MayStep has means cs base s last (Mutated x) next
step_new has means cs base s last x chain tree (step.Run run) new lacks here asks =
    asked_new has means cs s last x chain tree run new lacks here asks
step_new has means cs base s last x chain tree (step.Move p) new lacks here asks = absurd asks
step_new has means cs base s last x chain tree step.Same new lacks here asks = absurd asks

-- and then nothing is proposed
pub want_unproposed : {X : Type 0} (reused : Type 0) (change : Result X Refusal → Option Change)
    (right : Result X Refusal)
    (e : Refusal) → (e ≡ refusal.NoMemory) ⊎ (e ≡ refusal.Stamps) → IsUnproposed (IsStop reused) change right e
want_unproposed reused change right e (inl none) = (inl (inr (inl none)), λ moved. cc (sym none ∙ moved))
want_unproposed reused change right e (inr none) = (inl (inl none), λ moved. cc (sym none ∙ moved))

-- a pull that is ended at an open group
pub ended_open : (s : State) (ticket : Bytes) (r : Pull) → s.closed ≡ false
    → end_reply s ticket (response.Ok r) ≡ end_at s ticket r
ended_open s ticket r is = ap (λ (b : Bool). if b then Err refusal.Closed else end_at s ticket r) is

-- a new mutation whose mutator isn't done is refused
pub refused_next : (reused : Type 0) (means : Meanings) (s : State) (last : ℕ) (x : Mutation) (meaning : Meaning)
    (e : Refusal)
    → IsNext s last x → meaning ≡ meaning_of means x (view_of means s) → map_if_done meaning ≡ Err e
    → IsUnproposed (IsStop reused) (change_asked (Mutated x)) (asked_reply means s last (Mutated x)) e
refused_next reused means s last x meaning e j same refused =
    let right = meaning_of means x (view_of means s) in
    let is = reply-refused right e x.id (subst (λ (w : Meaning). map_if_done w ≡ Err e) same refused) in
    told_unproposed (IsStop reused) (λ (id : ℕ). true) (change_made x) (change_asked (Mutated x))
    (mutate_reply means s last x) e
    refl (subst (λ (r : Result ℕ Refusal). IsUnproposed (IsStop reused) (change_made x) r e)
    (sym (reply_next means s x last j.opened j.own j.next))
    (refused_for reused right x.id x e (inr (inr (Refuses-is e (by_meaning right x.id) is)))))

-- WHAT FOLLOWS ON A RUN

-- what a meaning leaves, by how the run ended
pub left_is : (meaning : Meaning) (ran : Ran) (left m : Entries) → RunsAs meaning ran left
    → left_by meaning m ≡ map_by ran left m
left_is unknown ran.Unknown left m is = refl
left_is (refuses code) (ran.Refused c) left m is = refl
left_is (done n) ran.Done left m is = sym is
left_is unknown ran.Done left m is = absurd is
left_is unknown (ran.Refused c) left m is = absurd is
left_is (refuses code) ran.Done left m is = absurd is
left_is (refuses code) ran.Unknown left m is = absurd is
left_is (done n) ran.Unknown left m is = absurd is
left_is (done n) (ran.Refused c) left m is = absurd is

-- what is next of the mutations behind a run is behind it
pub behind_on : (has : Bytes → Bool) (means : Meanings) (cs : Contents) (run : AskedRun) (ran : Ran) (next : NextStep)
    → IsOn has means cs (reverse run.behind.items) (map_by ran (run_map cs run) (run_start cs run)) next
    → IsBehind has means cs run ran next
behind_on has means cs run ran (step.Run r) on = on
behind_on has means cs run ran (step.Move p) on = tt
behind_on has means cs run ran step.Same on = tt

-- what asks for no run is behind any
pub behind_none_asked : (has : Bytes → Bool) (means : Meanings) (cs : Contents) (run : AskedRun) (ran : Ran)
    (next : NextStep)
    → NeedsNoRun next → IsBehind has means cs run ran next
behind_none_asked has means cs run ran (step.Run r) none = absurd none
behind_none_asked has means cs run ran (step.Move p) none = tt
behind_none_asked has means cs run ran step.Same none = tt

-- what is next of mutations is one of these
pub left_on : (has : Bytes → Bool) (means : Meanings) (cs : Contents) (left : List Mutation) (map : Entries)
    (next : NextStep)
    → IsOn has means cs left map next → IsOnLeft has left next
left_on has means cs left map (step.Run r) on = (on.own, on.had, on.order)
left_on has means cs left map (step.Move p) on = tt
left_on has means cs left map step.Same on = tt

pub left_none : (has : Bytes → Bool) (left : List Mutation) (next : NextStep) → NeedsNoRun next → IsOnLeft has left next
left_none has left (step.Run r) none = absurd none
left_none has left (step.Move p) none = tt
left_none has left step.Same none = tt

pub on_none : (has : Bytes → Bool) (means : Meanings) (cs : Contents) (left : List Mutation) (map : Entries)
    (next : NextStep)
    → NeedsNoRun next → IsOn has means cs left map next
on_none has means cs left map (step.Run r) none = absurd none
on_none has means cs left map (step.Move p) none = tt
on_none has means cs left map step.Same none = tt

-- what is next first is of all that is left
pub first_on : (has : Bytes → Bool) (s : State) (ticket : Cookie) (r : Pull) (left : List Mutation) (next : NextStep)
    → IsOnLeft has left next → left ≡ (after_pull s r).pending → IsFirstStep has s (Pulled ticket r) next
first_on has s ticket r left (step.Run run) on all = (on.0, on.1, on.2 ∙ all)
first_on has s ticket r left (step.Move p) on all = tt
first_on has s ticket r left step.Same on all = tt

-- of a mutation any run is the first one
pub first_mutated : {E : Type 0} (has : Bytes → Bool) (s : State) (x : Mutation) (r : Result NextStep E)
    → IfOk r (IsFirstStep has s (Mutated x))
first_mutated has s x (Ok (step.Run run)) = tt
first_mutated has s x (Ok (step.Move p)) = tt
first_mutated has s x (Ok step.Same) = tt
first_mutated has s x (Err e) = tt

pub behind_of_on : {E : Type 0} (has : Bytes → Bool) (means : Meanings) (cs : Contents) (run : AskedRun) (ran : Ran)
    (r : Result NextStep E)
    → IfOk r (IsOn has means cs (reverse run.behind.items) (map_by ran (run_map cs run) (run_start cs run)))
    → IfOk r (IsBehind has means cs run ran)
behind_of_on has means cs run ran (Ok next) on = behind_on has means cs run ran next on
behind_of_on has means cs run ran (Err e) on = tt

pub behind_ended : {E : Type 0} (has : Bytes → Bool) (means : Meanings) (cs : Contents) (run : AskedRun) (ran : Ran)
    (r : Result NextStep E) → IfOk r NeedsNoRun → IfOk r (IsBehind has means cs run ran)
behind_ended has means cs run ran (Ok next) none = behind_none_asked has means cs run ran next none
behind_ended has means cs run ran (Err e) none = tt

pub first_of_left : {E : Type 0} (has : Bytes → Bool) (s : State) (ticket : Cookie) (r : Pull) (left : List Mutation)
    (w : Result NextStep E) → IfOk w (IsOnLeft has left) → left ≡ (after_pull s r).pending
    → IfOk w (IsFirstStep has s (Pulled ticket r))
first_of_left has s ticket r left (Ok next) on all = first_on has s ticket r left next on all
first_of_left has s ticket r left (Err e) on all = tt

pub on_ended : {E : Type 0} (has : Bytes → Bool) (means : Meanings) (cs : Contents) (left : List Mutation)
    (map : Entries)
    (r : Result NextStep E) → IfOk r NeedsNoRun → IfOk r (IsOn has means cs left map)
on_ended has means cs left map (Ok next) none = on_none has means cs left map next none
on_ended has means cs left map (Err e) none = tt

pub left_ended : {E : Type 0} (has : Bytes → Bool) (left : List Mutation) (r : Result NextStep E) → IfOk r NeedsNoRun
    → IfOk r (IsOnLeft has left)
left_ended has left (Ok next) none = left_none has left next none
left_ended has left (Err e) none = tt

pub left_of_on : {E : Type 0} (has : Bytes → Bool) (means : Meanings) (cs : Contents) (left : List Mutation)
    (map : Entries)
    (r : Result NextStep E) → IfOk r (IsOn has means cs left map) → IfOk r (IsOnLeft has left)
left_of_on has means cs left map (Ok next) on = left_on has means cs left map next on
left_of_on has means cs left map (Err e) on = tt
