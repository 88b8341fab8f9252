-- States after a mutation, and after a pull.
use Rattle.std.proofs.Common.{◌≡◌, ℕ, ◌+◌, ◌<◌, true, false, List, [], ◌∷◌, ◌++◌, map, take, get_or, length, reverse}
use Rattle.std.proofs.Common.{Some, sym, ap, ◌∙◌, append_assoc}
use Rattle.std.specs.FinMap.{insert}
use Rattle.std.proofs.lemmas.List.{reverse-append, reverse-reverse, take_more}
use Rattle.group_history.specs.declared.responses.Confirmed.{Confirmed}
use Rattle.group_history.specs.declared.responses.Patch.{Patch}
use Rattle.group_history.specs.declared.mutations.MutationFields.{MutationFields as Mutation}
use Rattle.group_history.specs.Cookies.{Cookie}
use Rattle.group_history.specs.Map.{Bytes, patched}
use Rattle.group_history.specs.Pull.{Pull}
use Rattle.group_history.specs.Pulling.{overwritten, left_pending, after_pull}
use Rattle.group_history.specs.Meaning.{Meanings}
use Rattle.group_history.specs.Mutating.{after_mutate}
use Rattle.group_history.specs.Spelling.{last_ids, said_id, tells_right}
use Rattle.group_history.specs.State.{State, state, Ids, pulled_state, view_of, replayed_once}
use Rattle.group_history.proofs.Replays.{replayed-append}
use Rattle.group_history.proofs.Telling.{insert_twice, overwritten-append, same_ids-Decides}
use Rattle.change_drafts.specs.Pending.{with_more}

-- a view with one mutation more
pub view-mutated : (means : Meanings) (s : State) (x : Mutation)
    → view_of means (after_mutate s x) ≡ replayed_once means (view_of means s) x
view-mutated means s x = replayed-append means s.pulled s.pending (x ∷ [])

-- one of the pending mutations more
pub with_next : (s : State) (xs : List Mutation) (k : ℕ) (x : Mutation) → k < length xs → x ≡ get_or xs k x
    → after_mutate (with_more s (take k xs)) x ≡ with_more s (take (k + 1) xs)
with_next s xs k x low is =
    let all : (s.pending ++ take k xs) ++ x ∷ [] ≡ s.pending ++ take (k + 1) xs =
    append_assoc s.pending (take k xs) (x ∷ []) ∙ ap (λ w. s.pending ++ w)
    (ap (λ (y : Mutation). take k xs ++ y ∷ []) is ∙ sym (take_more xs k x low)) in
    ap (λ (w : List Mutation). state s.pulled s.cookie s.confirmed w s.closed) all

-- the state after a pull of an open group, by its parts
pub pull_parts : (s : State) (r : Pull) (cookie : Cookie) (ids old : Ids) (ops : List Patch) (changes : List Confirmed)
    (ps before : List Mutation)
    → ops ≡ r.patch → cookie ≡ r.cookie → ids ≡ overwritten old changes → changes ≡ r.changes → s.confirmed ≡ old
    → ps ≡ left_pending ids before → before ≡ s.pending → s.closed ≡ false
    → with_more (pulled_state (patched s.pulled ops) cookie ids) ps ≡ after_pull s r
pull_parts s r cookie ids old ops changes ps before p c i h o n b is_open =
    let is : ids ≡ overwritten s.confirmed r.changes = i ∙
    (ap (overwritten old) h ∙ ap (λ (w : Ids). overwritten w r.changes) (sym o)) in
    let left : ps ≡ left_pending (overwritten s.confirmed r.changes) s.pending = n ∙
    (ap (λ (w : Ids). left_pending w before) is ∙ ap (left_pending (overwritten s.confirmed r.changes)) b) in
    λ j. state (patched s.pulled (p j)) (c j) (is j) (left j) (sym is_open j)

-- a mutation before another of its client is passed over
pub said_later : (ids : Ids) (said : List Confirmed) (x y : Mutation) (xs : List Mutation) → y.client ≡ x.client
    → overwritten ids (said ++ map said_id (y ∷ xs)) ≡ overwritten ids (said ++ map said_id (x ∷ y ∷ xs))
said_later ids said x y xs same =
    let now = overwritten ids said in
    let once : insert (insert now x.client x.id) y.client y.id ≡ insert now y.client y.id =
    ap (λ (c : Bytes). insert (insert now c x.id) y.client y.id) (sym same) ∙ insert_twice now y.client x.id y.id in
    overwritten-append ids said (map said_id (y ∷ xs))
    ∙ ap (λ (w : Ids). overwritten w (map said_id xs)) (sym once)
    ∙ sym (overwritten-append ids said (map said_id (x ∷ y ∷ xs)))

-- two lists are one, if they are with one element more
init_same : (xs ys : List Mutation) (x y : Mutation) → xs ++ x ∷ [] ≡ ys ++ y ∷ [] → xs ≡ ys
init_same xs ys x y e =
    let turned : x ∷ reverse xs ≡ y ∷ reverse ys = sym (reverse-append xs (x ∷ [])) ∙ ap reverse e
    ∙ reverse-append ys (y ∷ []) in
    let same : reverse xs ≡ reverse ys = cc turned in
    sym (reverse-reverse xs) ∙ ap reverse same ∙ reverse-reverse ys

-- with nothing else pending, each client's last id before the last of the mutations
pub told_before : (s : State) (ids confirmed : Ids) (before there : List Mutation) (last newest : Mutation)
    → s.confirmed ≡ confirmed → s.pending ≡ [] → before ++ last ∷ [] ≡ there ++ newest ∷ []
    → ids ≡ overwritten confirmed (map said_id there) → tells_right (Some ids) (with_more s before) ≡ true
told_before s ids confirmed before there last newest at bare same is =
    let all : s.pending ++ before ≡ there = ap (λ (w : List Mutation). w ++ before) bare
    ∙ init_same before there last newest same in
    (same_ids-Decides ids (last_ids (with_more s before))).1 (is
    ∙ ap (λ (w : List Mutation). overwritten confirmed (map said_id w)) (sym all)
    ∙ ap (λ (w : Ids). overwritten w (map said_id (s.pending ++ before))) (sym at))
