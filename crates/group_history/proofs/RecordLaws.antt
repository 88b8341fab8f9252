-- The laws of the record.
use Rattle.std.proofs.Common.{◌≡◌, ◌⊎◌, inl, inr, ℕ, ◌+◌, ◌≤◌, ◌<◌, ◌^◌, Bool, true, false, true≢false, cond, List, []}
use Rattle.std.proofs.Common.{◌∷◌, ◌++◌, length, map, filter, fold, max, nat_eq, nat_lt, refl, sym, ap, ◌∙◌, subst}
use Rattle.std.proofs.Common.{arith, Result, Ok, Err, All}
use Rattle.std.proofs.lemmas.Bool.{ltb-false, ltb-true}
use Rattle.std.proofs.lemmas.List.Elements.{recursion_from_All, All-weaker, All-map, filter_passes}
use Rattle.std.proofs.lemmas.Slice.Eq.{bytes_eq-Decides}
use Rattle.std.specs.List.{AllByRecursion}
use Rattle.std.specs.List.Sorted.{IsStrictlySortedBy}
use Rattle.std.specs.Ordering.{nat_cmp, ordering_reverse}
use Rattle.std.specs.Cmp.{nat_cmp_total, nat_cmp_is}
use Rattle.std.proofs.lemmas.List.{append-nil, length-map}
use Rattle.std.proofs.Common.{length-append}
use Rattle.std.specs.declared.cmp.Ordering.{Ordering}
use Rattle.std.specs.declared.cmp.Ordering.TheVariants.{Less, Equal, Greater}
use Rattle.std.specs.Cmp.{IsTotalOrder}
use Rattle.group_history.specs.declared.changes.Change.{Change}
use Rattle.group_history.specs.declared.changes.Change.TheVariants.{Mutated, Pulled, Closed}
use Rattle.group_history.specs.declared.mutations.MutationFields.{MutationFields as Mutation}
use Rattle.group_history.specs.declared.responses.Ended.{Ended}
use Rattle.group_history.specs.declared.responses.Ended.TheVariants as ended
use Rattle.group_history.specs.declared.responses.Response.TheVariants as response
use Rattle.group_history.specs.declared.refusals.Refusal.{Refusal}
use Rattle.group_history.specs.declared.refusals.Refusal.TheVariants as refusal
use Rattle.group_history.specs.Map.{Bytes, Entries, same_text, patched}
use Rattle.group_history.specs.Meaning.{Meaning, Meanings, unknown, refuses, done, left_by, meaning_of}
use Rattle.group_history.specs.declared.responses.Response.{Response}
use Rattle.group_history.specs.Cookies.{Cookie, order_cmp}
use Rattle.group_history.specs.Orders.{order_cmp_total}
use Rattle.group_history.specs.Pull.{Pull}
use Rattle.group_history.specs.State.{State, Ids, opening, view_of, replayed, confirmed_id, ids_of, last_id, rebased}
use Rattle.group_history.specs.Mutating.{by_meaning, open_reply, after_mutate}
use Rattle.group_history.specs.Pulling.{by_order, end_at, open_end_reply, end_reply, says_nothing, goes_back}
use Rattle.group_history.specs.Pulling.{unconfirmed, left_pending, overwritten, after_pull, after_closing, left_unknown}
use Rattle.group_history.specs.Pulling.{left_by_end}
use Rattle.group_history.specs.Record.{IsAccepted, AllAccepted, IsLegal, after, after_all, after_change}
use Rattle.group_history.specs.Ids.{IdsFollow}
use Rattle.group_history.specs.Laws.{ids_made, orders_of, IsPart, nothing, kept, left_out, IsAmong, RecordLaws}
use Rattle.group_history.proofs.Replays.{replayed-append}
use Rattle.group_history.proofs.Records.{IsLegal-front}
use Rattle.group_history.proofs.IdLemmas.{ids_of-append, ids_of-left, overwritten-≥, after_mutate-IdsFollow}
use Rattle.group_history.proofs.IdLemmas.{after_pull-IdsFollow, last_id-≤, new_follows}

-- WHAT AN ACCEPTED CHANGE SAYS

abbrev is_applied : Result Ended Refusal → Bool
is_applied (Ok ended.Applied) = true
is_applied (Ok ended.Same) = false
is_applied (Err e) = false

abbrev is_made : Result ℕ Refusal → Bool
is_made (Ok id) = true
is_made (Err e) = false

abbrev id_or : ℕ → Result ℕ Refusal → ℕ
id_or n (Ok id) = id
id_or n (Err e) = n

other_end : (r : Result Ended Refusal) → is_applied r ≡ false → r ≡ Ok ended.Applied → ⊥
other_end r differs e = true≢false (sym (ap is_applied e) ∙ differs)

other_reply : (r : Result ℕ Refusal) (id : ℕ) → is_made r ≡ false → r ≡ Ok id → ⊥
other_reply r id differs e = true≢false (sym (ap is_made e) ∙ differs)

-- an applied pull's cookie is above the state's, and no change goes back
applied_by : (o : Ordering) (s : State) (r : Pull) → by_order o s r ≡ Ok ended.Applied
    → (o ≡ Greater) × (goes_back s.confirmed r.changes ≡ false)
applied_by Less s r e = absurd (other_end _ refl e)
applied_by Equal s r e =
    elim (says_nothing s.cookie r) as (λ b. cond b (Ok ended.Same) (Err refusal.CookieNotNew) ≡ Ok ended.Applied
    → (Equal ≡ Greater) × (goes_back s.confirmed r.changes ≡ false)) [
      | true ↦ λ d. absurd (other_end _ refl d)
      | false ↦ λ d. absurd (other_end _ refl d)
    ] e
applied_by Greater s r e = (
  refl,
  elim (goes_back s.confirmed r.changes) as
      (λ b. cond b (Err refusal.IdWentBack) (Ok ended.Applied) ≡ Ok ended.Applied → b ≡ false) [
        | true ↦ λ d. absurd (other_end _ refl d)
        | false ↦ λ d. refl
      ] e,
)

applied_at : (s : State) (ticket : Bytes) (r : Pull) → end_at s ticket r ≡ Ok ended.Applied
    → (order_cmp r.cookie.order s.cookie.order ≡ Greater) × (goes_back s.confirmed r.changes ≡ false)
applied_at s ticket r e =
    elim (same_text s.cookie.text ticket) as
    (λ b. cond b (by_order (order_cmp r.cookie.order s.cookie.order) s r) (Err refusal.Overtaken) ≡ Ok ended.Applied
    → (order_cmp r.cookie.order s.cookie.order ≡ Greater) × (goes_back s.confirmed r.changes ≡ false)) [
      | true ↦ λ d. applied_by _ s r d
      | false ↦ λ d. absurd (other_end _ refl d)
    ] e

applied : (s : State) (ticket : Bytes) (r : Pull) → end_reply s ticket (response.Ok r) ≡ Ok ended.Applied
    → (order_cmp r.cookie.order s.cookie.order ≡ Greater) × (goes_back s.confirmed r.changes ≡ false)
applied s ticket r e =
    elim s.closed as (λ b. cond b (Err refusal.Closed) (end_at s ticket r) ≡ Ok ended.Applied
    → (order_cmp r.cookie.order s.cookie.order ≡ Greater) × (goes_back s.confirmed r.changes ≡ false)) [
      | true ↦ λ d. absurd (other_end _ refl d)
      | false ↦ λ d. applied_at s ticket r d
    ] e

done_at : (m : Meaning) (v : Entries) (i j : ℕ) → by_meaning m i ≡ Ok j → (m ≡ done (left_by m v)) × (j ≡ i)
done_at unknown v i j e = absurd (other_reply _ j refl e)
done_at (refuses code) v i j e = absurd (other_reply _ j refl e)
done_at (done n) v i j e = (refl, sym (ap (id_or i) e))

abbrev IsDoneNext : Meanings → State → Mutation → Type 0
IsDoneNext means s x = (meaning_of means x (view_of means s)
    ≡ done (left_by (meaning_of means x (view_of means s)) (view_of means s))) × (x.id ≡ last_id s x.client + 1)

open_mutated : (means : Meanings) (s : State) (x : Mutation) → open_reply means s (last_id s x.client) x ≡ Ok x.id
    → IsDoneNext means s x
open_mutated means s x e =
    elim (nat_eq (last_id s x.client) (last_id s x.client)) as
    (λ b. cond b (by_meaning (meaning_of means x (view_of means s)) (last_id s x.client + 1)) (Err refusal.Stale)
    ≡ Ok x.id → IsDoneNext means s x) [
      | true ↦ λ d. done_at _ (view_of means s) _ x.id d
      | false ↦ λ d. absurd (other_reply _ x.id refl d)
    ] e

-- an accepted mutation is done at the view, and its id is the client's next one
mutated : (means : Meanings) (s : State) (x : Mutation) → IsAccepted means s (Mutated x) → IsDoneNext means s x
mutated means s x e =
    elim s.closed as (λ b. cond b (Err refusal.Closed) (open_reply means s (last_id s x.client) x) ≡ Ok x.id
    → IsDoneNext means s x) [
      | true ↦ λ d. absurd (other_reply _ x.id refl d)
      | false ↦ λ d. open_mutated means s x d
    ] e.0

mutated_view : (means : Meanings) (s : State) (x : Mutation) → IsAccepted means s (Mutated x)
    → meaning_of means x (view_of means s) ≡ done (view_of means (after_mutate s x))
mutated_view means s x e = (mutated means s x e).0 ∙ ap done (sym (replayed-append means s.pulled s.pending (x ∷ [])))

-- THE GREATEST OF SOME NUMBERS

fold_max-≥ : (n : ℕ) (xs : List ℕ) → n ≤ fold max n xs
fold_max-≥ n [] = omega arith
fold_max-≥ n (x ∷ xs) = omega (arith, fold_max-≥ (max n x) xs)

fold_max-push : (n : ℕ) (xs : List ℕ) (y : ℕ) → fold max n (xs ++ y ∷ []) ≡ max (fold max n xs) y
fold_max-push n [] y = refl
fold_max-push n (x ∷ xs) y = fold_max-push (max n x) xs y

-- leaving out what is not above k loses nothing where k counts
fold_max-filter : (k a b : ℕ) (xs : List ℕ) → a ≤ b → k ≤ b → fold max a xs ≤ fold max b (filter (λ i. nat_lt k i) xs)
fold_max-filter k a b [] h l = h
fold_max-filter k a b (x ∷ xs) h l =
    elim (nat_lt k x) as (λ c. nat_lt k x ≡ c
    → fold max (max a x) xs ≤ fold max b (cond c (x ∷ filter (λ i. nat_lt k i) xs) (filter (λ i. nat_lt k i) xs))) [
      | true ↦ λ e. fold_max-filter k (max a x) (max b x) xs (omega arith) (omega arith)
      | false ↦ λ e. fold_max-filter k (max a x) b xs (omega (arith, ltb-false k x e)) l
    ] refl

-- LAST IDS NEVER FALL

last_id-mutate : (s : State) (x : Mutation) (client : Bytes) → last_id s client ≤ last_id (after_mutate s x) client
last_id-mutate s x client =
    subst (λ is. last_id s client ≤ fold max (confirmed_id s.confirmed client) is)
    (sym (ids_of-append client s.pending (x ∷ [])))
    (elim (same_text x.client client) as (λ b. last_id s client
    ≤ fold max (confirmed_id s.confirmed client)
    (ids_of client s.pending ++ map (λ (m : Mutation). m.id) (cond b (x ∷ []) []))) [
      | true ↦ subst (λ n. last_id s client ≤ n) (sym (fold_max-push _ (ids_of client s.pending) x.id)) (omega arith)
      | false ↦ subst (λ is. last_id s client ≤ fold max (confirmed_id s.confirmed client) is)
          (sym (append-nil (ids_of client s.pending))) (omega arith)
    ])

last_id-made : (s : State) (x : Mutation) (client : Bytes) → same_text x.client client ≡ true
    → x.id ≤ last_id (after_mutate s x) client
last_id-made s x client same =
    subst (λ is. x.id ≤ fold max (confirmed_id s.confirmed client) is) (sym (ids_of-append client s.pending (x ∷ [])))
    (rw same (subst (λ n. x.id ≤ n) (sym (fold_max-push _ (ids_of client s.pending) x.id)) (omega arith)))

last_id-pull : (s : State) (r : Pull) (client : Bytes) → goes_back s.confirmed r.changes ≡ false
    → last_id s client ≤ last_id (after_pull s r) client
last_id-pull s r client forward =
    let ids : Ids = overwritten s.confirmed r.changes in
    let up : confirmed_id s.confirmed client
    ≤ confirmed_id ids client = overwritten-≥ s.confirmed r.changes forward s.confirmed (λ k. omega arith) client in
    subst (λ is. last_id s client ≤ fold max (confirmed_id ids client) is) (sym (ids_of-left ids client s.pending))
    (fold_max-filter (confirmed_id ids client) _ _ (ids_of client s.pending) up (omega arith))

-- WHAT RISES

module _ {K : Type 0} (R : K → K → Ordering) (total : IsTotalOrder R) where
  -- each is above the one before it, the first above n
  abbrev Rises : K → List K → Type 0
  Rises n [] = Unit {0}
  Rises n (x ∷ xs) = (R n x ≡ Less) × Rises x xs

  all_above : (m n : K) (xs : List K) → R m n ≡ Less → Rises n xs → AllByRecursion (λ y. R m y ≡ Less) xs
  all_above m n [] low rises = tt
  all_above m n (x ∷ xs) low rises =
      let next : R m x ≡ Less = total.trans m n x low rises.0 in
      (next, all_above m x xs next rises.1)

  sorted-Rises : (n : K) (xs : List K) → Rises n xs → IsStrictlySortedBy R (n ∷ xs)
  unfolding IsStrictlySortedBy
  sorted-Rises n [] rises = (tt, tt)
  sorted-Rises n (x ∷ xs) rises = ((rises.0, all_above n x xs rises.0 rises.1), sorted-Rises x xs rises.1)

-- from a number at most the client's last id on
ids_above : (means : Meanings) (s : State) (cs : List Change) → AllAccepted means s cs → (client : Bytes) (n : ℕ)
    → n ≤ last_id s client → Rises nat_cmp nat_cmp_total n (ids_made client cs)
ids_above means s [] all client n low = tt
ids_above means s (Mutated x ∷ cs) all client n low =
    elim (same_text x.client client) as (λ b. same_text x.client client ≡ b
    → Rises nat_cmp nat_cmp_total n (cond b (x.id ∷ ids_made client cs) (ids_made client cs))) [
      | true ↦ λ e.
          let is : x.id ≡ last_id s client + 1 = (mutated means s x all.0).1 ∙ ap (λ c. last_id s c + 1)
          ((bytes_eq-Decides x.client client).0 e) in (
            sym (nat_cmp_is n x.id Less (omega arith)),
            ids_above means (after_mutate s x) cs all.1 client x.id (last_id-made s x client e),
          )
      | false ↦ λ e. ids_above means (after_mutate s x) cs all.1 client n (omega (arith, last_id-mutate s x client))
    ] refl
ids_above means s (Pulled ticket r ∷ cs) all client n low =
    ids_above means (after_pull s r) cs all.1 client n
    (omega (arith, last_id-pull s r client (applied s ticket.text r all.0.0).1))
ids_above means s (Closed ∷ cs) all client n low = ids_above means (after_closing s) cs all.1 client n low

orders_above : (means : Meanings) (s : State) (cs : List Change) → AllAccepted means s cs
    → Rises order_cmp order_cmp_total s.cookie.order (orders_of cs)
orders_above means s [] all = tt
orders_above means s (Mutated x ∷ cs) all = orders_above means (after_mutate s x) cs all.1
orders_above means s (Pulled ticket r ∷ cs) all = (
  order_cmp_total.antisymm s.cookie.order r.cookie.order ∙ ap ordering_reverse (applied s ticket.text r all.0.0).0,
  orders_above means (after_pull s r) cs all.1,
)
orders_above means s (Closed ∷ cs) all = orders_above means (after_closing s) cs all.1

-- WHAT STAYS PENDING

filter-IsPart : {A B : Type 0} (f : A → B) (p : A → Bool) (xs : List A) → IsPart (map f (filter p xs)) (map f xs)
filter-IsPart f p [] = nothing
filter-IsPart f p (x ∷ xs) =
    elim (p x) as (λ b. IsPart (map f (cond b (x ∷ filter p xs) (filter p xs))) (f x ∷ map f xs)) [
      | true ↦ kept (f x) (map f (filter p xs)) (map f xs) (filter-IsPart f p xs)
      | false ↦ left_out (f x) (map f (filter p xs)) (map f xs) (filter-IsPart f p xs)
    ]

length-IsPart : {A : Type 0} (p : A → Bool) (xs : List A) → length (filter p xs) ≤ length xs
length-IsPart p [] = omega arith
length-IsPart {A} p (x ∷ xs) =
    elim (p x) as (λ b. length {A = A} (cond b (x ∷ filter p xs) (filter p xs)) ≤ length (x ∷ xs)) [
      | true ↦ omega (arith, length-IsPart p xs)
      | false ↦ omega (arith, length-IsPart p xs)
    ]

-- IDS FOLLOW, AND FIT

follow-all : (means : Meanings) (s : State) (cs : List Change) → AllAccepted means s cs
    → IdsFollow s.confirmed s.pending → IdsFollow (after_all s cs).confirmed (after_all s cs).pending
follow-all means s [] all ok = ok
follow-all means s (Mutated x ∷ cs) all ok =
    follow-all means (after_mutate s x) cs all.1
    (after_mutate-IdsFollow s.confirmed s.pending x ok (mutated means s x all.0).1)
follow-all means s (Pulled ticket r ∷ cs) all ok =
    follow-all means (after_pull s r) cs all.1
    (after_pull-IdsFollow s.confirmed r.changes s.pending ok (applied s ticket.text r all.0.0).1
    (recursion_from_All _ r.changes all.0.1))
follow-all means s (Closed ∷ cs) all ok = follow-all means (after_closing s) cs all.1 ok

opening_follows : IdsFollow opening.confirmed opening.pending
opening_follows = new_follows

length-pending : (s : State) (cs : List Change) → length (after_all s cs).pending ≤ length s.pending + length cs
length-pending s [] = omega arith
length-pending s (Mutated x ∷ cs) = omega
    (arith, length-pending (after_mutate s x) cs, length-append s.pending (x ∷ []))
length-pending s (Pulled ticket r ∷ cs) =
    let ids : Ids = overwritten s.confirmed r.changes in
    omega (
      arith,
      length-pending (after_pull s r) cs,
      length-map (unconfirmed ids s.pending) rebased,
      length-IsPart (λ (x : Mutation). nat_lt (confirmed_id ids x.client) x.id) s.pending,
    )
length-pending s (Closed ∷ cs) = omega (arith, length-pending (after_closing s) cs)

ids_fit : (means : Meanings) (cs : List Change) → IsLegal means cs → (client : Bytes)
    → last_id (after cs) client ≤ 2 ^ 52 + length cs
ids_fit means cs legal client =
    omega (
      arith,
      last_id-≤ (after cs).confirmed (after cs).pending client
          (follow-all means opening cs legal opening_follows),
      length-pending opening cs,
    )

still_unconfirmed : (ids : Ids) (xs : List Mutation) → All (λ x. confirmed_id ids x.client < x.id) (left_pending ids xs)
still_unconfirmed ids xs =
    let above : Mutation → Bool = λ x. nat_lt (confirmed_id ids x.client) x.id in
    All-map (λ (x : Mutation). confirmed_id ids x.client < x.id) rebased (unconfirmed ids xs)
    (All-weaker (λ x. above x ≡ true) (λ x. confirmed_id ids x.client < x.id)
    (λ x e. ltb-true (confirmed_id ids x.client) x.id e) (unconfirmed ids xs) (filter_passes above xs))

-- AGREEMENT

none_left : (ids : Ids) (xs : List Mutation) → AllByRecursion (λ x. x.id ≤ confirmed_id ids x.client) xs
    → left_pending ids xs ≡ []
none_left ids [] all = refl
none_left ids (x ∷ xs) all =
    elim (nat_lt (confirmed_id ids x.client) x.id) as
    (λ b. nat_lt (confirmed_id ids x.client) x.id ≡ b
    → map rebased (cond b (x ∷ unconfirmed ids xs) (unconfirmed ids xs)) ≡ []) [
      | true ↦ λ e. absurd (omega (arith, ltb-true (confirmed_id ids x.client) x.id e, all.0))
      | false ↦ λ e. none_left ids xs all.1
    ] refl

agreement : (means : Meanings) (s : State) (r : Pull)
    → All (λ x. x.id ≤ confirmed_id (overwritten s.confirmed r.changes) x.client) s.pending
    → ((after_pull s r).pending ≡ []) × (view_of means (after_pull s r) ≡ patched s.pulled r.patch)
agreement means s r all =
    let none = none_left (overwritten s.confirmed r.changes) s.pending (recursion_from_All _ s.pending all) in
    (none, ap (replayed means (patched s.pulled r.patch)) none)

-- NO WRITE IS LOST

abbrev IsKnown : Mutation → State → Type 0
IsKnown x s = IsAmong x s.pending ⊎ (x.id ≤ confirmed_id s.confirmed x.client)

among-left : (x : Mutation) (xs ys : List Mutation) → IsAmong x xs → IsAmong x (xs ++ ys)
among-left x [] ys h = absurd h
among-left x (z ∷ xs) ys h = elim h [ inl e ↦ inl e | inr r ↦ inr (among-left x xs ys r) ]

among-last : (x : Mutation) (xs : List Mutation) → IsAmong x (xs ++ x ∷ [])
among-last x [] = inl refl
among-last x (z ∷ xs) = inr (among-last x xs)

among-pull : (ids : Ids) (x : Mutation) (xs : List Mutation) → confirmed_id ids x.client < x.id → IsAmong x xs
    → IsAmong x (left_pending ids xs)
among-pull ids x [] above h = absurd h
among-pull ids x (z ∷ xs) above h =
    elim (nat_lt (confirmed_id ids z.client) z.id) as
    (λ b. nat_lt (confirmed_id ids z.client) z.id ≡ b
    → IsAmong x (map rebased (cond b (z ∷ unconfirmed ids xs) (unconfirmed ids xs)))) [
      | true ↦ λ e. elim h [ inl is ↦ inl is | inr r ↦ inr (among-pull ids x xs above r) ]
      | false ↦ λ e. elim h [
        | inl is ↦
            let client : z.client ≡ x.client = ap (λ (m : Mutation). m.client) is in
            let id : z.id ≡ x.id = ap (λ (m : Mutation). m.id) is in
            absurd (omega (
              arith,
              above,
              id,
              ltb-false (confirmed_id ids z.client) z.id e,
              ap (λ c. confirmed_id ids c) client,
            ))
        | inr r ↦ among-pull ids x xs above r
      ]
    ] refl

known-pull : (s : State) (x : Mutation) (r : Pull) → goes_back s.confirmed r.changes ≡ false → IsKnown x s
    → IsKnown x (after_pull s r)
known-pull s x r forward h =
    let ids : Ids = overwritten s.confirmed r.changes in
    let up : confirmed_id s.confirmed x.client
    ≤ confirmed_id ids x.client = overwritten-≥ s.confirmed r.changes forward s.confirmed
    (λ k. omega arith) x.client in
    elim h [
      | inl is ↦ elim (nat_lt (confirmed_id ids x.client) x.id) as
          (λ b. nat_lt (confirmed_id ids x.client) x.id ≡ b → IsKnown x (after_pull s r)) [
            | true ↦ λ e. inl (among-pull ids x s.pending (ltb-true (confirmed_id ids x.client) x.id e) is)
            | false ↦ λ e. inr (ltb-false (confirmed_id ids x.client) x.id e)
          ] refl
      | inr low ↦ inr (omega (arith, low, up))
    ]

known-all : (means : Meanings) (s : State) (x : Mutation) (cs : List Change) → AllAccepted means s cs → IsKnown x s
    → IsKnown x (after_all s cs)
known-all means s x [] all h = h
known-all means s x (Mutated y ∷ cs) all h =
    known-all means (after_mutate s y) x cs all.1
    (elim h [ inl is ↦ inl (among-left x s.pending (y ∷ []) is) | inr low ↦ inr low ])
known-all means s x (Pulled ticket r ∷ cs) all h = known-all means (after_pull s r) x cs all.1
    (known-pull s x r (applied s ticket.text r all.0.0).1 h)
known-all means s x (Closed ∷ cs) all h = known-all means (after_closing s) x cs all.1 h

-- TICKETS STAY GOOD

abbrev is_overtaken : Refusal → Bool
is_overtaken refusal.Overtaken = true
is_overtaken e = false

abbrev says_overtaken : Result Ended Refusal → Bool
says_overtaken (Ok e) = false
says_overtaken (Err e) = is_overtaken e

same_cookie : (s : State) (cs : List Change) → orders_of cs ≡ [] → (after_all s cs).cookie ≡ s.cookie
same_cookie s [] none = refl
same_cookie s (Mutated x ∷ cs) none = same_cookie (after_mutate s x) cs none
same_cookie s (Pulled ticket r ∷ cs) none = absurd cc
same_cookie s (Closed ∷ cs) none = same_cookie (after_closing s) cs none

by_order-good : (o : Ordering) (s : State) (r : Pull) → says_overtaken (by_order o s r) ≡ false
by_order-good Less s r = refl
by_order-good Equal s r = elim (says_nothing s.cookie r) as
    (λ b. says_overtaken (cond b (Ok ended.Same) (Err refusal.CookieNotNew)) ≡ false) [ true ↦ refl | false ↦ refl ]
by_order-good Greater s r = elim (goes_back s.confirmed r.changes) as
    (λ b. says_overtaken (cond b (Err refusal.IdWentBack) (Ok ended.Applied)) ≡ false) [ true ↦ refl | false ↦ refl ]

open_end-good : (s : State) (ticket : Bytes) (r : Response) → ticket ≡ s.cookie.text
    → says_overtaken (open_end_reply s ticket r) ≡ false
open_end-good s ticket (response.Ok r) is =
    rw ((bytes_eq-Decides s.cookie.text ticket).1 (sym is))
    (by_order-good (order_cmp r.cookie.order s.cookie.order) s r)
open_end-good s ticket response.StateNotFound is = refl
open_end-good s ticket (response.VersionNotSupported kind) is = refl

end-good : (s : State) (ticket : Bytes) (r : Response) → ticket ≡ s.cookie.text
    → says_overtaken (end_reply s ticket r) ≡ false
end-good s ticket r is =
    elim s.closed as (λ b. says_overtaken (cond b (Err refusal.Closed) (open_end_reply s ticket r)) ≡ false)
    [ true ↦ refl | false ↦ open_end-good s ticket r is ]

ticket_good : (s : State) (cs : List Change) (r : Response) → orders_of cs ≡ []
    → end_reply (after_all s cs) s.cookie.text r ≡ Err refusal.Overtaken → ⊥
ticket_good s cs r none e =
    true≢false (sym (ap says_overtaken e) ∙ end-good (after_all s cs) s.cookie.text r
    (sym (ap (λ (c : Cookie). c.text) (same_cookie s cs none))))

-- CLOSED FOR GOOD

closed_reply : (s : State) (ticket : Bytes) (r : Response) → s.closed ≡ true → end_reply s ticket r ≡ Err refusal.Closed
closed_reply s ticket r closed = ap (λ b. cond b (Err refusal.Closed) (open_end_reply s ticket r)) closed

closing_reply : (s : State) (ticket : Bytes) → s.closed ≡ false
    → end_reply s ticket response.StateNotFound ≡ Err refusal.StateNotFound
closing_reply s ticket is_open = ap (λ b. cond b (Err refusal.Closed)
    (open_end_reply s ticket response.StateNotFound)) is_open

closed_final : (means : Meanings) (s : State) (c : Change) → s.closed ≡ true → IsAccepted means s c → ⊥
closed_final means s (Mutated x) closed is =
    other_reply _ x.id refl (sym (ap (λ b. cond b (Err refusal.Closed)
    (open_reply means s (last_id s x.client) x)) closed) ∙ is.0)
closed_final means s (Pulled ticket r) closed is = other_end _ refl
    (sym (closed_reply s ticket.text (response.Ok r) closed) ∙ is.0)
closed_final means s Closed closed is = true≢false (sym closed ∙ is)

closing_last : (means : Meanings) (s : State) (cs ds : List Change) → AllAccepted means s (cs ++ Closed ∷ ds) → ds ≡ []
closing_last means s [] [] all = refl
closing_last means s [] (d ∷ ds) all = absurd (closed_final means (after_closing s) d refl all.1.0)
closing_last means s (c ∷ cs) ds all = closing_last means (after_change s c) cs ds all.1

same_end : (s : State) (r : Response) → left_by_end (Ok ended.Same) s r ≡ s
same_end s (response.Ok r) = refl
same_end s response.StateNotFound = refl
same_end s (response.VersionNotSupported kind) = refl

left_otherwise : (s : State) (e : Refusal) → (e ≡ refusal.StateNotFound → ⊥) → left_unknown (Err e) s ≡ s
left_otherwise s refusal.StateNotFound other = absurd (other refl)
left_otherwise s e other = refl

refused_end : (s : State) (r : Response) (e : Refusal) → (e ≡ refusal.StateNotFound → ⊥) → left_by_end (Err e) s r ≡ s
refused_end s (response.Ok r) e other = refl
refused_end s (response.VersionNotSupported kind) e other = refl
refused_end s response.StateNotFound e other = left_otherwise s e other

pub record_laws_hold : (means : Meanings) → RecordLaws means
record_laws_hold means = record {
  ids_rise = λ s cs all client. sorted-Rises nat_cmp nat_cmp_total (last_id s client) (ids_made client cs)
      (ids_above means s cs all client (last_id s client) (omega arith));
  last_above_confirmed = λ s client. fold_max-≥ (confirmed_id s.confirmed client) (ids_of client s.pending);
  cookies_rise = λ s cs all. sorted-Rises order_cmp order_cmp_total s.cookie.order (orders_of cs)
      (orders_above means s cs all);
  mutated_view = mutated_view means;
  refused_mutation = λ s x e. refl;
  refused_end = refused_end;
  same_end = same_end;
  still_unconfirmed = λ s r. still_unconfirmed (overwritten s.confirmed r.changes) s.pending;
  kept_in_order = λ s r. filter-IsPart rebased _ s.pending;
  beginning_legal = λ cs ds legal. IsLegal-front means opening cs ds legal;
  ids_follow = λ cs legal. follow-all means opening cs legal opening_follows;
  ids_fit = ids_fit means;
  agreement = agreement means;
  no_lost_write = λ s x cs made all. known-all means (after_mutate s x) x cs all (inl (among-last x s.pending));
  ticket_good = ticket_good;
  closing_reply = closing_reply;
  closed_reply = closed_reply;
  closed_final = closed_final means;
  closing_last = λ cs ds legal. closing_last means opening cs ds legal;
  closing_shows = λ s. (refl, refl, refl, λ client. refl);
}
