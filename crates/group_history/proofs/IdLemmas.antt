-- What each change keeps of the ids.
use Rattle.std.proofs.Common.{◌≡◌, ℕ, ◌+◌, ◌≤◌, ◌^◌, ◌||◌, Bool, true, false, cond, List, [], ◌∷◌, ◌++◌, length, map}
use Rattle.std.proofs.Common.{filter, fold, max, nat_lt, unwrap_or, refl, sym, ap, ◌∙◌, subst, arith, Some, append-nil}
use Rattle.std.proofs.Common.{All}
use Rattle.std.proofs.lemmas.List.Elements.{recursion_from_All}
use Rattle.std.specs.List.{AllByRecursion}
use Rattle.std.specs.Ordering.{nat_cmp, is_eq}
use Rattle.std.specs.declared.cmp.Ordering.TheVariants.{Less, Equal, Greater}
use Rattle.std.specs.Cmp.Lexicographic.{slice_cmp, nat_list_cmp_total}
use Rattle.std.specs.FinMap as finite
use Rattle.std.proofs.lemmas.Slice.Eq.{bytes_eq-Decides}
use Rattle.std.proofs.lemmas.Bool.{ltb-false, ltb-true, lt-ltb}
use Rattle.group_history.specs.declared.mutations.MutationFields.{MutationFields as Mutation}
use Rattle.group_history.specs.declared.responses.Confirmed.{Confirmed}
use Rattle.group_history.specs.Map.{Bytes, Entries, same_text}
use Rattle.group_history.specs.Meaning.{Meanings}
use Rattle.group_history.specs.State.{Ids, confirmed_id, ids_of, replayed, rebased}
use Rattle.group_history.specs.Pulling.{overwritten, unconfirmed, left_pending, goes_back}
use Rattle.group_history.specs.Ids.{AreConsecutive, IdsFollow}
use Rattle.group_history.specs.Inside.Plain.{IsSound}

-- the greatest of n and the numbers that follow it
pub greatest-AreConsecutive : (n : ℕ) (xs : List ℕ) → AreConsecutive n xs → fold max n xs ≡ n + length xs
greatest-AreConsecutive n [] f = omega arith
greatest-AreConsecutive n (x ∷ xs) f =
    let next : max n x ≡ n + 1 = omega (arith, f.0) in
    ap (λ k. fold max k xs) next ∙ greatest-AreConsecutive (n + 1) xs f.1 ∙ omega arith

length-ids_of : (client : Bytes) (xs : List Mutation) → length (ids_of client xs) ≤ length xs
length-ids_of client [] = omega arith
length-ids_of client (x ∷ xs) =
    let rest : length (ids_of client xs) ≤ length xs = length-ids_of client xs in
    let S : Mutation → Bool = λ m. same_text m.client client in
    elim (same_text x.client client) as (λ b. length
    (map (λ (m : Mutation). m.id) (cond b (x ∷ filter S xs) (filter S xs))) ≤ length (x ∷ xs)) [
      | true ↦ omega (arith, rest)
      | false ↦ omega (arith, rest)
    ]

-- one more
AreConsecutive-push : (n : ℕ) (xs : List ℕ) (x : ℕ) → AreConsecutive n xs → x ≡ n + length xs + 1
    → AreConsecutive n (xs ++ x ∷ [])
AreConsecutive-push n [] x f is = (omega arith, tt)
AreConsecutive-push n (y ∷ ys) x f is = (f.0, AreConsecutive-push (n + 1) ys x f.1 (omega arith))

-- numbers that follow n are all above m, where m is at most n
above : (m n : ℕ) (xs : List ℕ) → AreConsecutive n xs → m ≤ n → filter (λ i. nat_lt m i) xs ≡ xs
above m n [] f h = refl
above m n (x ∷ xs) f h =
    rw (lt-ltb m x (omega (arith, f.0))) (ap (λ ys. x ∷ ys) (above m (n + 1) xs f.1 (omega arith)))

-- those above m follow m
AreConsecutive-above : (m n : ℕ) (xs : List ℕ) → AreConsecutive n xs → n ≤ m
    → AreConsecutive m (filter (λ i. nat_lt m i) xs)
AreConsecutive-above m n [] f h = tt
AreConsecutive-above m n (x ∷ xs) f h =
    elim (nat_lt m x) as (λ b. nat_lt m x ≡ b
    → AreConsecutive m (cond b (x ∷ filter (λ i. nat_lt m i) xs) (filter (λ i. nat_lt m i) xs))) [
      | true ↦ λ e.
          let is : n ≡ m = omega (arith, f.0, ltb-true m x e) in (
            omega (arith, f.0),
            subst (λ k. AreConsecutive (k + 1) (filter (λ i. nat_lt m i) xs)) is
                (rw (above m (n + 1) xs f.1 (omega arith)) f.1),
          )
      | false ↦ λ e. AreConsecutive-above m (n + 1) xs f.1 (omega (arith, f.0, ltb-false m x e))
    ] refl

-- the ids of a client's mutations that are not confirmed are those of its ids that are above its confirmed id
ids_of-unconfirmed : (ids : Ids) (client : Bytes) (xs : List Mutation)
    → ids_of client (unconfirmed ids xs) ≡ filter (λ i. nat_lt (confirmed_id ids client) i) (ids_of client xs)
ids_of-unconfirmed ids client [] = refl
ids_of-unconfirmed ids client (x ∷ xs) =
    let S : Mutation → Bool = λ m. same_text m.client client in
    let U : List Mutation = unconfirmed ids xs in
    let above_ : ℕ → Bool = λ i. nat_lt (confirmed_id ids client) i in
    let q : Bool = nat_lt (confirmed_id ids x.client) x.id in
    let rest = ids_of-unconfirmed ids client xs in
    elim (same_text x.client client) as (λ p. same_text x.client client ≡ p
    → map (λ (m : Mutation). m.id) (filter S (cond q (x ∷ U) U))
    ≡ filter above_ (map (λ (m : Mutation). m.id) (cond p (x ∷ filter S xs) (filter S xs)))) [
      | true ↦ λ e.
          let same : q ≡ above_ x.id = ap (λ c. nat_lt (confirmed_id ids c) x.id)
          ((bytes_eq-Decides x.client client).0 e) in
          elim (above_ x.id) as (λ b. q ≡ b → map (λ (m : Mutation). m.id) (filter S (cond q (x ∷ U) U))
          ≡ cond b (x.id ∷ filter above_ (ids_of client xs)) (filter above_ (ids_of client xs))) [
            | true ↦ λ d. ap (λ b. map (λ (m : Mutation). m.id) (filter S (cond b (x ∷ U) U))) d ∙ ap
                (λ b. map (λ (m : Mutation). m.id) (cond b (x ∷ filter S U) (filter S U))) e ∙ ap (λ ys. x.id ∷ ys) rest
            | false ↦ λ d. ap (λ b. map (λ (m : Mutation). m.id) (filter S (cond b (x ∷ U) U))) d ∙ rest
          ] same
      | false ↦ λ e.
          elim q as (λ b. map (λ (m : Mutation). m.id) (filter S (cond b (x ∷ U) U))
          ≡ filter above_ (ids_of client xs)) [
            | true ↦ ap (λ b. map (λ (m : Mutation). m.id) (cond b (x ∷ filter S U) (filter S U))) e ∙ rest
            | false ↦ rest
          ]
    ] refl

-- a new reason changes no id
ids_of-rebased : (client : Bytes) (xs : List Mutation) → ids_of client (map rebased xs) ≡ ids_of client xs
ids_of-rebased client [] = refl
ids_of-rebased client (x ∷ xs) =
    let S : Mutation → Bool = λ m. same_text m.client client in
    elim (same_text x.client client) as (λ p. map (λ (m : Mutation). m.id)
    (cond p (rebased x ∷ filter S (map rebased xs)) (filter S (map rebased xs)))
    ≡ map (λ (m : Mutation). m.id) (cond p (x ∷ filter S xs) (filter S xs))) [
      | true ↦ ap (λ ys. x.id ∷ ys) (ids_of-rebased client xs)
      | false ↦ ids_of-rebased client xs
    ]

-- the ids that a pull leaves pending
pub ids_of-left : (ids : Ids) (client : Bytes) (xs : List Mutation)
    → ids_of client (left_pending ids xs) ≡ filter (λ i. nat_lt (confirmed_id ids client) i) (ids_of client xs)
ids_of-left ids client xs = ids_of-rebased client (unconfirmed ids xs) ∙ ids_of-unconfirmed ids client xs

text_cmp-IsAntisymmetric : finite.IsAntisymmetric (slice_cmp nat_cmp)
text_cmp-IsAntisymmetric = finite.slice_cmp-IsAntisymmetric finite.nat_cmp-IsAntisymmetric

-- a client's confirmed id after one change
confirmed_id-insert : (ids : Ids) (c : Confirmed) (client : Bytes) (P : ℕ → Type 0) → ((client ≡ c.client) → P c.id)
    → P (confirmed_id ids client) → P (confirmed_id (finite.insert ids c.client c.id) client)
confirmed_id-insert ids c client P here there =
    subst (λ o. P (unwrap_or o 0)) (sym (finite.get-insert nat_list_cmp_total ids c.client c.id client))
    (elim (slice_cmp nat_cmp client c.client) as
    (λ r. slice_cmp nat_cmp client c.client ≡ r
    → P (unwrap_or (cond (is_eq r) (Some c.id) (finite.get ids client)) 0)) [
      | Less ↦ λ e. there
      | Equal ↦ λ e. here (text_cmp-IsAntisymmetric client c.client e)
      | Greater ↦ λ e. there
    ] refl)

pub or_false : (a b : Bool) → (a || b) ≡ false → (a ≡ false) × (b ≡ false)
or_false true b e = (cc, cc)
or_false false b e = (refl, e)

-- no confirmed id goes back
pub overwritten-≥ : (old : Ids) (changes : List Confirmed) → goes_back old changes ≡ false
    → (ids : Ids) → ((client : Bytes) → confirmed_id old client ≤ confirmed_id ids client) → (client : Bytes)
    → confirmed_id old client ≤ confirmed_id (overwritten ids changes) client
overwritten-≥ old [] e ids h client = h client
overwritten-≥ old (c ∷ cs) e ids h client =
    let apart : (nat_lt c.id (confirmed_id old c.client) ≡ false) × (goes_back old cs ≡ false) = or_false _ _ e in
    let fine : confirmed_id old c.client ≤ c.id = ltb-false _ _ apart.0 in
    overwritten-≥ old cs apart.1 (finite.insert ids c.client c.id)
    (λ k. confirmed_id-insert ids c k (λ n. confirmed_id old k ≤ n)
    (λ is. subst (λ t. confirmed_id old t ≤ c.id) (sym is) fine) (h k)) client

-- none is above the limit
pub overwritten-≤ : (changes : List Confirmed) → AllByRecursion (λ c. c.id ≤ 2 ^ 52) changes
    → (ids : Ids) → ((client : Bytes) → confirmed_id ids client ≤ 2 ^ 52) → (client : Bytes)
    → confirmed_id (overwritten ids changes) client ≤ 2 ^ 52
overwritten-≤ [] all ids h client = h client
overwritten-≤ (c ∷ cs) all ids h client =
    overwritten-≤ cs all.1 (finite.insert ids c.client c.id)
    (λ k. confirmed_id-insert ids c k (λ n. n ≤ 2 ^ 52) (λ is. all.0) (h k)) client

-- a pull that is applied keeps the ids in order
pub after_pull-IdsFollow : (ids : Ids) (changes : List Confirmed) (xs : List Mutation) → IdsFollow ids xs
    → goes_back ids changes ≡ false → AllByRecursion (λ c. c.id ≤ 2 ^ 52) changes
    → IdsFollow (overwritten ids changes) (left_pending (overwritten ids changes) xs)
after_pull-IdsFollow ids changes xs ok forward small = record {
  pending_ids = λ client. subst (AreConsecutive _) (sym (ids_of-left (overwritten ids changes) client xs))
      (AreConsecutive-above (confirmed_id (overwritten ids changes) client) (confirmed_id ids client) (ids_of client xs)
      (ok.pending_ids client) (overwritten-≥ ids changes forward ids (λ k. omega arith) client));
  bounded = λ client. overwritten-≤ changes small ids ok.bounded client;
}

pub ids_of-append : (client : Bytes) (xs ys : List Mutation)
    → ids_of client (xs ++ ys) ≡ ids_of client xs ++ ids_of client ys
ids_of-append client [] ys = refl
ids_of-append client (x ∷ xs) ys =
    let S : Mutation → Bool = λ m. same_text m.client client in
    elim (same_text x.client client) as (λ p. map (λ (m : Mutation). m.id)
    (cond p (x ∷ filter S (xs ++ ys)) (filter S (xs ++ ys)))
    ≡ map (λ (m : Mutation). m.id) (cond p (x ∷ filter S xs) (filter S xs)) ++ ids_of client ys) [
      | true ↦ ap (λ zs. x.id ∷ zs) (ids_of-append client xs ys)
      | false ↦ ids_of-append client xs ys
    ]

-- a mutation whose id is one above its client's last keeps the ids in order
pub after_mutate-IdsFollow : (ids : Ids) (xs : List Mutation) (x : Mutation) → IdsFollow ids xs
    → x.id ≡ fold max (confirmed_id ids x.client) (ids_of x.client xs) + 1
    → IdsFollow ids (xs ++ x ∷ [])
after_mutate-IdsFollow ids xs x ok next = record {
  pending_ids = λ client. subst (AreConsecutive _) (sym (ids_of-append client xs (x ∷ [])))
      (elim (same_text x.client client) as (λ p. same_text x.client client ≡ p
      → AreConsecutive (confirmed_id ids client) (ids_of client xs ++ map (λ (m : Mutation). m.id) (cond p
      (x ∷ []) []))) [
        | true ↦ λ e.
            let is : x.client ≡ client = (bytes_eq-Decides x.client client).0 e in
            let at : x.id ≡ fold max (confirmed_id ids client) (ids_of client xs) + 1 = subst
            (λ c. x.id ≡ fold max (confirmed_id ids c) (ids_of c xs) + 1) is next in
            AreConsecutive-push _ (ids_of client xs) x.id (ok.pending_ids client)
            (at ∙ ap (λ n. n + 1) (greatest-AreConsecutive _ _ (ok.pending_ids client)))
        | false ↦ λ e. subst (AreConsecutive _) (sym (append-nil (ids_of client xs))) (ok.pending_ids client)
      ] refl);
  bounded = ok.bounded;
}

-- a client's last id, against how much is pending
pub last_id-≤ : (ids : Ids) (xs : List Mutation) (client : Bytes) → IdsFollow ids xs
    → fold max (confirmed_id ids client) (ids_of client xs) ≤ 2 ^ 52 + length xs
last_id-≤ ids xs client ok = omega (
  arith,
  greatest-AreConsecutive _ _ (ok.pending_ids client),
  length-ids_of client xs,
  ok.bounded client,
)

-- a new group's ids follow
pub new_follows : IdsFollow finite.empty []
new_follows =
    let none : (client : Bytes) → confirmed_id finite.empty client
    ≡ 0 = λ client. ap (λ o. unwrap_or o 0) (finite.get-empty (slice_cmp nat_cmp) client) in
    record { pending_ids = λ client. tt; bounded = λ client. omega (arith, none client) }

-- a new group keeps what it has to
pub new_kept : (means : Meanings) (view pulled : Entries) (ids : Ids) (xs : List Mutation) → view ≡ finite.empty
    → pulled ≡ finite.empty → ids ≡ finite.empty → xs ≡ [] → IsSound means view pulled ids xs
new_kept means view pulled ids xs v p i x =
    subst (λ view. IsSound means view pulled ids xs) (sym v)
    (subst (λ pulled. IsSound means finite.empty pulled ids xs) (sym p)
    (subst (λ ids. IsSound means finite.empty finite.empty ids xs) (sym i)
    (subst (λ xs. IsSound means finite.empty finite.empty finite.empty xs) (sym x)
    (record { replay = refl; ids = new_follows }))))

-- and so does one after a pull
pub pull_kept : (means : Meanings) (view pulled : Entries) (old ids : Ids) (changes : List Confirmed)
    (xs ys : List Mutation) → IdsFollow old xs → goes_back old changes ≡ false → All (λ c. c.id ≤ 2 ^ 52) changes
    → view ≡ replayed means pulled ys → ids ≡ overwritten old changes → ys ≡ left_pending ids xs
    → IsSound means view pulled ids ys
pull_kept means view pulled old ids changes xs ys ok forward small v i y = record {
  replay = v;
  ids = subst (IdsFollow ids) (sym y) (subst (λ ids. IdsFollow ids (left_pending ids xs)) (sym i)
      (after_pull-IdsFollow old changes xs ok forward (recursion_from_All _ changes small)));
}
