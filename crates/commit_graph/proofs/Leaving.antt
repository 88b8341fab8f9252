-- What is left of one falling list beside another.
use Rattle.std.proofs.Common.{◌≡◌, ◌≢◌, ℕ, zero, suc, ◌+◌, ◌-◌, ◌<◌, ◌≤◌, inl, inr, List, [], ◌∷◌, ◌++◌, length, take}
use Rattle.std.proofs.Common.{get_or, refl, ap, sym, subst, ◌∙◌, arith, ◌↔◌, length-take}
use Rattle.std.specs.Prelude.{slice_index}
use Rattle.std.specs.List.{Contains}
use Rattle.std.proofs.lemmas.List.{map-append, take_more, get_or_default, get_or-map, get_or-take}
use Rattle.std.proofs.lemmas.List.Elements.{Contains-append_cases, Contains-append_left, Contains-append_right}
use Rattle.std.proofs.lemmas.Bool.{cases_lt}
use Rattle.std.proofs.Math.Nat.{eq-or-lt_of_le}
use Rattle.group_history.specs.declared.refs.Ref.{Ref}
use Rattle.group_history.specs.Refs.{stamp_of}
use Rattle.group_history.proofs.Lists.{only_one, map_from, map_to}
use Rattle.commit_graph.specs.Reach.{Falls, stamps_of}
use Rattle.commit_graph.specs.Inside.Reach.{Omits}
use Rattle.commit_graph.proofs.Listing.{falls_append}

pub element : (xs : List ℕ) (j : ℕ) → j < length xs → Contains xs (slice_index xs j)
element xs j low = (j, low, get_or_default xs j (slice_index xs j) 0 low)

pub found_at : (xs : List ℕ) (x : ℕ) → Contains xs x → (j : ℕ) × (j < length xs) × (slice_index xs j ≡ x)
found_at xs x h = (h.0, h.1, get_or_default xs h.0 0 x h.1 ∙ h.2)

falls_at : (xs : List ℕ) (i j : ℕ) → Falls xs → i < j → j < length xs → slice_index xs j < slice_index xs i
falls_at [] i j f l low = absurd (let n : j < 0 = low in omega arith)
falls_at (x ∷ xs) i zero f l low = absurd (omega arith)
falls_at (x ∷ xs) zero (suc j) f l low = f.0 (slice_index xs j) (element xs j (omega (arith, low)))
falls_at (x ∷ xs) (suc i) (suc j) f l low = falls_at xs i j f.1 (omega arith) (omega (arith, low))

-- A stamp isn't there where those before a place are above it, and the one at the place is below it.
pub absent : (kept : List ℕ) (place x : ℕ) → Falls kept → ((j : ℕ) → j < place → x < slice_index kept j)
    → (place < length kept → slice_index kept place < x) → Contains kept x → ⊥
absent kept place x falls past stands h =
    let f = found_at kept x h in
    let is : slice_index kept f.0 ≡ x = f.2 in
    elim (cases_lt f.0 place) [
      | inl l ↦ (let a = past f.0 l in omega (arith, a, is))
      | inr l ↦ elim (eq-or-lt_of_le l) [
        | inl q ↦ (let a = stands (omega (arith, q, f.1)) in
            let e : slice_index kept place ≡ x = ap (slice_index kept) q ∙ is in omega (arith, a, e))
        | inr m ↦ (let a = stands (omega (arith, m, f.1)) in let e = falls_at kept place f.0 falls m f.1 in
            omega (arith, a, e, is))
      ]
    ]

leaves_skip : (before kept left : List Ref) (y : Ref) → Omits before kept left → Contains (stamps_of kept) (stamp_of y)
    → Omits (before ++ y ∷ []) kept left
leaves_skip before kept left y is has x = (
  λ h. let p = (is x).0 h in (Contains-append_left before (y ∷ []) x p.0, p.1),
  λ q. elim (Contains-append_cases before (y ∷ []) x q.0) [
    | inl p ↦ (is x).1 (p, q.1)
    | inr e ↦ absurd
        (q.1 (subst (λ (w : Ref). Contains (stamps_of kept) (stamp_of w)) (only_one y x e) has))
  ],
)

leaves_add : (before kept left : List Ref) (y : Ref) → Omits before kept left
    → (Contains (stamps_of kept) (stamp_of y) → ⊥) → Omits (before ++ y ∷ []) kept (left ++ y ∷ [])
leaves_add before kept left y is out x = (
  λ h. elim (Contains-append_cases left (y ∷ []) x h) [
    | inl p ↦ (Contains-append_left before (y ∷ []) x ((is x).0 p).0, ((is x).0 p).1)
    | inr e ↦ (
      Contains-append_right before (y ∷ []) x e,
      λ w. out (subst (λ (z : Ref). Contains (stamps_of kept) (stamp_of z)) (sym (only_one y x e)) w),
    )
  ],
  λ q. elim (Contains-append_cases before (y ∷ []) x q.0) [
    | inl p ↦ Contains-append_left left (y ∷ []) x ((is x).1 (p, q.1))
    | inr e ↦ Contains-append_right left (y ∷ []) x e
  ],
)

-- While two falling lists are gone through: i of the first are done, and those of the second before the place are above
-- all that are left.
pub record IsMerge (before kept left : List Ref) (i place : ℕ) : Type 0 where
  pub within : place ≤ length kept
  pub past : (j k : ℕ) → j < place → i ≤ k → k < length before
      → slice_index (stamps_of before) k < slice_index (stamps_of kept) j
  pub leaves : Omits (take i before) kept left
  pub falls : Falls (stamps_of left)

same_length : (rs : List Ref) → length (stamps_of rs) ≡ length rs
same_length [] = refl
same_length (r ∷ rs) = ap suc (same_length rs)

pub stamp_at : (rs : List Ref) (i : ℕ) (d : Ref) → i < length rs
    → slice_index (stamps_of rs) i ≡ stamp_of (get_or rs i d)
stamp_at rs i d low = get_or-map stamp_of rs i d 0 low

-- those of left are above what is still to come
above_next : (before kept left : List Ref) (i : ℕ) (d : Ref) → Falls (stamps_of before)
    → Omits (take i before) kept left → i < length before → (z : ℕ) → Contains (stamps_of left) z
    → stamp_of (get_or before i d) < z
above_next before kept left i d falls is low z h =
    let r = map_from stamp_of left z h in
    let m = ((is r.0).0 r.1).0 in
    let short : m.0 < i = omega (arith, m.1, length-take i before) in
    let same : get_or before m.0 r.0 ≡ r.0 = sym (get_or-take i before m.0 r.0 short) ∙ m.2 in
    let there : slice_index (stamps_of before) m.0
    ≡ z = stamp_at before m.0 r.0 (omega (arith, short, low)) ∙ (ap stamp_of same ∙ r.2) in
    let less : slice_index (stamps_of before) i
    < slice_index (stamps_of before) m.0 = falls_at (stamps_of before) m.0 i falls short
    (omega (arith, low, same_length before)) in
    let here = stamp_at before i d low in
    omega (arith, there, less, here)

past_next : (before kept : List Ref) (i from place : ℕ) (d : Ref) → Falls (stamps_of before) → i < length before
    → ((j k : ℕ) → j < from → i ≤ k → k < length before
    → slice_index (stamps_of before) k < slice_index (stamps_of kept) j)
    → ((j : ℕ) → from ≤ j → j < place → stamp_of (get_or before i d) < slice_index (stamps_of kept) j)
    → (j k : ℕ) → j < place → i ≤ k → k < length before
    → slice_index (stamps_of before) k < slice_index (stamps_of kept) j
past_next before kept i from place d falls low past skipped j k l m n =
    elim (cases_lt j from) [
      | inl p ↦ past j k p m n
      | inr p ↦ (let s = skipped j p l in let h = stamp_at before i d low in elim (eq-or-lt_of_le m) [
        | inl q ↦ subst (λ (w : ℕ). slice_index (stamps_of before) w < slice_index (stamps_of kept) j) q
            (omega (arith, s, h))
        | inr q ↦ (let f = falls_at (stamps_of before) i k falls q (omega (arith, n, same_length before)) in
            omega (arith, s, h, f))
      ])
    ]

module _ (before kept left : List Ref) (i from place : ℕ) (d : Ref) (falls : Falls (stamps_of before))
    (kept_falls : Falls (stamps_of kept)) (low : i < length before) (is : IsMerge before kept left i from)
    (within : place ≤ length kept)
    (skipped : (j : ℕ) → from ≤ j → j < place → stamp_of (get_or before i d) < slice_index (stamps_of kept) j) where
  pub merge_skip : place < length kept → slice_index (stamps_of kept) place ≡ stamp_of (get_or before i d)
      → IsMerge before kept left (i + 1) place
  merge_skip in_kept same =
      let past = past_next before kept i from place d falls low is.past skipped in
      record {
        within = within;
        past = λ j k l m n. past j k l (omega (arith, m)) n;
        leaves = subst (λ (w : List Ref). Omits w kept left) (sym (take_more before i d low))
            (leaves_skip (take i before) kept left (get_or before i d) is.leaves
            (subst (Contains (stamps_of kept)) same
            (element (stamps_of kept) place (omega (arith, in_kept, same_length kept)))));
        falls = is.falls;
      }

  pub merge_add : (place < length kept → slice_index (stamps_of kept) place ≤ stamp_of (get_or before i d))
      → (place < length kept → slice_index (stamps_of kept) place ≢ stamp_of (get_or before i d))
      → IsMerge before kept (left ++ get_or before i d ∷ []) (i + 1) place
  merge_add stands differs =
      let x = get_or before i d in
      let past = past_next before kept i from place d falls low is.past skipped in
      let here = stamp_at before i d low in
      let out : Contains (stamps_of kept) (stamp_of x) → ⊥ = absent (stamps_of kept) place (stamp_of x) kept_falls
      (λ j l. (let p = past j i l (omega arith) low in omega (arith, p, here)))
      (λ l. (let m : place < length kept = omega (arith, l, same_length kept) in let s = stands m in
      let n = differs m in omega (arith, s, n))) in
      record {
        within = within;
        past = λ j k l m n. past j k l (omega (arith, m)) n;
        leaves = subst (λ (w : List Ref). Omits w kept (left ++ x ∷ [])) (sym (take_more before i d low))
            (leaves_add (take i before) kept left x is.leaves out);
        falls = subst Falls (sym (map-append stamp_of left (x ∷ [])))
            (falls_append (stamps_of left) (stamp_of x) is.falls (above_next before kept left i d falls is.leaves low));
      }

pub take_all : {A : Type 0} (xs : List A) (n : ℕ) → length xs ≤ n → take n xs ≡ xs
take_all [] zero h = refl
take_all [] (suc n) h = refl
take_all (x ∷ xs) zero h = absurd (omega (arith, h))
take_all (x ∷ xs) (suc n) h = ap (λ w. x ∷ w) (take_all xs n (omega (arith, h)))

-- the same by stamps
pub leaves_stamps : (before kept left : List Ref) → Omits before kept left → (x : ℕ)
    → Contains (stamps_of left) x ↔ (Contains (stamps_of before) x × (Contains (stamps_of kept) x → ⊥))
leaves_stamps before kept left is x = (
  λ h. (let r = map_from stamp_of left x h in let p = (is r.0).0 r.1 in (
    subst (Contains (stamps_of before)) r.2 (map_to stamp_of before r.0 p.0),
    subst (λ (w : ℕ). Contains (stamps_of kept) w → ⊥) r.2 p.1,
  )),
  λ q. (let r = map_from stamp_of before x q.0 in
      subst (Contains (stamps_of left)) r.2 (map_to stamp_of left r.0
      ((is r.0).1 (r.1, subst (λ (w : ℕ). Contains (stamps_of kept) w → ⊥) (sym r.2) q.1)))),
)

-- a falling list has nothing above its first, and nothing below its last
below_first : (xs : List ℕ) (x : ℕ) → Falls xs → Contains xs x → x ≤ slice_index xs 0
below_first xs x falls h = let f = found_at xs x h in let is : slice_index xs f.0 ≡ x = f.2 in
    elim (cases_lt 0 f.0) [
      | inl l ↦ (let e = falls_at xs 0 f.0 falls l f.1 in omega (arith, e, is))
      | inr l ↦ (let z : f.0 ≡ 0 = omega (arith, l) in
          let e : slice_index xs 0 ≡ x = ap (slice_index xs) (sym z) ∙ is in omega (arith, e))
    ]

above_last : (xs : List ℕ) (j : ℕ) → Falls xs → j < length xs → slice_index xs (length xs - 1) ≤ slice_index xs j
above_last xs j falls low = elim (cases_lt j (length xs - 1)) [
  | inl l ↦ (let e = falls_at xs j (length xs - 1) falls l (omega (arith, low)) in omega (arith, e))
  | inr l ↦ (let z : j ≡ length xs - 1 = omega (arith, l, low) in
      let e : slice_index xs j ≡ slice_index xs (length xs - 1) = ap (slice_index xs) z in omega (arith, e))
]

-- where the last of one list is above the first of the other, the other leaves nothing out
pub apart : (before kept : List Ref) (d e : Ref) → Falls (stamps_of kept) → Falls (stamps_of before) → 0 < length kept
    → 0 < length before → stamp_of (get_or before 0 d) < stamp_of (get_or kept (length kept - 1) e)
    → Omits before kept before
apart before kept d e kept_falls falls some more less r = (
  λ h. (
    h,
    λ w. (let x = stamp_of r in
        let top = below_first (stamps_of before) x falls (map_to stamp_of before r h) in
        let first = stamp_at before 0 d more in
        let last = stamp_at kept (length kept - 1) e (omega (arith, some)) in
        let count = same_length kept in
        let same : slice_index (stamps_of kept) (length (stamps_of kept) - 1)
        ≡ slice_index (stamps_of kept) (length kept - 1) =
        ap (λ (n : ℕ). slice_index (stamps_of kept) (n - 1)) count in
        absent (stamps_of kept) (length (stamps_of kept)) x kept_falls
        (λ j l. (let low = above_last (stamps_of kept) j kept_falls l in
        omega (arith, low, top, first, last, same, less)))
        (λ l. absurd (omega (arith, l))) w),
  ),
  λ q. q.0,
)
