-- Which child of a chunk has a key. In rows of strict order one at most has it: the last whose first key isn't above
-- it.
use Rattle.std.proofs.Common.{◌≡◌, inl, inr, ℕ, Bool, true, false, List, [], ◌∷◌, ◌++◌, map, Option, Some, None, refl}
use Rattle.std.proofs.Common.{sym, ap, ◌∙◌, subst, Less, is_gt}
use Rattle.std.specs.Prelude.{if◌then◌else◌}
use Rattle.std.specs.List.{Contains}
use Rattle.std.specs.Ordering.{ordering_reverse}
use Rattle.std.specs.Cmp.Lexicographic.{nat_list_cmp_total}
use Rattle.std.proofs.lemmas.Cmp.{tied_itself}
use Rattle.std.proofs.lemmas.List.Elements.{Contains-append_left, Contains-append_right}
use Rattle.group_history.specs.Map.{Bytes}
use Rattle.group_history.specs.Rows.{Rows, keys_of, values_of}
use Rattle.group_history.specs.Spelling.{Spelled, rows_in, begins_with, joined_one, joined_rows}
use Rattle.group_history.proofs.Lists.{cons_cases, no_element, map_from, map_to, first_here}
use Rattle.commit_graph.specs.Inside.Meeting.{or_this, choose}
use Rattle.commit_graph.proofs.Spelled.{joined_one-some}
use Rattle.map_chunks.proofs.Texts.{same_text-is}
use Rattle.map_chunks.proofs.RowLemmas.{cmp, AllAbove, IsStrict, AllAbove-back, AllAbove-front, IsStrict-back}
use Rattle.map_chunks.proofs.RowLemmas.{IsStrict-front}

-- a key of a front is below all behind the front
above_seam : (k : Bytes) (a b : Rows) → IsStrict (a ++ b) → Contains (keys_of a) k → AllAbove k b
above_seam k [] b h has = absurd (no_element k has)
above_seam k (r ∷ a) b h has = elim (cons_cases r.0 (keys_of a) k has) [
  | inl e ↦ subst (λ (w : Bytes). AllAbove w b) e (AllAbove-back r.0 a b h.0)
  | inr q ↦ above_seam k a b h.1 q
]

above_has : (k j : Bytes) (rs : Rows) → AllAbove k rs → Contains (keys_of rs) j → cmp k j ≡ Less
above_has k j [] h has = absurd (no_element j has)
above_has k j (r ∷ rs) h has = elim (cons_cases r.0 (keys_of rs) j has)
    [ inl e ↦ subst (λ (w : Bytes). cmp k w ≡ Less) e h.0 | inr q ↦ above_has k j rs h.1 q ]

begins : (k : Bytes) (rs : Rows) → begins_with k rs ≡ true
    → (r : Bytes × Bytes) × (rest : Rows) × (rs ≡ r ∷ rest) × (r.0 ≡ k)
begins k [] h = absurd (cc h)
begins k (r ∷ rs) h = (r, rs, refl, same_text-is r.0 k h)

turned_less : (x y : Bytes) → cmp x y ≡ Less → is_gt (cmp y x) ≡ true
turned_less x y h = ap is_gt (nat_list_cmp_total.antisymm y x ∙ ap ordering_reverse h)

less_not : (x y : Bytes) → cmp x y ≡ Less → is_gt (cmp x y) ≡ false
less_not x y h = ap is_gt h

same_not : (x : Bytes) → is_gt (cmp x x) ≡ false
same_not x = ap is_gt (tied_itself nat_list_cmp_total x)

-- the first key of strict rows isn't above any of their keys
first_low : (k f : Bytes) (rs : Rows) → IsStrict rs → begins_with f rs ≡ true → Contains (keys_of rs) k
    → is_gt (cmp f k) ≡ false
first_low k f rs h b has =
    let s = begins f rs b in
    let here : Contains (keys_of (s.0 ∷ s.1)) k = subst (λ (w : Rows). Contains (keys_of w) k) s.2 has in
    let order : IsStrict (s.0 ∷ s.1) = subst IsStrict s.2 h in
    subst (λ (w : Bytes). is_gt (cmp w k) ≡ false) s.3 (elim (cons_cases s.0.0 (keys_of s.1) k here) [
      | inl e ↦ subst (λ (w : Bytes). is_gt (cmp s.0.0 w) ≡ false) e (same_not s.0.0)
      | inr q ↦ less_not s.0.0 k (above_has s.0.0 k s.1 order.0 q)
    ])

begun : (k : Bytes) (rs ms rows : Rows) → joined_one k (Some rs) (Some ms) ≡ Some rows → begins_with k rs ≡ true
begun k rs ms rows h = by (begins_with k rs) (rs ++ ms) h
  where
    by : (b : Bool) (x : Rows) → (if b then Some x else None) ≡ Some rows → b ≡ true
    by true x h = refl
    by false x h = absurd (cc h)

module _ (done : List (Option Spelled)) (d : ℕ) (k : Bytes) where
  abbrev parts : List (Bytes × ℕ) → List (Bytes × Option Rows)
  parts es = map (λ x. (x.0, rows_in done d x.1)) es

  split : (e : Bytes × ℕ) (es : List (Bytes × ℕ)) (rows : Rows) → joined_rows (parts (e ∷ es)) ≡ Some rows
      → (rs : Rows) × (ms : Rows) × (rows_in done d e.1 ≡ Some rs) × (joined_rows (parts es) ≡ Some ms)
      × (rs ++ ms ≡ rows) × (begins_with e.0 rs ≡ true)
  split e es rows h =
      let r = joined_one-some e.0 (rows_in done d e.1) (joined_rows (parts es)) rows h in (
        r.0,
        r.1,
        r.2,
        r.3,
        r.4,
        begun e.0 r.0 r.1 rows
            (subst (λ (o : Option Rows). joined_one e.0 (Some r.0) o ≡ Some rows) r.3
            (subst (λ (o : Option Rows). joined_one e.0 o (joined_rows (parts es)) ≡ Some rows) r.2 h)),
      )

  -- no child is chosen where all rows are above the key
  none_above : (es : List (Bytes × ℕ)) (rows : Rows) → joined_rows (parts es) ≡ Some rows → AllAbove k rows
      → choose k es ≡ None
  none_above [] rows h above = refl
  none_above (e ∷ es) rows h above =
      let r = split e es rows h in
      let all : AllAbove k (r.0 ++ r.1) = subst (AllAbove k) (sym r.4) above in
      let rest = none_above es r.1 r.3 (AllAbove-back k r.0 r.1 all) in
      let s = begins e.0 r.0 r.5 in
      let low : cmp k e.0 ≡ Less = subst (λ (w : Bytes). cmp k w ≡ Less) s.3
      (subst (AllAbove k) s.2 (AllAbove-front k r.0 r.1 all)).0 in
      ap (λ o. or_this o (if is_gt (cmp e.0 k) then None else Some e.1)) rest ∙ ap (λ b. if b then None else Some e.1)
      (turned_less k e.0 low)

  -- the child that has the key is chosen
  pub chosen : (es : List (Bytes × ℕ)) (rows : Rows) (c : ℕ) (rs : Rows) → joined_rows (parts es) ≡ Some rows
      → IsStrict rows → Contains (values_of es) c → rows_in done d c ≡ Some rs → Contains (keys_of rs) k
      → choose k es ≡ Some c
  chosen [] rows c rs h order has is key = absurd (no_element c has)
  chosen (e ∷ es) rows c rs h order has is key =
      let r = split e es rows h in
      let all : IsStrict (r.0 ++ r.1) = subst IsStrict (sym r.4) order in
      elim (cons_cases e.1 (values_of es) c has) [
        | inl q ↦ (let same : rs ≡ r.0 = (let x : Some rs
            ≡ Some r.0 = sym is ∙ (ap (rows_in done d) (sym q) ∙ r.2) in cc x) in
            let own : Contains (keys_of r.0) k = subst (λ (w : Rows). Contains (keys_of w) k) same key in
            let rest = none_above es r.1 r.3 (above_seam k r.0 r.1 all own) in
            let low = first_low k e.0 r.0 (IsStrict-front r.0 r.1 all) r.5 own in
            ap (λ o. or_this o (if is_gt (cmp e.0 k) then None else Some e.1)) rest ∙
            (ap (λ b. if b then None else Some e.1) low ∙ ap Some q))
        | inr q ↦ ap (λ o. or_this o (if is_gt (cmp e.0 k) then None else Some e.1))
            (chosen es r.1 c rs r.3 (IsStrict-back r.0 r.1 all) q is key)
      ]

  -- no child is empty
  pub filled : (es : List (Bytes × ℕ)) (rows : Rows) (c : ℕ) (rs : Rows) → joined_rows (parts es) ≡ Some rows
      → Contains (values_of es) c → rows_in done d c ≡ Some rs → rs ≡ [] → ⊥
  filled [] rows c rs h has is none = no_element c has
  filled (e ∷ es) rows c rs h has is none =
      let r = split e es rows h in
      elim (cons_cases e.1 (values_of es) c has) [
        | inl q ↦ (let x : Some r.0 ≡ Some rs = sym r.2 ∙ (ap (rows_in done d) q ∙ is) in
            let y : r.0 ≡ [] = (let z : r.0 ≡ rs = cc x in z ∙ none) in
            let b : begins_with e.0 [] ≡ true = subst (λ (w : Rows). begins_with e.0 w ≡ true) y r.5 in cc b)
        | inr q ↦ filled es r.1 c rs r.3 q is none
      ]

  -- the first child's key stands among the chunk's
  pub first_part : (e : Bytes × ℕ) (es : List (Bytes × ℕ)) (rows : Rows) → joined_rows (parts (e ∷ es)) ≡ Some rows
      → Contains (keys_of rows) e.0
  first_part e es rows h =
      let r = split e es rows h in
      let s = begins e.0 r.0 r.5 in
      let at : s.0 ∷ (s.1 ++ r.1) ≡ rows = sym (ap (λ (w : Rows). w ++ r.1) s.2) ∙ r.4 in
      subst (λ (w : Rows). Contains (keys_of w) e.0) at
      (subst (λ (w : Bytes). Contains (keys_of (s.0 ∷ (s.1 ++ r.1))) w) s.3
      (first_here s.0.0 (keys_of (s.1 ++ r.1))))

  -- a child's rows are in strict order, and their keys are the chunk's
  pub part : (es : List (Bytes × ℕ)) (rows : Rows) (c : ℕ) (rs : Rows) → joined_rows (parts es) ≡ Some rows
      → IsStrict rows → Contains (values_of es) c → rows_in done d c ≡ Some rs
      → IsStrict rs × (Contains (keys_of rs) k → Contains (keys_of rows) k)
  part [] rows c rs h order has is = absurd (no_element c has)
  part (e ∷ es) rows c rs h order has is =
      let r = split e es rows h in
      let all : IsStrict (r.0 ++ r.1) = subst IsStrict (sym r.4) order in
      elim (cons_cases e.1 (values_of es) c has) [
        | inl q ↦ (let same : r.0 ≡ rs = (let x : Some r.0
            ≡ Some rs = sym r.2 ∙ (ap (rows_in done d) q ∙ is) in cc x) in (
              subst IsStrict same (IsStrict-front r.0 r.1 all),
              λ i. subst (λ (w : Rows). Contains (keys_of w) k) r.4
                  (in_front r.0 r.1 (subst (λ (w : Rows). Contains (keys_of w) k) (sym same) i)),
            ))
        | inr q ↦ (let p = part es r.1 c rs r.3 (IsStrict-back r.0 r.1 all) q is in
            (p.0, λ i. subst (λ (w : Rows). Contains (keys_of w) k) r.4 (in_back r.0 r.1 (p.1 i))))
      ]
    where
      in_front : (a b : Rows) → Contains (keys_of a) k → Contains (keys_of (a ++ b)) k
      in_front a b i = (let f = map_from (λ (e : Bytes × Bytes). e.0) a k i in
          subst (Contains (keys_of (a ++ b))) f.2
          (map_to (λ (e : Bytes × Bytes). e.0) (a ++ b) f.0 (Contains-append_left a b f.0 f.1)))

      in_back : (a b : Rows) → Contains (keys_of b) k → Contains (keys_of (a ++ b)) k
      in_back a b i = (let f = map_from (λ (e : Bytes × Bytes). e.0) b k i in
          subst (Contains (keys_of (a ++ b))) f.2
          (map_to (λ (e : Bytes × Bytes). e.0) (a ++ b) f.0 (Contains-append_right a b f.0 f.1)))
