-- The merge of two lists of rows, and that it has the changes between them.
use Rattle.std.proofs.Common.{◌≡◌, ℕ, ◌≤◌, ◌-◌, Bool, true, false, cond, ◌⊎◌, inl, inr, T, List, [], ◌∷◌, ◌++◌, map}
use Rattle.std.proofs.Common.{length, take, drop, refl, sym, ap, ◌∙◌, subst, arith}
use Rattle.std.proofs.Common.{Ordering, Less, Equal, Greater, is_lt, append_assoc, append-nil}
use Rattle.std.proofs.lemmas.List.{take_all, drop_all, length-drop}
use Rattle.std.specs.Ordering.{ordering_reverse}
use Rattle.std.specs.Cmp.Lexicographic.{nat_list_cmp_total}
use Rattle.std.specs.FinMap.Entries.{by_order}
use Rattle.group_history.specs.Map.{Bytes, same_text}
use Rattle.group_history.specs.Rows.{Rows, keys_of, is_below_all, rises}
use Rattle.row_changes.specs.declared.changes.RowChange.{RowChange}
use Rattle.row_changes.specs.Changes.{AreChanges, values_told}
use Rattle.row_changes.specs.Inside.{addition, met, removal, replacement}
use Rattle.group_history.proofs.Rising.{cmp, both, first, second, is_less, same_key, below_less}
use Rattle.row_changes.proofs.Steps.{are_added, are_met, are_removed}

-- one row more of the old list, before what is told of the rest of it
abbrev with_row : (Rows → List RowChange) → Bytes × Bytes → Rows → List RowChange
with_row rest o [] = removal o ∷ rest []
with_row rest o (n ∷ ns) =
    by_order (cmp o.0 n.0) (removal o ∷ rest (n ∷ ns)) (met o n ++ rest ns) (addition n ∷ with_row rest o ns)

-- what is told of two lists
abbrev pub merged : Rows → Rows → List RowChange
merged [] ns = map addition ns
merged (o ∷ os) ns = with_row (merged os) o ns

-- what is told of two lists whose first keys are in this order
abbrev met_in : Ordering → Bytes × Bytes → Bytes × Bytes → Rows → Rows → List RowChange
met_in r o n os ns =
    by_order r (removal o ∷ merged os (n ∷ ns)) (met o n ++ merged os ns) (addition n ∷ merged (o ∷ os) ns)

merged-none : (os : Rows) → merged os [] ≡ map removal os
merged-none [] = refl
merged-none (o ∷ os) = ap (λ cs. removal o ∷ cs) (merged-none os)

-- the key is below all that is told of
abbrev IsBelow : Bytes → List RowChange → Type 0
IsBelow k cs = T (is_below_all k (keys_of (values_told cs)))

-- a key below the rows is below what is told of them
below_met : (k : Bytes) (o n : Bytes × Bytes) (cs : List RowChange) → T (is_lt (cmp k o.0)) → IsBelow k cs
    → IsBelow k (met o n ++ cs)
below_met k o n cs l h = by (same_text o.1 n.1)
  where
    by : (same : Bool) → IsBelow k (cond same [] (replacement o n ∷ []) ++ cs)
    by true = h
    by false = both _ _ l h

below_added : (k : Bytes) (ns : Rows) → T (is_below_all k (keys_of ns)) → IsBelow k (map addition ns)
below_added k [] h = tt
below_added k (n ∷ ns) h = both _ _ (first _ _ h) (below_added k ns (second _ _ h))

-- where that is so of the old list, it is so with one row more
below_row : (k : Bytes) (o : Bytes × Bytes) (os : Rows)
    → ((ms : Rows) → T (is_below_all k (keys_of ms)) → IsBelow k (merged os ms)) → T (is_lt (cmp k o.0))
    → (ns : Rows) → T (is_below_all k (keys_of ns)) → IsBelow k (merged (o ∷ os) ns)
below_row k o os rest l [] h = both _ _ l (rest [] tt)
below_row k o os rest l (n ∷ ns) h =
    elim (cmp o.0 n.0) as (λ r. IsBelow k (met_in r o n os ns)) [
      | Less ↦ both _ _ l (rest (n ∷ ns) h)
      | Equal ↦ below_met k o n (merged os ns) l (rest ns (second _ _ h))
      | Greater ↦ both _ _ (first _ _ h) (below_row k o os rest l ns (second _ _ h))
    ]

below_merged : (k : Bytes) (os ns : Rows) → T (is_below_all k (keys_of os)) → T (is_below_all k (keys_of ns))
    → IsBelow k (merged os ns)
below_merged k [] ns g h = below_added k ns h
below_merged k (o ∷ os) ns g h =
    below_row k o os (λ ms. below_merged k os ms (second _ _ g)) (first _ _ g) ns h

-- the first key of the one list is below the other list, where it is below the first key there
below_second : (x y : Bytes) (ks : List Bytes) → cmp x y ≡ Less → T (is_below_all y ks)
    → T (is_below_all x (y ∷ ks))
below_second x y ks l h = both _ _ (is_less _ l) (below_less x y ks l h)

below_first : (x y : Bytes) (ks : List Bytes) → cmp x y ≡ Greater → T (is_below_all x ks)
    → T (is_below_all y (x ∷ ks))
below_first x y ks g h = below_second y x ks (nat_list_cmp_total.antisymm y x ∙ ap ordering_reverse g) h

below_same : (x y : Bytes) (ks : List Bytes) → cmp x y ≡ Equal → T (is_below_all y ks) → T (is_below_all x ks)
below_same x y ks e h = subst (λ k. T (is_below_all k ks)) (sym (same_key x y e)) h

are_all_added : (ns : Rows) → T (rises (keys_of ns)) → AreChanges [] ns (map addition ns)
are_all_added [] h = record { ascending = tt; each = λ k. refl }
are_all_added (n ∷ ns) h =
    are_added n [] ns (map addition ns) (below_added n.0 ns (first _ _ h)) tt (are_all_added ns (second _ _ h))

-- where the merge has the changes of the old list, it has them with one row more
are_row : (o : Bytes × Bytes) (os : Rows) → ((ms : Rows) → T (rises (keys_of ms)) → AreChanges os ms (merged os ms))
    → T (is_below_all o.0 (keys_of os)) → (ns : Rows) → T (rises (keys_of ns))
    → AreChanges (o ∷ os) ns (merged (o ∷ os) ns)
are_row o os rest g [] h = are_removed o os [] (merged os []) (below_merged o.0 os [] g tt) tt (rest [] tt)
are_row o os rest g (n ∷ ns) h =
    elim (cmp o.0 n.0) as (λ r. cmp o.0 n.0 ≡ r → AreChanges (o ∷ os) (n ∷ ns) (met_in r o n os ns)) [
      | Less ↦ λ e.
          let above = below_second o.0 n.0 (keys_of ns) e (first _ _ h) in
          let below = below_merged o.0 os (n ∷ ns) g above in
          are_removed o os (n ∷ ns) (merged os (n ∷ ns)) below above (rest (n ∷ ns) h)
      | Equal ↦ λ e.
          let below = below_merged o.0 os ns g (below_same o.0 n.0 (keys_of ns) e (first _ _ h)) in
          are_met o n os ns (merged os ns) e below (rest ns (second _ _ h))
      | Greater ↦ λ e.
          let above = below_first o.0 n.0 (keys_of os) e g in
          let below = below_merged n.0 (o ∷ os) ns above (first _ _ h) in
          are_added n (o ∷ os) ns (merged (o ∷ os) ns) below above (are_row o os rest g ns (second _ _ h))
    ] refl

are_merged : (os ns : Rows) → T (rises (keys_of os)) → T (rises (keys_of ns)) → AreChanges os ns (merged os ns)
are_merged [] ns g h = are_all_added ns h
are_merged (o ∷ os) ns g h = are_row o os (λ ms. are_merged os ms (second _ _ g)) (first _ _ g) ns h

-- where one list is at its end the rest of the other is told whole
merged-end : (os ns : Rows) (i j : ℕ) → (length os ≤ i) ⊎ (length ns ≤ j)
    → merged (drop i os) (drop j ns) ≡ map removal (drop i os) ++ map addition (drop j ns)
merged-end os ns i j (inl e) =
    let none = drop_all i os e in
    ap (λ xs. merged xs (drop j ns)) none ∙ sym (ap (λ xs. map removal xs ++ map addition (drop j ns)) none)
merged-end os ns i j (inr e) =
    let none = drop_all j ns e in
    let removed = map removal (drop i os) in
    ap (merged (drop i os)) none ∙ merged-none (drop i os) ∙ sym (append-nil removed)
    ∙ sym (ap (λ ys. removed ++ map addition ys) none)

-- the rest of a list, as a slice has it
rest_of : (rs : Rows) (i : ℕ) → take (length rs - i) (drop i rs) ≡ drop i rs
rest_of rs i = take_all (length rs - i) (drop i rs) (omega (arith, length-drop i rs))

-- what the merge told of the lists, and behind it what is told of their rests
pub are_told : (old new : Rows) (i j : ℕ) (cs ds all : List RowChange) → T (rises (keys_of old))
    → T (rises (keys_of new)) → merged old new ≡ cs ++ merged (drop i old) (drop j new)
    → (length old ≤ i) ⊎ (length new ≤ j) → ds ≡ cs ++ map removal (take (length old - i) (drop i old))
    → all ≡ ds ++ map addition (take (length new - j) (drop j new)) → AreChanges old new all
are_told old new i j cs ds all g h m e p q =
    let removed = map removal (drop i old) in
    let added = map addition (drop j new) in
    let first : ds ≡ cs ++ removed = p ∙ ap (λ os. cs ++ map removal os) (rest_of old i) in
    let second : all ≡ (cs ++ removed) ++ added = q ∙ ap (λ ns. ds ++ map addition ns) (rest_of new j) ∙ ap
    (λ xs. xs ++ added) first in
    let whole : merged old new ≡ all = m ∙ ap (λ xs. cs ++ xs) (merged-end old new i j e)
    ∙ sym (append_assoc cs removed added) ∙ sym second in
    subst (AreChanges old new) whole (are_merged old new g h)
