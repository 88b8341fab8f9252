-- Rows of a table with newer values above them.
use Rattle.std.proofs.Common.{◌≡◌, ℕ, zero, suc, ◌+◌, ◌<◌, Bool, true, false, IsTrue, T, List, [], ◌∷◌, ◌++◌, length}
use Rattle.std.proofs.Common.{get_or, set, nat_eq, if◌then◌else◌, refl, sym, ap, subst, ◌∙◌, arith, Option, Some, None}
use Rattle.std.proofs.Math.Dec.{eqb-zero-suc, eqb-suc-zero, eqb-suc-suc}
use Rattle.std.specs.Prelude.{◌&&◌, cond, is_some, unwrap_or}
use Rattle.std.specs.Ordering.{nat_cmp, is_eq, is_lt}
use Rattle.std.specs.declared.cmp.Ordering.{Ordering}
use Rattle.std.specs.Cmp.Lexicographic.{slice_cmp}
use Rattle.std.specs.FinMap.Entries.{below_all, is_sorted, find}
use Rattle.std.specs.FinMap as map
use Rattle.group_history.specs.declared.confirmed.NewerId.{NewerId}
use Rattle.group_history.specs.Inside.Newer.{with_value, with_newer, newest_at, ids_above}
use Rattle.group_history.specs.Inside.TextRows.{IsRowAt}
use Rattle.group_history.specs.Map.{Bytes}
use Rattle.group_history.specs.State.{Ids, confirmed_id}
use Rattle.group_history.proofs.Places.{entries_made, set_made, get_found}

abbrev order : List ℕ → List ℕ → Ordering
order = slice_cmp nat_cmp

yes : (b : Bool) → T b → IsTrue b
yes true h = refl
yes false h = absurd h

passes : (b : Bool) → IsTrue b → T b
passes b h = subst T (sym h) tt

no_value : {A : Type 0} (o : Option A) → is_some o ≡ false → o ≡ None
no_value None h = refl
no_value (Some x) h = absurd (subst T h tt)

module _ {V : Type 0} where
  -- the rows of a map
  pub map_rows : (es : List (Bytes × V)) (m : map.FinMap order V) → IsTrue (is_sorted order es)
      → map.from_sorted es ≡ m → map.entries m ≡ es
  map_rows es m h is = sym (ap map.entries is) ∙ entries_made es h

  pub in_order : (m : map.FinMap order V) → IsTrue (is_sorted order (map.entries m))
  in_order m = yes _ (map.entries_sorted m)

  -- a row's default doesn't matter where there is one
  pub same_row : (rs : List (Bytes × V)) (i : ℕ) (d e : Bytes × V) → i < length rs → get_or rs i d ≡ get_or rs i e
  same_row [] i d e lt = absurd (omega arith)
  same_row (r ∷ rs) zero d e lt = refl
  same_row (r ∷ rs) (suc i) d e lt = same_row rs i d e (omega arith)

  -- a value that is replaced leaves the keys
  pub len_same : (rs : List (Bytes × V)) (at : ℕ) (v : V) → length (with_value rs at v) ≡ length rs
  len_same [] at v = refl
  len_same (r ∷ rs) zero v = refl
  len_same (r ∷ rs) (suc at) v = ap suc (len_same rs at v)

  key_same : (rs : List (Bytes × V)) (at : ℕ) (v : V) (i : ℕ) (d : Bytes × V)
      → (get_or (with_value rs at v) i d).0 ≡ (get_or rs i d).0
  key_same [] at v i d = refl
  key_same (r ∷ rs) zero v zero d = refl
  key_same (r ∷ rs) zero v (suc i) d = refl
  key_same (r ∷ rs) (suc at) v zero d = refl
  key_same (r ∷ rs) (suc at) v (suc i) d = key_same rs at v i d

  below_same : (x : Bytes) (rs : List (Bytes × V)) (at : ℕ) (v : V)
      → below_all order x (with_value rs at v) ≡ below_all order x rs
  below_same x [] at v = refl
  below_same x (r ∷ rs) zero v = refl
  below_same x (r ∷ rs) (suc at) v = ap (λ b. is_lt (order x r.0) && b) (below_same x rs at v)

  sorted_same : (rs : List (Bytes × V)) (at : ℕ) (v : V)
      → is_sorted order (with_value rs at v) ≡ is_sorted order rs
  sorted_same [] at v = refl
  sorted_same (r ∷ rs) zero v = refl
  sorted_same (r ∷ rs) (suc at) v =
      ap (λ b. b && is_sorted order (with_value rs at v)) (below_same r.0 rs at v)
      ∙ ap (λ b. below_all order r.0 rs && b) (sorted_same rs at v)

  pub still_sorted : (rs : List (Bytes × V)) (at : ℕ) (v : V) → IsTrue (is_sorted order rs)
      → IsTrue (is_sorted order (with_value rs at v))
  still_sorted rs at v h = sorted_same rs at v ∙ h

  pub still_row : (rs : List (Bytes × V)) (at : ℕ) (v : V) (k : Bytes) (i : ℕ) → IsRowAt rs k i
      → IsRowAt (with_value rs at v) k i
  still_row rs at v k i found =
      (subst (λ n. i < n) (sym (len_same rs at v)) found.0, λ d. key_same rs at v i d ∙ found.1 d)

  pub value_there : (rs : List (Bytes × V)) (at : ℕ) (v : V) (i : ℕ) (d : Bytes × V) → i < length rs
      → (get_or (with_value rs at v) i d).1 ≡ (if nat_eq at i then v else (get_or rs i d).1)
  value_there [] at v i d lt = absurd (omega arith)
  value_there (r ∷ rs) zero v zero d lt = refl
  value_there (r ∷ rs) zero v (suc i) d lt = ap (λ b. if b then v else (get_or rs i d).1) (sym (eqb-zero-suc i))
  value_there (r ∷ rs) (suc at) v zero d lt = ap (λ b. if b then v else r.1) (sym (eqb-suc-zero at))
  value_there (r ∷ rs) (suc at) v (suc i) d lt =
      value_there rs at v i d (omega arith)
      ∙ ap (λ b. if b then v else (get_or rs i d).1) (sym (eqb-suc-suc at i))

  pub set_value : (rs : List (Bytes × V)) (k : Bytes) (at : ℕ) (v : V) → IsRowAt rs k at
      → with_value rs at v ≡ set rs at (k, v)
  set_value [] k at v found = absurd (omega (arith, found.0))
  set_value (r ∷ rs) k zero v found = ap (λ x. (x, v) ∷ rs) (found.1 r)
  set_value (r ∷ rs) k (suc at) v found = ap (λ l. r ∷ l) (set_value rs k at v (omega (arith, found.0), found.1))

  pub set_own : (rs : List (Bytes × V)) (at : ℕ) (v : V) (d : Bytes × V) → at < length rs
      → set rs at ((get_or rs at d).0, v) ≡ with_value rs at v
  set_own [] at v d lt = absurd (omega arith)
  set_own (r ∷ rs) zero v d lt = refl
  set_own (r ∷ rs) (suc at) v d lt = ap (λ l. r ∷ l) (set_own rs at v d (omega arith))

  -- whether a key is there
  still_there : (k : Bytes) (rs : List (Bytes × V)) (at : ℕ) (v : V)
      → is_some (find order k (with_value rs at v)) ≡ is_some (find order k rs)
  still_there k [] at v = refl
  still_there k (r ∷ rs) zero v =
      elim (is_eq (order k r.0)) as (λ b. is_some (cond b (Some v) (find order k rs))
      ≡ is_some (cond b (Some r.1) (find order k rs))) [
        | true ↦ refl
        | false ↦ refl
      ]
  still_there k (r ∷ rs) (suc at) v =
      elim (is_eq (order k r.0)) as (λ b. is_some (cond b (Some r.1) (find order k (with_value rs at v)))
      ≡ is_some (cond b (Some r.1) (find order k rs))) [
        | true ↦ refl
        | false ↦ still_there k rs at v
      ]

  pub unset : (rs : List (Bytes × V)) (at : ℕ) (v : V) → length rs < at + 1 → with_value rs at v ≡ rs
  unset [] at v h = refl
  unset (r ∷ rs) zero v h = absurd (omega arith)
  unset (r ∷ rs) (suc at) v h = ap (λ l. r ∷ l) (unset rs at v (omega arith))

  -- the map of rows with a value replaced
  pub value_made : (rs : List (Bytes × V)) (k : Bytes) (at : ℕ) (v : V) → IsTrue (is_sorted order rs)
      → IsRowAt rs k at → map.from_sorted {R = order} (with_value rs at v)
      ≡ map.insert (map.from_sorted rs) k v
  value_made rs k at v h found = ap map.from_sorted (set_value rs k at v found) ∙ set_made rs k v at h found

-- newer ids leave the keys
pub newer_sorted : (rs : List (Bytes × ℕ)) (ns : List NewerId) → IsTrue (is_sorted order rs)
    → IsTrue (is_sorted order (with_newer rs ns))
newer_sorted rs [] h = h
newer_sorted rs (n ∷ ns) h = newer_sorted (with_value rs n.place n.id) ns (still_sorted rs n.place n.id h)

pub newer_row : (rs : List (Bytes × ℕ)) (ns : List NewerId) (k : Bytes) (i : ℕ) → IsRowAt rs k i
    → IsRowAt (with_newer rs ns) k i
newer_row rs [] k i found = found
newer_row rs (n ∷ ns) k i found = newer_row (with_value rs n.place n.id) ns k i (still_row rs n.place n.id k i found)

pub newer_value : (rs : List (Bytes × ℕ)) (ns : List NewerId) (i : ℕ) (d : Bytes × ℕ) → i < length rs
    → (get_or (with_newer rs ns) i d).1 ≡ newest_at i ns (get_or rs i d).1
newer_value rs [] i d lt = refl
newer_value rs (n ∷ ns) i d lt =
    newer_value (with_value rs n.place n.id) ns i d (subst (λ l. i < l) (sym (len_same rs n.place n.id)) lt)
    ∙ ap (newest_at i ns) (value_there rs n.place n.id i d lt)

pub newer_more : (rs : List (Bytes × ℕ)) (ns : List NewerId) (n : NewerId)
    → with_newer rs (ns ++ n ∷ []) ≡ with_value (with_newer rs ns) n.place n.id
newer_more rs [] n = refl
newer_more rs (m ∷ ns) n = newer_more (with_value rs m.place m.id) ns n

newer_there : (k : Bytes) (rs : List (Bytes × ℕ)) (ns : List NewerId)
    → is_some (find order k (with_newer rs ns)) ≡ is_some (find order k rs)
newer_there k rs [] = refl
newer_there k rs (n ∷ ns) = newer_there k (with_value rs n.place n.id) ns ∙ still_there k rs n.place n.id

above_sorted : (table : Ids) (ns : List NewerId) → IsTrue (is_sorted order (with_newer (map.entries table) ns))
above_sorted table ns = newer_sorted (map.entries table) ns (in_order table)

-- no newer ids: the table
pub none_above : (table : Ids) → ids_above table [] ≡ table
none_above table = map.same_entries_map _ _ (entries_made (map.entries table) (in_order table))

-- one more
pub one_above : (table : Ids) (ns : List NewerId) (n : NewerId) (k : Bytes) → IsRowAt (map.entries table) k n.place
    → ids_above table (ns ++ n ∷ []) ≡ map.insert (ids_above table ns) k n.id
one_above table ns n k found =
    ap map.from_sorted (newer_more (map.entries table) ns n)
    ∙ value_made (with_newer (map.entries table) ns) k n.place n.id (above_sorted table ns)
    (newer_row (map.entries table) ns k n.place found)

-- the same ids in one table
pub flat_above : (table ids : Ids) (ns : List NewerId) → map.entries ids ≡ with_newer (map.entries table) ns
    → ids ≡ ids_above table ns
flat_above table ids ns is = map.same_entries_map _ _ (is ∙ sym (entries_made _ (above_sorted table ns)))

-- a client's id
pub id_above : (table : Ids) (ns : List NewerId) (k : Bytes) (at : ℕ) (d : Bytes × ℕ) → IsRowAt (map.entries table) k at
    → confirmed_id (ids_above table ns) k ≡ newest_at at ns (get_or (map.entries table) at d).1
id_above table ns k at d found =
    ap (λ o. unwrap_or o 0) (get_found (with_newer (map.entries table) ns) k at (above_sorted table ns)
    (newer_row (map.entries table) ns k at found) d)
    ∙ newer_value (map.entries table) ns at d found.0

pub no_id_above : (table : Ids) (ns : List NewerId) (k : Bytes) → map.get table k ≡ None
    → confirmed_id (ids_above table ns) k ≡ 0
no_id_above table ns k none =
    ap (λ o. unwrap_or o 0) (map.get-from_sorted order (with_newer (map.entries table) ns) k
    (passes _ (above_sorted table ns))
    ∙ no_value _ (newer_there k (map.entries table) ns ∙ ap is_some (sym (map.get-entries table k) ∙ none)))
