-- A new row in a leaf.
use Rattle.std.proofs.Common.{◌≡◌, ◌<◌, ◌≤◌, ◌+◌, ◌-◌, Option, Some, None, min, length-take, length-drop, ℕ, zero, suc}
use Rattle.std.proofs.Common.{T, List, [], ◌∷◌, ◌++◌, length, take, drop, get_or, insert, take-append-drop, refl, sym}
use Rattle.std.proofs.Common.{ap, ◌∙◌, subst, arith, nat_cmp}
use Rattle.std.specs.Cmp.Lexicographic.{slice_cmp, nat_list_cmp_total}
use Rattle.std.specs.FinMap.{put}
use Rattle.std.specs.FinMap.Entries.{is_sorted-put}
use Rattle.group_history.specs.Map.{Bytes}
use Rattle.group_history.specs.Rows.{Rows, paired, AreKeys, rises, is_below_all, keys_of}
use Rattle.group_history.proofs.Pairs.{keys_of-paired}
use Rattle.map_chunks.specs.Search.{IsAbsent}
use Rattle.map_chunks.specs.Shown.{value}
use Rattle.map_nodes.specs.Nodes.{row_pieces, HeadIs}
use Rattle.map_chunks.specs.Inserting.{ArePairs, Parted}
use Rattle.map_chunks.proofs.RowLemmas.{both, is_less, IsStrict, AllAbove, strict, sorted, rises_strict, put-back}
use Rattle.map_chunks.proofs.RowLemmas.{put-above, IsStrict-front, IsStrict-back}
use Rattle.map_chunks.proofs.ListLemmas.{cut_front, cut_back, paired-insert, length-inserted, length-paired}
use Rattle.map_chunks.proofs.SearchLemmas.{absent_in, length-keys_of}

strict_below : (k : Bytes) (rs : Rows) → AllAbove k rs → T (is_below_all k (keys_of rs))
strict_below k [] h = tt
strict_below k (r ∷ rs) h = both _ _ (is_less _ h.0) (strict_below k rs h.1)

pub strict_rises : (rs : Rows) → IsStrict rs → T (rises (keys_of rs))
strict_rises [] h = tt
strict_rises (r ∷ rs) h = both _ _ (strict_below r.0 rs h.0) (strict_rises rs h.1)

pub put-strict : (key v : Bytes) (rows : Rows) → IsStrict rows → IsStrict (put (slice_cmp nat_cmp) key v rows)
put-strict key v rows o = strict (put (slice_cmp nat_cmp) key v rows)
    (is_sorted-put (slice_cmp nat_cmp) nat_list_cmp_total key v rows (sorted rows o))

-- a row inserted where its key would have to stand
pub record LeafPut (keys values : List Bytes) (i : ℕ) (key v : Bytes) : Type 0 where
  pub is : insert (paired keys values) i (key, v) ≡ put (slice_cmp nat_cmp) key v (paired keys values)
  pub order : IsStrict (put (slice_cmp nat_cmp) key v (paired keys values))

pub leaf_put : (keys values : List Bytes) (i : ℕ) (key v : Bytes) → T (rises keys) → length values ≡ length keys
    → IsAbsent key keys i → LeafPut keys values i key v
leaf_put keys values i key v o l a =
    let r = absent_in key keys values i o l a in
    let k = keys_of-paired keys values l in
    let s : IsStrict (paired keys values) = strict (paired keys values)
    (rises_strict (paired keys values) (subst (λ w. T (rises w)) (sym k) o)) in
    record {
      is = ap (λ w. w ++ (key, v) ∷ drop i (paired keys values))
          (sym (cut_front r.front r.back (paired keys values) i (sym r.whole) r.at))
          ∙ ap (λ w. r.front ++ (key, v) ∷ w) (sym (cut_back r.front r.back (paired keys values) i (sym r.whole) r.at))
          ∙ ap (λ w. r.front ++ w) (sym (put-above key v r.back r.above)) ∙ sym
          (put-back key v r.front r.back r.below) ∙ ap (put (slice_cmp nat_cmp) key v) (sym r.whole);
      order = put-strict key v (paired keys values) s;
    }

-- keys and values that are rows in order
leaf_keys : (rows : Rows) (ks vs : List Bytes) → IsStrict rows → ArePairs rows ks vs → length rows ≤ 16
    → 0 < length rows → AreKeys ks × (length vs ≡ length ks) × (0 < length ks)
leaf_keys rows ks vs o a f z =
    let k = sym (keys_of-paired ks vs a.1) ∙ ap keys_of a.0 in (
      (omega (arith, ap length k, length-keys_of rows), subst (λ w. T (rises w)) (sym k) (strict_rises rows o)),
      a.1,
      omega (arith, ap length k, length-keys_of rows),
    )

row_pieces-append : (xs ys : Rows) → row_pieces (xs ++ ys) ≡ row_pieces xs ++ row_pieces ys
row_pieces-append [] ys = refl
row_pieces-append (r ∷ rs) ys = ap (λ w. (r.0, value r.1) ∷ w) (row_pieces-append rs ys)

-- the pieces of both halves
both_pieces : (rows a b : Rows) → a ≡ take 8 rows → b ≡ drop 8 rows → row_pieces a ++ row_pieces b ≡ row_pieces rows
both_pieces rows a b e f = sym (row_pieces-append a b) ∙ ap (λ w. row_pieces (w ++ b)) e ∙ ap
    (λ w. row_pieces (take 8 rows ++ w)) f ∙ ap row_pieces (take-append-drop 8 rows)

head_drop : (n : ℕ) (rows : Rows) → n < length rows → HeadIs (get_or (keys_of rows) n []) (row_pieces (drop n rows))
head_drop n [] l = absurd (omega arith)
head_drop zero (r ∷ rs) l = refl
head_drop (suc n) (r ∷ rs) l = head_drop n rs (omega arith)

-- the rows with the new one, once they are parted
pub parted_put : (keys values : List Bytes) (i : ℕ) (key v : Bytes) (nk ne : List Bytes)
    (r : Option (List Bytes × List Bytes))
    → T (rises keys) → length values ≡ length keys → IsAbsent key keys i
    → Parted (insert (paired keys values) i (key, v)) nk ne r
    → Parted (put (slice_cmp nat_cmp) key v (paired keys values)) nk ne r
parted_put keys values i key v nk ne r o l a h = subst (λ (w : Rows). Parted w nk ne r)
    (leaf_put keys values i key v o l a).is h

-- what a leaf's rows and its upper half's are, once a row is put
pub record LeafHalves (keys values nk ne k2 e2 : List Bytes) (i : ℕ) (key v : Bytes) : Type 0 where
  pub pieces : row_pieces (paired nk ne) ++ row_pieces (paired k2 e2)
      ≡ row_pieces (put (slice_cmp nat_cmp) key v (paired keys values))
  pub left : AreKeys nk × (length ne ≡ length nk) × (0 < length nk)
  pub right : AreKeys k2 × (length e2 ≡ length k2) × (0 < length k2)
  pub full : length keys ≡ 16
  pub first : HeadIs (get_or (insert keys i key) 8 []) (row_pieces (paired k2 e2))

pub leaf_halves : (keys values nk ne k2 e2 : List Bytes) (i : ℕ) (key v : Bytes) → T (rises keys)
    → length values ≡ length keys → IsAbsent key keys i
    → Parted (put (slice_cmp nat_cmp) key v (paired keys values)) nk ne (Some (k2, e2))
    → LeafHalves keys values nk ne k2 e2 i key v
leaf_halves keys values nk ne k2 e2 i key v o l a h =
    let p = leaf_put keys values i key v o l a in
    let rows = put (slice_cmp nat_cmp) key v (paired keys values) in
    let whole = take-append-drop 8 rows in
    let cut : IsStrict (take 8 rows ++ drop 8 rows) = subst IsStrict (sym whole) p.order in
    let lt : length (take 8 rows) ≡ 8 = length-take 8 rows ∙
    (let e : min 8 (length rows) ≡ 8 = omega (arith, h.2) in e) in
    let ld : length (drop 8 rows) ≡ 9 = length-drop 8 rows ∙ (let e : length rows - 8 ≡ 9 = omega (arith, h.2) in e) in
    let n : length rows ≡ length (paired keys values) + 1 = ap length (sym p.is) ∙ length-inserted
    (paired keys values) i (key, v) (omega (arith, a.0.0, length-paired keys values l)) in
    let ks : keys_of rows ≡ insert keys i key = ap keys_of (sym p.is ∙ sym (paired-insert keys values i key v l a.0.0))
    ∙ keys_of-paired (insert keys i key) (insert values i v)
    (omega (arith, length-inserted keys i key a.0.0, length-inserted values i v (omega (arith, a.0.0, l)), l)) in
    record {
      pieces = both_pieces rows (paired nk ne) (paired k2 e2) h.0.0 h.1.0;
      left = leaf_keys (take 8 rows) nk ne (IsStrict-front (take 8 rows) (drop 8 rows) cut) h.0 (omega (arith, lt))
          (omega (arith, lt));
      right = leaf_keys (drop 8 rows) k2 e2 (IsStrict-back (take 8 rows) (drop 8 rows) cut) h.1 (omega (arith, ld))
          (omega (arith, ld));
      full = omega (arith, n, h.2, length-paired keys values l);
      first = subst (λ w. HeadIs (get_or w 8 []) (row_pieces (paired k2 e2))) ks
          (subst (λ w. HeadIs (get_or (keys_of rows) 8 []) (row_pieces w)) (sym h.1.0)
          (head_drop 8 rows (omega (arith, h.2))));
    }

pub leaf_whole : (keys values nk ne : List Bytes) (i : ℕ) (key v : Bytes) → T (rises keys) → length values ≡ length keys
    → IsAbsent key keys i
    → Parted (put (slice_cmp nat_cmp) key v (paired keys values)) nk ne None
    → AreKeys nk × (length ne ≡ length nk) × (0 < length nk)
leaf_whole keys values nk ne i key v o l a h =
    let p = leaf_put keys values i key v o l a in
    let n = ap length (sym p.is) ∙ length-inserted (paired keys values) i (key, v)
    (omega (arith, a.0.0, length-paired keys values l)) in
    leaf_keys (put (slice_cmp nat_cmp) key v (paired keys values)) nk ne p.order h.0 h.1 (omega (arith, n))
