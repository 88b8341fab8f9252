-- Keys in order, and a key's place among them.
use Rattle.std.proofs.Common.{◌≡◌, ◌<◌, ◌≤◌, ◌-◌, ℕ, zero, suc, true, false, cond, T, List, [], ◌∷◌, ◌++◌, Some, None}
use Rattle.std.proofs.Common.{length, get_or, slice_get, slice_index_or, refl, sym, ap, ◌∙◌, subst, arith, Ordering}
use Rattle.std.proofs.Common.{Less, Equal, Greater, is_gt, is_eq, nat_cmp}
use Rattle.std.specs.Ordering.{ordering_reverse}
use Rattle.std.specs.Cmp.Lexicographic.{slice_cmp}
use Rattle.std.specs.FinMap.{find}
use Rattle.group_history.specs.Map.{Bytes}
use Rattle.group_history.specs.Rows.{Rows, rises, keys_of, values_of, paired}
use Rattle.group_history.proofs.Pairs.{keys_of-paired, values_of-paired}
use Rattle.map_chunks.specs.Search.{is_above, IsFound, IsAbsent}
use Rattle.map_chunks.proofs.RowLemmas.{cmp, turned, less, less_trans, greater_less, first, same_key, is_itself}
use Rattle.map_chunks.proofs.RowLemmas.{AllBelow, AllAbove, AllAbove-back, AllAbove-less, IsStrict, strict}
use Rattle.map_chunks.proofs.RowLemmas.{rises_strict, find-above, find-back}

pub less_above : (x y : Bytes) → cmp x y ≡ Less → is_above y x ≡ true
less_above x y h = ap is_gt (turned y x ∙ ap ordering_reverse h)

pub second_above : (key : Bytes) (keys : List Bytes) → T (rises keys)
    → ((d : Bytes) → 0 < length keys → is_above (slice_index_or keys 0 d) key ≡ true)
    → (d : Bytes) → 1 < length keys → is_above (slice_index_or keys 1 d) key ≡ true
second_above key [] o h d l = absurd (omega arith)
second_above key (k ∷ []) o h d l = absurd (omega arith)
second_above key (k ∷ m ∷ ks) o h d l =
    let low = greater_less k key (h d (omega arith)) in
    less_above key m (less_trans key k m low (less _ (first _ _ (first _ _ o))))

-- the row of a key, and those before and behind it
pub record Found (key : Bytes) (rows : Rows) (i : ℕ) : Type 0 where
  pub value : Bytes
  pub front : Rows
  pub back : Rows
  pub whole : rows ≡ front ++ (key, value) ∷ back
  pub at : length front ≡ i
  pub below : AllBelow key front
  pub above : AllAbove key back

pub found : (key : Bytes) (rows : Rows) (i : ℕ) → IsStrict rows → i < length rows → get_or (keys_of rows) i [] ≡ key
    → Found key rows i
found key [] i o l e = absurd (omega arith)
found key (r ∷ rs) zero o l e = record {
  value = r.1;
  front = [];
  back = rs;
  whole = ap (λ w. (w, r.1) ∷ rs) e;
  at = refl;
  below = tt;
  above = subst (λ w. AllAbove w rs) e o.0;
}
found key (r ∷ rs) (suc i) o l e =
    let f = found key rs i o.1 (omega arith) e in
    record {
      value = f.value;
      front = r ∷ f.front;
      back = f.back;
      whole = ap (λ w. r ∷ w) f.whole;
      at = ap suc f.at;
      below = ((AllAbove-back r.0 f.front ((key, f.value) ∷ f.back) (subst (AllAbove r.0) f.whole o.0)).0, f.below);
      above = f.above;
    }

-- the rows below a key that isn't there, and those above it
pub record Absent (key : Bytes) (rows : Rows) (n : ℕ) : Type 0 where
  pub front : Rows
  pub back : Rows
  pub whole : rows ≡ front ++ back
  pub at : length front ≡ n
  pub below : AllBelow key front
  pub above : AllAbove key back

pub absent : (key : Bytes) (rows : Rows) (n : ℕ) → IsStrict rows → n ≤ length rows
    → ((m : ℕ) → n ≡ suc m → cmp (get_or (keys_of rows) m []) key ≡ Less)
    → (n < length rows → cmp key (get_or (keys_of rows) n []) ≡ Less) → Absent key rows n
absent key [] zero o l u h = record { front = []; back = []; whole = refl; at = refl; below = tt; above = tt }
absent key (r ∷ rs) zero o l u h = let g = h (omega arith) in
    record {
      front = [];
      back = r ∷ rs;
      whole = refl;
      at = refl;
      below = tt;
      above = (g, AllAbove-less key r.0 rs g o.0);
    }
absent key [] (suc n) o l u h = absurd (omega arith)
absent key (r ∷ rs) (suc zero) o l u h =
    let f = absent key rs zero o.1 (omega arith) (λ m e. absurd (omega arith)) (λ g. h (omega arith)) in
    record {
      front = r ∷ f.front;
      back = f.back;
      whole = ap (λ w. r ∷ w) f.whole;
      at = ap suc f.at;
      below = (u 0 refl, f.below);
      above = f.above;
    }
absent key (r ∷ rs) (suc (suc n)) o l u h =
    let f = absent key rs (suc n) o.1 (omega arith) (λ m e. u (suc m) (ap suc e)) (λ g. h (omega arith)) in
    by f.front f refl
  where
    by : (front : Rows) → (f : Absent key rs (suc n)) → f.front ≡ front → Absent key (r ∷ rs) (suc (suc n))
    by [] f e = absurd (omega (arith, f.at, ap length e))
    by (s ∷ front) f e =
        let low : cmp s.0 key ≡ Less = (subst (AllBelow key) e f.below).0 in
        let up : cmp r.0 s.0 ≡ Less = (subst (AllAbove r.0) (f.whole ∙ ap (λ w. w ++ f.back) e) o.0).0 in
        record {
          front = r ∷ f.front;
          back = f.back;
          whole = ap (λ w. r ∷ w) f.whole;
          at = ap suc f.at;
          below = (less_trans r.0 s.0 key up low, f.below);
          above = f.above;
        }

pub length-keys_of : {A : Type 0} (es : List (Bytes × A)) → length (keys_of es) ≡ length es
length-keys_of [] = refl
length-keys_of (e ∷ es) = ap suc (length-keys_of es)

pub length-values_of : {A : Type 0} (es : List (Bytes × A)) → length (values_of es) ≡ length es
length-values_of [] = refl
length-values_of (e ∷ es) = ap suc (length-values_of es)

is_same : (o : Ordering) → is_eq o ≡ true → o ≡ Equal
is_same Less h = absurd cc
is_same Equal h = refl
is_same Greater h = absurd cc

is_below : (o : Ordering) → is_gt o ≡ false → is_eq o ≡ false → o ≡ Less
is_below Less g h = refl
is_below Equal g h = absurd cc
is_below Greater g h = absurd cc

pub found_in : (key : Bytes) (keys values : List Bytes) (i : ℕ) → T (rises keys) → length values ≡ length keys
    → IsFound key keys i → Found key (paired keys values) i
found_in key keys values i o l h =
    let k = keys_of-paired keys values l in
    let s : T (rises (keys_of (paired keys values))) = subst (λ w. T (rises w)) (sym k) o in
    found key (paired keys values) i (strict (paired keys values) (rises_strict (paired keys values) s))
    (omega (arith, h.0, length-keys_of (paired keys values), ap length k))
    (ap (λ w. get_or w i []) k ∙ same_key (get_or keys i []) key (is_same _ (h.1 [])))

pub absent_in : (key : Bytes) (keys values : List Bytes) (n : ℕ) → T (rises keys) → length values ≡ length keys
    → IsAbsent key keys n → Absent key (paired keys values) n
absent_in key keys values n o l h =
    let k = keys_of-paired keys values l in
    let s : T (rises (keys_of (paired keys values))) = subst (λ w. T (rises w)) (sym k) o in
    let same : length (paired keys values)
    ≡ length keys = omega (arith, length-keys_of (paired keys values), ap length k) in
    absent key (paired keys values) n (strict (paired keys values) (rises_strict (paired keys values) s))
    (omega (arith, h.0.0))
    (λ m e. ap (λ w. cmp (get_or w m []) key) k ∙ low m e)
    (λ g. ap (λ w. cmp key (get_or w n [])) k ∙ greater_less (get_or keys n []) key (h.0.2 [] (omega arith)))
  where
    low : (m : ℕ) → n ≡ suc m → cmp (get_or keys m []) key ≡ Less
    low m e =
        let p : n - 1 ≡ m = omega arith in
        subst (λ j. cmp (get_or keys j []) key ≡ Less) p (is_below _ (h.0.1 [] (omega arith)) (h.1 [] (omega arith)))

pub find-found : (key : Bytes) (rows : Rows) (i : ℕ) → (f : Found key rows i)
    → find (slice_cmp nat_cmp) key rows ≡ Some f.value
find-found key rows i f = ap (find (slice_cmp nat_cmp) key) f.whole ∙ find-back key f.front
    ((key, f.value) ∷ f.back) f.below
    ∙ ap (λ o. cond (is_eq o) (Some f.value) (find (slice_cmp nat_cmp) key f.back)) (is_itself key)

pub find-absent : (key : Bytes) (rows : Rows) (n : ℕ) → Absent key rows n → find (slice_cmp nat_cmp) key rows ≡ None
find-absent key rows n f = ap (find (slice_cmp nat_cmp) key) f.whole ∙ find-back key f.front f.back f.below ∙ find-above
    key f.back f.above

-- what stands behind so many rows
at_seam : (front : Rows) (r : Bytes × Bytes) (back : Rows) (i : ℕ) → length front ≡ i
    → slice_get (values_of (front ++ r ∷ back)) i ≡ Some r.1
at_seam [] r back zero e = refl
at_seam [] r back (suc i) e = absurd (omega arith)
at_seam (f ∷ front) r back zero e = absurd (omega arith)
at_seam (f ∷ front) r back (suc i) e = at_seam front r back i (omega arith)

pub value-found : (key : Bytes) (keys values : List Bytes) (i : ℕ) → length values ≡ length keys
    → (f : Found key (paired keys values) i) → slice_get values i ≡ Some f.value
value-found key keys values i l f =
    ap (λ w. slice_get w i) (sym (values_of-paired keys values l)) ∙ ap
    (λ w. slice_get (values_of w) i) f.whole ∙ at_seam f.front (key, f.value) f.back i f.at

-- what indexing answers, where it is known what stands there
pub indexed : {A : Type 0} (xs : List A) (i : ℕ) (x v : A) → slice_get xs i ≡ Some v → x ≡ get_or xs i x → x ≡ v
indexed [] i x v h e = absurd cc
indexed (y ∷ xs) zero x v h e = e ∙ (let g : y ≡ v = cc h in g)
indexed (y ∷ xs) (suc i) x v h e = indexed xs i x v h e

pub got : {A : Type 0} (xs : List A) (i : ℕ) (d : A) → i < length xs → slice_get xs i ≡ Some (get_or xs i d)
got [] i d l = absurd (omega arith)
got (x ∷ xs) zero d l = refl
got (x ∷ xs) (suc i) d l = got xs i d (omega arith)
