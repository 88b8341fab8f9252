-- Rows in the order of their keys, the place of a key among them, and the finite map that they make.
use Rattle.std.proofs.Common.{◌≡◌, ℕ, zero, suc, ◌<◌, ◌≤◌, Bool, true, false, cond, not, IsTrue, ⊎_elim, arith}
use Rattle.std.proofs.Common.{List, [], ◌∷◌, length, get_or, insert, remove, Some, None}
use Rattle.std.proofs.Common.{refl, sym, ap, subst, ◌∙◌, add-one}
use Rattle.std.proofs.Math.ListN.{set}
use Rattle.std.proofs.lemmas.Bool.{cases_lt}
use Rattle.std.proofs.lemmas.List.Sorted.{searchable_from_sorted}
use Rattle.std.specs.Prelude.{T, ◌&&◌, is_some}
use Rattle.std.specs.List.Sorted.{IsNonDecreasingBy, IsSearchInRange, IsBinarySearchResult}
use Rattle.std.specs.Result.{is_ok}
use Rattle.std.specs.declared.result.Result.{Result}
use Rattle.std.specs.declared.result.Result.TheVariants.{Ok, Err}
use Rattle.std.specs.Ordering.{nat_cmp, eq_by_cmp, is_eq, is_lt, ordering_reverse, ordering_index}
use Rattle.std.specs.declared.cmp.Ordering.{Ordering}
use Rattle.std.specs.declared.cmp.Ordering.TheVariants.{Less, Equal, Greater}
use Rattle.std.specs.Cmp.{IsTotalOrder, tied_itself, eq_by_cmp_equiv}
use Rattle.std.specs.Cmp.Lexicographic.{slice_cmp, nat_list_cmp_total}
use Rattle.std.specs.FinMap.Entries.{put, by_order, find, where_key, below_all, is_sorted}
use Rattle.std.specs.FinMap.Entries.{is_sorted-put, is_sorted-where_key, find-where_key}
use Rattle.std.specs.FinMap as map
use Rattle.group_history.specs.Inside.TextRows.{IsRowAt, IsRowGap, IsRowPlace}

left : (a b : Bool) → T (a && b) → T a
left true b h = tt
left false b h = h

right : (a b : Bool) → T (a && b) → T b
right true b h = h
right false b h = absurd h

less : (o : Ordering) → T (is_lt o) → o ≡ Less
less Less h = refl
less Equal h = absurd h
less Greater h = absurd h

passes : (b : Bool) → IsTrue b → T b
passes b h = subst T (sym h) tt

is_true : (b : Bool) → T b → IsTrue b
is_true true h = refl
is_true false h = absurd h

module _ {K X : Type 0} (R : K → K → Ordering) where
  -- a key below all rows is below each
  below_at : (x : K) (es : List (K × X)) → T (below_all R x es)
      → (i : ℕ) (d : K × X) → i < length es → R x (get_or es i d).0 ≡ Less
  below_at x [] h i d lt = absurd (omega arith)
  below_at x (e ∷ es) h zero d lt = less _ (left _ _ h)
  below_at x (e ∷ es) h (suc i) d lt = below_at x es (right _ _ h) i d (omega arith)

  -- each key is below the next
  next_above : (es : List (K × X)) → T (is_sorted R es)
      → (i : ℕ) (d : K × X) → suc i < length es → R (get_or es i d).0 (get_or es (suc i) d).0 ≡ Less
  next_above [] h i d lt = absurd (omega arith)
  next_above (e ∷ es) h zero d lt = below_at e.0 es (left _ _ h) 0 d (omega arith)
  next_above (e ∷ es) h (suc i) d lt = next_above es (right _ _ h) i d (omega arith)

module _ {K : Type 0} (R : K → K → Ordering) (o : IsTotalOrder R) where
  greater : (x y : K) → R x y ≡ Less → R y x ≡ Greater
  greater x y h = o.antisymm y x ∙ ap ordering_reverse h

  lesser : (x y : K) → R x y ≡ Greater → R y x ≡ Less
  lesser x y h = o.antisymm y x ∙ ap ordering_reverse h

  tied : (x k : K) → x ≡ k → R k x ≡ Equal
  tied x k is = ap (R k) is ∙ tied_itself o k

module _ {K X : Type 0} (R : K → K → Ordering) (o : IsTotalOrder R) where
  -- what a search asks
  searchable : (es : List (K × X)) (k : K) → T (is_sorted R es) → IsNonDecreasingBy (λ e. ordering_index (R e.0 k)) es
  searchable es k h = searchable_from_sorted o (λ e. e.0) es k (λ i d low high.
      rw add-one (ap is_lt (greater R o _ _ (next_above R es h i d (omega arith)))))

  -- ---- no row has the key
  missed : (es : List (K × X)) (k : K)
      → ((i : ℕ) (d : K × X) → i < length es → is_eq (R k (get_or es i d).0) ≡ false) → find R k es ≡ None
  missed [] k h = refl
  missed (e ∷ es) k h =
      ap (λ b. cond b (Some e.1) (find R k es)) (h 0 e (omega arith))
      ∙ missed es k (λ i d lt. h (suc i) d (omega arith))

  all_kept : (es : List (K × X)) (k : K)
      → ((i : ℕ) (d : K × X) → i < length es → is_eq (R k (get_or es i d).0) ≡ false)
      → where_key R (λ x. not (eq_by_cmp R k x)) es ≡ es
  all_kept [] k h = refl
  all_kept (e ∷ es) k h =
      let rest = where_key R (λ x. not (eq_by_cmp R k x)) es in
      ap (λ b. cond (not b) (e ∷ rest) rest) (h 0 e (omega arith))
      ∙ ap (λ l. e ∷ l) (all_kept es k (λ i d lt. h (suc i) d (omega arith)))

  apart : (es : List (K × X)) (k : K) (at : ℕ)
      → ((i : ℕ) (d : K × X) → 0 ≤ i → i < at → R (get_or es i d).0 k ≡ Less)
      → ((i : ℕ) (d : K × X) → at ≤ i → i < length es → R (get_or es i d).0 k ≡ Greater)
      → (i : ℕ) (d : K × X) → i < length es → is_eq (R k (get_or es i d).0) ≡ false
  apart es k at low high i d lt = ⊎_elim
      (λ before. ap is_eq (greater R o _ _ (low i d (omega arith) before)))
      (λ from. ap is_eq (lesser R o _ _ (high i d from lt)))
      (cases_lt i at)

  put_gap : (es : List (K × X)) (k : K) (v : X) (at : ℕ) → at ≤ length es
      → ((i : ℕ) (d : K × X) → 0 ≤ i → i < at → R (get_or es i d).0 k ≡ Less)
      → ((i : ℕ) (d : K × X) → at ≤ i → i < length es → R (get_or es i d).0 k ≡ Greater)
      → insert es at (k, v) ≡ put R k v es
  put_gap [] k v zero le low high = refl
  put_gap [] k v (suc at) le low high = absurd (omega arith)
  put_gap (e ∷ es) k v zero le low high =
      ap (λ r. by_order r ((k, v) ∷ e ∷ es) ((e.0, v) ∷ es) (e ∷ put R k v es))
      (sym (lesser R o _ _ (high 0 e (omega arith) (omega arith))))
  put_gap (e ∷ es) k v (suc at) le low high =
      ap (λ l. e ∷ l) (put_gap es k v at (omega arith) (λ i d a b. low (suc i) d (omega arith) (omega arith))
      (λ i d a b. high (suc i) d (omega arith) (omega arith)))
      ∙ ap (λ r. by_order r ((k, v) ∷ e ∷ es) ((e.0, v) ∷ es) (e ∷ put R k v es))
      (sym (greater R o _ _ (low 0 e (omega arith) (omega arith))))

  -- ---- the row at `at` has the key
  above : (e : K × X) (es : List (K × X)) (k : K) (at : ℕ) → T (below_all R e.0 es) → at < length es
      → ((d : K × X) → (get_or es at d).0 ≡ k) → R k e.0 ≡ Greater
  above e es k at h lt is = greater R o _ _ (ap (R e.0) (sym (is e)) ∙ below_at R e.0 es h at e lt)

  find_found : (es : List (K × X)) (k : K) (at : ℕ) → T (is_sorted R es) → at < length es
      → ((d : K × X) → (get_or es at d).0 ≡ k) → (d : K × X) → find R k es ≡ Some (get_or es at d).1
  find_found [] k at h lt is d = absurd (omega arith)
  find_found (e ∷ es) k zero h lt is d =
      ap (λ r. cond (is_eq r) (Some e.1) (find R k es)) (tied R o e.0 k (is e))
  find_found (e ∷ es) k (suc at) h lt is d =
      ap (λ r. cond (is_eq r) (Some e.1) (find R k es)) (above e es k at (left _ _ h) (omega arith) is)
      ∙ find_found es k at (right _ _ h) (omega arith) is d

  put_found : (es : List (K × X)) (k : K) (v : X) (at : ℕ) → T (is_sorted R es) → at < length es
      → ((d : K × X) → (get_or es at d).0 ≡ k) → set es at (k, v) ≡ put R k v es
  put_found [] k v at h lt is = absurd (omega arith)
  put_found (e ∷ es) k v zero h lt is =
      ap (λ x. (x, v) ∷ es) (sym (is e))
      ∙ ap (λ r. by_order r ((k, v) ∷ e ∷ es) ((e.0, v) ∷ es) (e ∷ put R k v es)) (sym (tied R o e.0 k (is e)))
  put_found (e ∷ es) k v (suc at) h lt is =
      ap (λ l. e ∷ l) (put_found es k v at (right _ _ h) (omega arith) is)
      ∙ ap (λ r. by_order r ((k, v) ∷ e ∷ es) ((e.0, v) ∷ es) (e ∷ put R k v es))
      (sym (above e es k at (left _ _ h) (omega arith) is))

  without_found : (es : List (K × X)) (k : K) (at : ℕ) → T (is_sorted R es) → at < length es
      → ((d : K × X) → (get_or es at d).0 ≡ k)
      → where_key R (λ x. not (eq_by_cmp R k x)) es ≡ remove es at
  without_found [] k at h lt is = absurd (omega arith)
  without_found (e ∷ es) k zero h lt is =
      let rest = where_key R (λ x. not (eq_by_cmp R k x)) es in
      ap (λ r. cond (not (is_eq r)) (e ∷ rest) rest) (tied R o e.0 k (is e))
      ∙ all_kept es k (λ i d b. ap is_eq
      (subst (λ x. R x (get_or es i d).0 ≡ Less) (is e) (below_at R e.0 es (left _ _ h) i d b)))
  without_found (e ∷ es) k (suc at) h lt is =
      let rest = where_key R (λ x. not (eq_by_cmp R k x)) es in
      ap (λ r. cond (not (is_eq r)) (e ∷ rest) rest) (above e es k at (left _ _ h) (omega arith) is)
      ∙ ap (λ l. e ∷ l) (without_found es k at (right _ _ h) (omega arith) is)

turned : {A : Type 0} (b : Bool) (x y : A) → cond (not b) x y ≡ cond b y x
turned true x y = refl
turned false x y = refl

abbrev order : List ℕ → List ℕ → Ordering
order = slice_cmp nat_cmp

text_cmp-IsAntisymmetric : map.IsAntisymmetric order
text_cmp-IsAntisymmetric = map.slice_cmp-IsAntisymmetric map.nat_cmp-IsAntisymmetric

module _ {V : Type 0} where
  -- the map that rows make
  abbrev made : List (List ℕ × V) → map.FinMap order V
  made = map.from_sorted

  pub entries_made : (es : List (List ℕ × V)) → IsTrue (is_sorted order es) → map.entries (made es) ≡ es
  entries_made es h = map.entries-from_sorted order es (passes _ h)

  -- no rows make the empty map
  pub no_rows : made [] ≡ map.empty
  no_rows = map.empty_of_len _ (map.len-entries _ ∙ ap length (entries_made [] refl))

  -- where a search ends
  pub placed : (es : List (List ℕ × V)) (k : List ℕ) (r : Result ℕ ℕ) → IsTrue (is_sorted order es)
      → IsSearchInRange r (length es) → IsBinarySearchResult (λ e. order e.0 k) es r → IsRowPlace es k r
  placed es k (Ok at) h within is = (within, λ d. text_cmp-IsAntisymmetric _ _ (is d))
  placed es k (Err gap) h within is =
      let parts = is (searchable order nat_list_cmp_total es k (passes _ h)) in
      (within, parts.0, parts.1)

  pub get_found : (es : List (List ℕ × V)) (k : List ℕ) (at : ℕ) → IsTrue (is_sorted order es) → IsRowAt es k at
      → (d : List ℕ × V) → map.get (made es) k ≡ Some (get_or es at d).1
  get_found es k at h found d =
      map.get-from_sorted order es k (passes _ h)
      ∙ find_found order nat_list_cmp_total es k at (passes _ h) found.0 found.1 d

  pub get_none : (es : List (List ℕ × V)) (k : List ℕ) (gap : ℕ) → IsTrue (is_sorted order es) → IsRowGap es k gap
      → map.get (made es) k ≡ None
  get_none es k gap h is =
      map.get-from_sorted order es k (passes _ h)
      ∙ missed order nat_list_cmp_total es k (apart order nat_list_cmp_total es k gap is.1 is.2)

  pub has_place : (es : List (List ℕ × V)) (k : List ℕ) (r : Result ℕ ℕ) → IsTrue (is_sorted order es)
      → IsRowPlace es k r → is_ok r ≡ map.contains_key (made es) k
  has_place [] k (Ok at) h place = absurd (omega (arith, place.0))
  has_place (e ∷ es) k (Ok at) h place = sym (ap is_some (get_found (e ∷ es) k at h place e))
  has_place es k (Err gap) h place = sym (ap is_some (get_none es k gap h place))

  sorted_put : (es : List (List ℕ × V)) (k : List ℕ) (v : V) → IsTrue (is_sorted order es)
      → IsTrue (is_sorted order (put order k v es))
  sorted_put es k v h = is_true _ (is_sorted-put order nat_list_cmp_total k v es (passes _ h))

  made_put : (es : List (List ℕ × V)) (k : List ℕ) (v : V) → IsTrue (is_sorted order es)
      → made (put order k v es) ≡ map.insert (made es) k v
  made_put es k v h = map.same_entries_map _ _
      (entries_made _ (sorted_put es k v h)
      ∙ ap (put order k v) (sym (entries_made es h))
      ∙ sym (map.entries-insert nat_list_cmp_total (made es) k v))

  -- a row of the key is replaced: the rows stay in order, and make the map with the key
  set_is_put : (es : List (List ℕ × V)) (k : List ℕ) (v : V) (at : ℕ) → IsTrue (is_sorted order es)
      → IsRowAt es k at → set es at (k, v) ≡ put order k v es
  set_is_put es k v at h found = put_found order nat_list_cmp_total es k v at (passes _ h) found.0 found.1

  pub set_sorted : (es : List (List ℕ × V)) (k : List ℕ) (v : V) (at : ℕ) → IsTrue (is_sorted order es)
      → IsRowAt es k at → IsTrue (is_sorted order (set es at (k, v)))
  set_sorted es k v at h found =
      subst (λ l. IsTrue (is_sorted order l)) (sym (set_is_put es k v at h found)) (sorted_put es k v h)

  pub set_made : (es : List (List ℕ × V)) (k : List ℕ) (v : V) (at : ℕ) → IsTrue (is_sorted order es)
      → IsRowAt es k at → made (set es at (k, v)) ≡ map.insert (made es) k v
  set_made es k v at h found = ap made (set_is_put es k v at h found) ∙ made_put es k v h

  -- a row goes to its place
  insert_is_put : (es : List (List ℕ × V)) (k : List ℕ) (v : V) (gap : ℕ) → IsRowGap es k gap
      → insert es gap (k, v) ≡ put order k v es
  insert_is_put es k v gap is = put_gap order nat_list_cmp_total es k v gap is.0 is.1 is.2

  pub insert_sorted : (es fs : List (List ℕ × V)) (k : List ℕ) (v : V) (gap : ℕ) → IsTrue (is_sorted order es)
      → IsRowGap es k gap → fs ≡ insert es gap (k, v) → IsTrue (is_sorted order fs)
  insert_sorted es fs k v gap h is new =
      subst (λ l. IsTrue (is_sorted order l)) (sym (new ∙ insert_is_put es k v gap is)) (sorted_put es k v h)

  pub insert_made : (es fs : List (List ℕ × V)) (k : List ℕ) (v : V) (gap : ℕ) → IsTrue (is_sorted order es)
      → IsRowGap es k gap → fs ≡ insert es gap (k, v) → made fs ≡ map.insert (made es) k v
  insert_made es fs k v gap h is new = ap made (new ∙ insert_is_put es k v gap is) ∙ made_put es k v h

  -- the rows whose key is not k
  abbrev without : List ℕ → List (List ℕ × V) → List (List ℕ × V)
  without k = where_key order (λ x. not (eq_by_cmp order k x))

  sorted_without : (es : List (List ℕ × V)) (k : List ℕ) → IsTrue (is_sorted order es)
      → IsTrue (is_sorted order (without k es))
  sorted_without es k h = is_true _ (is_sorted-where_key order (λ x. not (eq_by_cmp order k x)) es (passes _ h))

  find-without : (es : List (List ℕ × V)) (k q : List ℕ)
      → find order q (without k es) ≡ cond (eq_by_cmp order q k) None (find order q es)
  find-without es k q =
      find-where_key order (λ x. not (eq_by_cmp order k x)) q
      (λ x t. ap (λ y. not (eq_by_cmp order k y)) (sym (text_cmp-IsAntisymmetric q x t))) es
      ∙ turned (eq_by_cmp order k q) (find order q es) None
      ∙ ap (λ b. cond b None (find order q es)) ((eq_by_cmp_equiv nat_list_cmp_total).symm k q)

  made_without : (es : List (List ℕ × V)) (k : List ℕ) → IsTrue (is_sorted order es)
      → made (without k es) ≡ map.remove (made es) k
  made_without es k h = map.same_map nat_list_cmp_total text_cmp-IsAntisymmetric _ _ (λ q.
      map.get-from_sorted order (without k es) q (passes _ (sorted_without es k h))
      ∙ find-without es k q
      ∙ ap (cond (eq_by_cmp order q k) None) (sym (map.get-from_sorted order es q (passes _ h)))
      ∙ sym (map.get-remove nat_list_cmp_total (made es) k q))

  -- a row of the key is taken out
  remove_is_without : (es : List (List ℕ × V)) (k : List ℕ) (at : ℕ) → IsTrue (is_sorted order es)
      → IsRowAt es k at → without k es ≡ remove es at
  remove_is_without es k at h found = without_found order nat_list_cmp_total es k at (passes _ h) found.0 found.1

  pub remove_sorted : (es fs : List (List ℕ × V)) (k : List ℕ) (at : ℕ) → IsTrue (is_sorted order es)
      → IsRowAt es k at → fs ≡ remove es at → IsTrue (is_sorted order fs)
  remove_sorted es fs k at h found new =
      subst (λ l. IsTrue (is_sorted order l)) (remove_is_without es k at h found ∙ sym new) (sorted_without es k h)

  pub remove_made : (es fs : List (List ℕ × V)) (k : List ℕ) (at : ℕ) → IsTrue (is_sorted order es)
      → IsRowAt es k at → fs ≡ remove es at → made fs ≡ map.remove (made es) k
  remove_made es fs k at h found new =
      ap made (new ∙ sym (remove_is_without es k at h found)) ∙ made_without es k h

  pub remove_none : (es : List (List ℕ × V)) (k : List ℕ) (gap : ℕ) → IsTrue (is_sorted order es)
      → IsRowGap es k gap → made es ≡ map.remove (made es) k
  remove_none es k gap h is =
      ap made (sym (all_kept order nat_list_cmp_total es k (apart order nat_list_cmp_total es k gap is.1 is.2)))
      ∙ made_without es k h
