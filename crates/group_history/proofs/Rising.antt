-- Keys that rise: those of a map's rows and of what a scan answers, and what stands at a key below all of them.
use Rattle.std.proofs.Common.{◌≡◌, ℕ, zero, suc, Bool, true, false, cond, ◌&&◌, T, List, [], ◌∷◌, take, refl}
use Rattle.std.proofs.Common.{Option, Some, None, sym, ap, ◌∙◌, subst, Ordering, Less, Equal, Greater, is_lt, is_eq}
use Rattle.std.proofs.Common.{nat_cmp}
use Rattle.std.specs.Cmp.Lexicographic.{slice_cmp, nat_list_cmp_total}
use Rattle.std.specs.FinMap as finite
use Rattle.std.specs.FinMap.Entries.{is_sorted-where_key, below_all, where_key}
use Rattle.group_history.specs.declared.scans.Scan.{Scan}
use Rattle.group_history.specs.Map.{Bytes}
use Rattle.group_history.specs.Rows.{keys_of, is_below_all, rises}
use Rattle.group_history.specs.Scans.{is_in, limited, rows_of}

-- the order of keys
abbrev pub cmp : Bytes → Bytes → Ordering
cmp x y = slice_cmp nat_cmp x y

pub both : (a b : Bool) → T a → T b → T (a && b)
both true b p q = q
both false b p q = p

pub first : (a b : Bool) → T (a && b) → T a
first true b p = tt
first false b p = p

pub second : (a b : Bool) → T (a && b) → T b
second true b p = p
second false b p = absurd p

less : (o : Ordering) → T (is_lt o) → o ≡ Less
less Less p = refl
less Equal p = absurd p
less Greater p = absurd p

pub is_less : (o : Ordering) → o ≡ Less → T (is_lt o)
is_less o p = subst (λ r. T (is_lt r)) (sym p) tt

equal : (o : Ordering) → is_eq o ≡ true → o ≡ Equal
equal Less p = absurd (subst T (sym p) tt)
equal Equal p = refl
equal Greater p = absurd (subst T (sym p) tt)

pub same_key : (x y : Bytes) → cmp x y ≡ Equal → x ≡ y
same_key x y e = finite.slice_cmp-IsAntisymmetric finite.nat_cmp-IsAntisymmetric x y e

pub tied : (x y : Bytes) → is_eq (cmp x y) ≡ true → x ≡ y
tied x y e = same_key x y (equal _ e)

-- a key below another is below what that one is below
pub below_less : (j k : Bytes) (ks : List Bytes) → cmp j k ≡ Less → T (is_below_all k ks) → T (is_below_all j ks)
below_less j k [] l h = tt
below_less j k (x ∷ ks) l h =
    let far : cmp j x ≡ Less = nat_list_cmp_total.trans j k x l (less _ (first _ _ h)) in
    both _ _ (is_less _ far) (below_less j k ks l (second _ _ h))

module _ {V : Type 0} where
  -- a key below all keys is not among them
  pub find-below : (k : Bytes) (es : List (Bytes × V)) → T (is_below_all k (keys_of es))
      → finite.find (slice_cmp nat_cmp) k es ≡ None
  find-below k [] h = refl
  find-below k (e ∷ es) h =
      ap (λ o. cond (is_eq o) (Some e.1) (finite.find (slice_cmp nat_cmp) k es)) (less _ (first _ _ h))
      ∙ find-below k es (second _ _ h)

  below_all-keys : (k : Bytes) (es : List (Bytes × V))
      → below_all (slice_cmp nat_cmp) k es ≡ is_below_all k (keys_of es)
  below_all-keys k [] = refl
  below_all-keys k (e ∷ es) = ap (λ b. is_lt (cmp k e.0) && b) (below_all-keys k es)

  -- entries are in order where their keys rise
  pub is_sorted-rises : (es : List (Bytes × V)) → finite.is_sorted (slice_cmp nat_cmp) es ≡ rises (keys_of es)
  is_sorted-rises [] = refl
  is_sorted-rises (e ∷ es) = λ i. below_all-keys e.0 es i && is_sorted-rises es i

  below_taken : (k : Bytes) (n : ℕ) (es : List (Bytes × V)) → T (is_below_all k (keys_of es))
      → T (is_below_all k (keys_of (take n es)))
  below_taken k zero es h = tt
  below_taken k (suc n) [] h = tt
  below_taken k (suc n) (e ∷ es) h = both _ _ (first _ _ h) (below_taken k n es (second _ _ h))

  rises_taken : (n : ℕ) (es : List (Bytes × V)) → T (rises (keys_of es)) → T (rises (keys_of (take n es)))
  rises_taken zero es h = tt
  rises_taken (suc n) [] h = tt
  rises_taken (suc n) (e ∷ es) h = both _ _ (below_taken e.0 n es (first _ _ h)) (rises_taken n es (second _ _ h))

  rises_limited : (limit : Option ℕ) (es : List (Bytes × V)) → T (rises (keys_of es))
      → T (rises (keys_of (limited limit es)))
  rises_limited None es h = h
  rises_limited (Some n) es h = rises_taken n es h

  -- the keys of what a scan answers rise
  pub rows_rise : (scan : Scan) (m : finite.FinMap (slice_cmp nat_cmp) V) → T (rises (keys_of (rows_of scan m)))
  rows_rise scan m =
      let es = finite.entries m in
      let kept = where_key (slice_cmp nat_cmp) (is_in scan) es in
      let sorted = is_sorted-where_key (slice_cmp nat_cmp) (is_in scan) es (finite.entries_sorted m) in
      rises_limited scan.limit kept (subst T (is_sorted-rises kept) sorted)
