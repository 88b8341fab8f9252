-- One row more before a list, or one of the same key before each, and what is told of it before the changes.
use Rattle.std.proofs.Common.{◌≡◌, Bool, true, false, cond, T, List, [], ◌∷◌, ◌++◌, Some, None, refl, sym, ap, ◌∙◌}
use Rattle.std.proofs.Common.{subst, Equal, is_eq}
use Rattle.group_history.specs.Map.{Bytes, same_text}
use Rattle.group_history.specs.Rows.{Rows, keys_of, is_below_all, rises}
use Rattle.row_changes.specs.declared.changes.RowChange.{RowChange}
use Rattle.row_changes.specs.Changes.{AreChanges, between, change_at, values_told, value_in}
use Rattle.row_changes.specs.Inside.{addition, met, removal, replacement}
use Rattle.group_history.proofs.Rising.{cmp, both, same_key, tied, find-below}

-- whether it is that key
abbrev is_at : Bytes → Bytes → Bool
is_at k x = is_eq (cmp k x)

pub are_removed : (o : Bytes × Bytes) (os ns : Rows) (cs : List RowChange)
    → T (is_below_all o.0 (keys_of (values_told cs)))
    → T (is_below_all o.0 (keys_of ns)) → AreChanges os ns cs → AreChanges (o ∷ os) ns (removal o ∷ cs)
are_removed o os ns cs b h a =
    record { ascending = both _ _ b a.ascending; each = λ k. at_key k (is_at k o.0) refl }
  where
    change : Bytes → Bool → Type 0
    change k t = cond t (Some (Some o.1, None)) (change_at cs k)
        ≡ between (cond t (Some o.1) (value_in os k)) (value_in ns k)

    by : (k : Bytes) (t : Bool) → is_at k o.0 ≡ t → change k t
    by k true e =
        let none : value_in ns k ≡ None = ap (value_in ns) (tied k o.0 e) ∙ find-below o.0 ns h in
        sym (ap (between (Some o.1)) none)
    by k false e = a.each k

    at_key : (k : Bytes) (t : Bool) → is_at k o.0 ≡ t → change k (is_at k o.0)
    at_key k t e = subst (change k) (sym e) (by k t e)

pub are_added : (n : Bytes × Bytes) (os ns : Rows) (cs : List RowChange)
    → T (is_below_all n.0 (keys_of (values_told cs)))
    → T (is_below_all n.0 (keys_of os)) → AreChanges os ns cs → AreChanges os (n ∷ ns) (addition n ∷ cs)
are_added n os ns cs b h a =
    record { ascending = both _ _ b a.ascending; each = λ k. at_key k (is_at k n.0) refl }
  where
    change : Bytes → Bool → Type 0
    change k t = cond t (Some (None, Some n.1)) (change_at cs k)
        ≡ between (value_in os k) (cond t (Some n.1) (value_in ns k))

    by : (k : Bytes) (t : Bool) → is_at k n.0 ≡ t → change k t
    by k true e =
        let none : value_in os k ≡ None = ap (value_in os) (tied k n.0 e) ∙ find-below n.0 os h in
        sym (ap (λ old. between old (Some n.1)) none)
    by k false e = a.each k

    at_key : (k : Bytes) (t : Bool) → is_at k n.0 ≡ t → change k (is_at k n.0)
    at_key k t e = subst (change k) (sym e) (by k t e)

-- two rows of one key
met_at : (o n : Bytes × Bytes) (os ns : Rows) (cs : List RowChange) → o.0 ≡ n.0
    → T (is_below_all o.0 (keys_of (values_told cs))) → AreChanges os ns cs → (same : Bool) → same_text o.1 n.1 ≡ same
    → (k : Bytes) → change_at (cond same [] (replacement o n ∷ []) ++ cs) k
    ≡ between (value_in (o ∷ os) k) (value_in (n ∷ ns) k)
met_at o n os ns cs one b a same s k = at_key same s (is_at k o.0) refl
  where
    values : Bool → Bool → Type 0
    values is_same t = change_at (cond is_same [] (replacement o n ∷ []) ++ cs) k
        ≡ between (cond t (Some o.1) (value_in os k)) (cond t (Some n.1) (value_in ns k))

    at_first : (is_same : Bool) → same_text o.1 n.1 ≡ is_same
        → between (Some o.1) (Some n.1) ≡ cond is_same None (Some (Some o.1, Some n.1))
    at_first is_same e = ap (λ t. cond t None (Some (Some o.1, Some n.1))) e

    by : (is_same : Bool) → same_text o.1 n.1 ≡ is_same → (t : Bool) → is_at k o.0 ≡ t → values is_same t
    by true e true t =
        ap (change_at cs) (tied k o.0 t) ∙ find-below o.0 (values_told cs) b ∙ sym (at_first true e)
    by true e false t = a.each k
    by false e true t =
        ap (λ is. cond is (Some (Some o.1, Some n.1)) (change_at cs k)) t ∙ sym (at_first false e)
    by false e false t = ap (λ is. cond is (Some (Some o.1, Some n.1)) (change_at cs k)) t ∙ a.each k

    at_key : (is_same : Bool) → same_text o.1 n.1 ≡ is_same → (t : Bool) → is_at k o.0 ≡ t
        → change_at (cond is_same [] (replacement o n ∷ []) ++ cs) k
        ≡ between (value_in (o ∷ os) k) (value_in (n ∷ ns) k)
    at_key is_same e t is =
        by is_same e t is
        ∙ λ i. between (cond (sym is i) (Some o.1) (value_in os k))
        (cond ((sym is ∙ ap (is_at k) one) i) (Some n.1) (value_in ns k))

pub are_met : (o n : Bytes × Bytes) (os ns : Rows) (cs : List RowChange) → cmp o.0 n.0 ≡ Equal
    → T (is_below_all o.0 (keys_of (values_told cs))) → AreChanges os ns cs
    → AreChanges (o ∷ os) (n ∷ ns) (met o n ++ cs)
are_met o n os ns cs tie b a = record {
  ascending = in_order (same_text o.1 n.1);
  each = met_at o n os ns cs (same_key o.0 n.0 tie) b a (same_text o.1 n.1) refl;
}
  where
    in_order : (same : Bool) → T (rises (keys_of (values_told (cond same [] (replacement o n ∷ []) ++ cs))))
    in_order true = a.ascending
    in_order false = both _ _ b a.ascending
