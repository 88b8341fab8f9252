-- The laws of changes.
use Rattle.std.proofs.Common.{◌≡◌, true, false, Bool, cond, T, List, [], ◌∷◌, map, Option, Some, None, refl, sym, ap}
use Rattle.std.proofs.Common.{◌∙◌, subst, nat_cmp}
use Rattle.std.specs.Cmp.Lexicographic.{slice_cmp, nat_list_cmp_total, same_text as same_bytes}
use Rattle.std.specs.FinMap as finite
use Rattle.std.specs.FinMap.Entries.{same_entries}
use Rattle.group_history.specs.Map.{Bytes, same_text}
use Rattle.group_history.specs.Rows.{Rows}
use Rattle.row_changes.specs.declared.changes.RowChange.{RowChange}
use Rattle.row_changes.specs.Changes.{AreChanges, Values, between, change_at, values_told, value_in}
use Rattle.row_changes.specs.Laws.{ChangesLaws, laid}
use Rattle.group_history.proofs.Rising.{is_sorted-rises, same_key}

-- the changes that tell this
abbrev changes : List (Bytes × Values) → List RowChange
changes ps = map (λ p. record { key = p.0; old = p.1.0; new = p.1.1 }) ps

changes-told : (cs : List RowChange) → changes (values_told cs) ≡ cs
changes-told [] = refl
changes-told (c ∷ cs) = ap (λ ds. c ∷ ds) (changes-told cs)

in_order : (old new : Rows) (cs : List RowChange) → AreChanges old new cs
    → T (finite.is_sorted (slice_cmp nat_cmp) (values_told cs))
in_order old new cs a = subst T (sym (is_sorted-rises (values_told cs))) a.ascending

once : (old new : Rows) (cs ds : List RowChange) → AreChanges old new cs → AreChanges old new ds → cs ≡ ds
once old new cs ds a b =
    let one : values_told cs ≡ values_told ds = same_entries (slice_cmp nat_cmp) nat_list_cmp_total same_key
    (values_told cs) (values_told ds)
    (in_order old new cs a) (in_order old new ds b) (λ k. a.each k ∙ sym (b.each k)) in
    sym (changes-told cs) ∙ ap changes one ∙ changes-told ds

laid-between : (old new : Option Bytes) → laid (between old new) old ≡ new
laid-between None None = refl
laid-between None (Some new) = refl
laid-between (Some old) None = refl
laid-between (Some old) (Some new) = by (same_text old new) refl
  where
    by : (b : Bool) → same_text old new ≡ b → laid (cond b None (Some (Some old, Some new))) (Some old) ≡ Some new
    by true e = ap Some (same_bytes old new (sym e))
    by false e = refl

applied : (old new : Rows) (cs : List RowChange) → AreChanges old new cs → (key : Bytes)
    → laid (change_at cs key) (value_in old key) ≡ value_in new key
applied old new cs a key = ap (λ c. laid c (value_in old key)) (a.each key) ∙ laid-between _ _

pub laws : ChangesLaws
laws = record { once = once; applied = applied }
