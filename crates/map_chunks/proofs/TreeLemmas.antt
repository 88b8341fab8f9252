-- Rows and the map that they are.
use Rattle.std.proofs.Common.{◌≡◌, ℕ, Bool, true, false, cond, T, List, [], Option, Some, None, refl, sym, ap, ◌∙◌}
use Rattle.std.proofs.Common.{subst, nat_cmp, length, ◌∷◌, arith}
use Rattle.std.specs.Prelude.{option_and_then, option_map}
use Rattle.std.specs.Cmp.Lexicographic.{slice_cmp}
use Rattle.std.specs.FinMap as finite
use Rattle.group_history.specs.Map.{Bytes, Entries}
use Rattle.group_history.specs.Rows.{Rows}
use Rattle.group_history.specs.Spelling.{Contents, Segment, segment_at, map_at, segment_map}
use Rattle.map_chunks.specs.Shown.{chunk_rows, IsTree, rows_or, map_of_rows}

-- the map of a placed root is that of its rows
pub map_at-rows : (p : Contents) (k : ℕ) → map_at p k ≡ option_and_then map_of_rows (chunk_rows p k)
map_at-rows p k = by (segment_at p k)
  where
    by : (o : Option Segment) → option_and_then segment_map o
        ≡ option_and_then map_of_rows (option_map (λ (s : Segment). s.rows) o)
    by None = refl
    by (Some s) = refl

pub record MapOf (x : Option Rows) (m : Entries) : Type 0 where
  pub tree : IsTree x
  pub rows : finite.entries m ≡ rows_or x
  pub is : x ≡ Some (finite.entries m)

pub map_is : (x : Option Rows) (m : Entries) → option_and_then map_of_rows x ≡ Some m → MapOf x m
map_is None m h = absurd cc
map_is (Some rs) m h = by (finite.is_sorted (slice_cmp nat_cmp) rs) refl h
  where
    by : (u : Bool) → finite.is_sorted (slice_cmp nat_cmp) rs ≡ u → cond u (Some (finite.from_sorted rs)) None ≡ Some m
        → MapOf (Some rs) m
    by true q g =
        let o : T (finite.is_sorted (slice_cmp nat_cmp) rs) = subst T (sym q) tt in
        let e : finite.from_sorted rs ≡ m = cc g in
        let r = ap finite.entries (sym e) ∙ finite.entries-from_sorted (slice_cmp nat_cmp) rs o in
        record { tree = o; rows = r; is = ap (λ w. Some w) (sym r) }
    by false q g = absurd cc

pub value_of_map : (x : Option Rows) (m : Entries) (key : Bytes) → option_and_then map_of_rows x ≡ Some m
    → finite.find (slice_cmp nat_cmp) key (rows_or x) ≡ finite.get m key
value_of_map x m key h =
    let f = map_is x m h in
    ap (finite.find (slice_cmp nat_cmp) key) (sym f.rows) ∙ sym (finite.get-entries m key)

-- rows in order are a map
pub map_from : (x : Option Rows) (m : Entries) → x ≡ Some (finite.entries m) → option_and_then map_of_rows x ≡ Some m
map_from x m e = ap (option_and_then map_of_rows) e ∙ by (finite.is_sorted (slice_cmp nat_cmp) (finite.entries m)) refl
  where
    o : T (finite.is_sorted (slice_cmp nat_cmp) (finite.entries m))
    o = finite.entries_sorted m

    by : (u : Bool) → finite.is_sorted (slice_cmp nat_cmp) (finite.entries m) ≡ u
        → cond u (Some (finite.from_sorted (finite.entries m))) None ≡ Some m
    by true q = ap (λ w. Some w) (finite.same_entries_map (finite.from_sorted (finite.entries m)) m
        (finite.entries-from_sorted (slice_cmp nat_cmp) (finite.entries m) o))
    by false q = absurd (subst T q o)

nothing : {A : Type 0} (xs : List A) → length xs ≡ 0 → xs ≡ []
nothing [] h = refl
nothing (x ∷ xs) h = absurd (omega arith)

abbrev pub no_entries : Entries
no_entries = finite.empty

pub entries-empty : finite.entries no_entries ≡ []
entries-empty = nothing (finite.entries {R = slice_cmp nat_cmp} (finite.empty {X = Bytes}))
    (sym (finite.len-entries (finite.empty {X = Bytes} {R = slice_cmp nat_cmp})) ∙ finite.len-empty
    (slice_cmp nat_cmp) Bytes)

pub map_of_nothing : option_and_then map_of_rows (Some [])
    ≡ Some (finite.empty {K = Bytes} {X = Bytes} {R = slice_cmp nat_cmp})
map_of_nothing = map_from (Some []) no_entries (ap (λ w. Some w) (sym entries-empty))
