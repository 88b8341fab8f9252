-- What a put makes of a map.
use Rattle.std.proofs.Common.{◌≡◌, ℕ, cond, Option, Some, Result, Ok, Err, IfOk, refl, sym, ap, ◌∙◌}
use Rattle.std.proofs.Common.{subst, nat_cmp, Equal, Ordering, Less, Greater, is_eq}
use Rattle.std.specs.Prelude.{IsSome, option_and_then}
use Rattle.std.specs.Cmp.Lexicographic.{slice_cmp, nat_list_cmp_total}
use Rattle.std.specs.FinMap as finite
use mathlib.Core.List.{IsPrefix}
use Rattle.group_history.specs.Map.{Bytes, Entries}
use Rattle.group_history.specs.Refs.{stamp_of}
use Rattle.group_history.specs.Rows.{Rows}
use Rattle.group_history.specs.Spelling.{Contents, map_at}
use Rattle.group_history.proofs.Folding.{and_then-some}
use Rattle.group_history.proofs.Spellings.{map-stays}
use Rattle.map_chunks.specs.Shown.{shown, chunk_rows, IsTree, rows_or, map_of_rows}
use Rattle.map_tree.specs.Trees.{root_map}
use Rattle.map_tree.specs.declared.tree.Root.{Root}
use Rattle.map_tree.specs.declared.tree.Root.TheVariants.{Placed, Own}
use Rattle.map_nodes.proofs.ChangeLemmas.{shown-kept}
use Rattle.map_chunks.proofs.OpenLemmas.{spells_rows, Spells}
use Rattle.map_chunks.proofs.RowLemmas.{cmp, same_key}
use Rattle.map_chunks.proofs.Shelves.{some_of}
use Rattle.map_chunks.proofs.TreeLemmas.{map_at-rows, map_is, map_from}

pub put_map : (x y : Option Rows) (m : Entries) (key v : Bytes) → option_and_then map_of_rows x ≡ Some m
    → y ≡ Some (finite.put (slice_cmp nat_cmp) key v (rows_or x))
    → option_and_then map_of_rows y ≡ Some (finite.insert m key v)
put_map x y m key v h e =
    map_from y (finite.insert m key v) (e ∙ ap (λ w. Some (finite.put (slice_cmp nat_cmp) key v w))
    (sym (map_is x m h).rows) ∙ ap (λ w. Some w) (sym (finite.entries-insert nat_list_cmp_total m key v)))

-- a value that is there is put in vain
pub put_same : (m : Entries) (key v : Bytes) → finite.get m key ≡ Some v → finite.insert m key v ≡ m
put_same m key v h = finite.same_map nat_list_cmp_total same_key (finite.insert m key v) m
    (λ q. finite.get-insert nat_list_cmp_total m key v q ∙ by q (cmp q key) refl)
  where
    by : (q : Bytes) (o : Ordering) → cmp q key ≡ o
        → cond (is_eq (slice_cmp nat_cmp q key)) (Some v) (finite.get m q) ≡ finite.get m q
    by q Equal e = ap (λ o. cond (is_eq o) (Some v) (finite.get m q)) e ∙ sym h ∙ ap (finite.get m)
        (sym (same_key q key e))
    by q Less e = ap (λ o. cond (is_eq o) (Some v) (finite.get m q)) e
    by q Greater e = ap (λ o. cond (is_eq o) (Some v) (finite.get m q)) e

pub root_kept : (old new : Contents) (r : Root) (m : Entries) → IsPrefix old new → root_map old r ≡ Some m
    → root_map new r ≡ Some m
root_kept old new (Placed at) m p h = subst (λ c. map_at c (stamp_of at) ≡ Some m) p.1
    (map-stays old p.0 (stamp_of at) m h)
root_kept old new (Own n) m p h =
    let s = and_then-some (shown old n.pieces) map_of_rows m h in
    ap (option_and_then map_of_rows) (shown-kept old new n.pieces s.0 p s.1) ∙ s.2

-- the segment of a placed map
pub placed_map : (p : Contents) (k : ℕ) (m : Entries) → map_at p k ≡ Some m → Spells p k (finite.entries m)
placed_map p k m h = spells_rows p k (finite.entries m) (map_is (chunk_rows p k) m (sym (map_at-rows p k) ∙ h)).is

pub entries_tree : (x : Option Rows) (m : Entries) → x ≡ Some (finite.entries m) → IsTree x
entries_tree x m e = subst IsTree (sym e) (finite.entries_sorted m)

pub depth_is : {E : Type 0} (r : Result ℕ E) (x : Option ℕ) (n : ℕ) → x ≡ Some n → IfOk r (λ d. d ≡ n)
    → IfOk r (λ d. x ≡ Some d)
depth_is (Ok d) x n e h = e ∙ ap (λ w. Some w) (sym h)
depth_is (Err e) x n f h = tt

pub kept_there : (old new : Contents) (r : Root) → IsPrefix old new → IsSome (root_map old r) → IsSome (root_map new r)
kept_there old new r p h = let s = some_of (root_map old r) h in subst IsSome (sym (root_kept old new r s.0 p s.1)) refl

pub put_there : (x y : Option Entries) (f : Entries → Entries) → IsSome x
    → ((m : Entries) → x ≡ Some m → y ≡ Some (f m)) → IsSome y
put_there x y f h g = let s = some_of x h in subst IsSome (sym (g s.0 s.1)) refl
