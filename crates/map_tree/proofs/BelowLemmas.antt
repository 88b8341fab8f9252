-- What spells something has a stamp among those of the contents; so has what a tree names that spells a map.
use Rattle.std.proofs.Common.{◌≡◌, ◌<◌, ◌≤◌, ◌+◌, ℕ, inl, inr, List, [], ◌∷◌, map, length, Option, Some, None, IsSome}
use Rattle.std.proofs.Common.{refl, sym, subst, arith}
use Rattle.std.proofs.lemmas.List.{length-append, length-map}
use Rattle.std.proofs.lemmas.List.Elements.{Contains-append_cases}
use Rattle.group_history.specs.declared.nodes.Node.{Node}
use Rattle.group_history.specs.declared.refs.Ref.{Ref}
use Rattle.group_history.specs.Folds.{answer}
use Rattle.group_history.specs.Map.{Bytes, Entries}
use Rattle.group_history.specs.Naming.{content_of}
use Rattle.group_history.specs.Refs.{stamp_of}
use Rattle.group_history.specs.Rows.{Rows}
use Rattle.group_history.specs.Spelling.{Contents, Spelled, Segment, Version, as_segment, as_version, spelled}
use Rattle.group_history.specs.Spelling.{spelled_by, segment_at, version_at, rows_at, rows_if, map_at, segment_map}
use Rattle.group_history.specs.Spelling.{joined_one}
use Rattle.group_history.proofs.Folding.{and_then-some, answer_within, length_folded}
use Rattle.group_history.proofs.Lists.{only_one}
use Rattle.map_chunks.specs.Drafts.{Drafted, AreBelow}
use Rattle.map_chunks.specs.Places.{with_nodes, part_places, places_of}
use Rattle.map_chunks.specs.Shown.{Part, value, chunk, Piece, part_rows, shown, map_of_rows}
use Rattle.map_chunks.proofs.DraftLemmas.{below-none, below-more}
use Rattle.map_tree.specs.Trees.{root_map, root_places, tree_map, tree_places}
use Rattle.map_tree.specs.declared.tree.Root.{Root}
use Rattle.map_tree.specs.declared.tree.Root.TheVariants.{Placed, Own}
use Rattle.map_tree.specs.declared.tree.Tree.{Tree}

-- STAMPS THAT SPELL

answered-within : (ns : Contents) (k : ℕ) (x : Spelled) → answer (spelled ns) k ≡ Some x → k < length ns
answered-within ns k x h = omega (arith, answer_within (spelled ns) k x h, length_folded spelled_by [] ns)

segment-within : (ns : Contents) (k : ℕ) (s : Segment) → segment_at ns k ≡ Some s → k < length ns
segment-within ns k s h = let m = and_then-some (answer (spelled ns) k) as_segment s h in answered-within ns k m.0 m.1

pub version-within : (ns : Contents) (k : ℕ) (v : Version) → version_at ns k ≡ Some v → k < length ns
version-within ns k v h = let m = and_then-some (answer (spelled ns) k) as_version v h in answered-within ns k m.0 m.1

pub map-within : (ns : Contents) (k : ℕ) (m : Entries) → map_at ns k ≡ Some m → k < length ns
map-within ns k m h = let s = and_then-some (segment_at ns k) segment_map m h in segment-within ns k s.0 s.1

rows-within : (ns : Contents) (depth k : ℕ) (rows : Rows) → rows_at ns depth k ≡ Some rows → k < length ns
rows-within ns depth k rows h = let s = and_then-some (segment_at ns k) (rows_if depth) rows h in
    segment-within ns k s.0 s.1

-- TREES THAT SPELL

joined-first : (k : Bytes) (x y : Option Rows) (rows : Rows) → joined_one k x y ≡ Some rows
    → (front : Rows) × (back : Rows) × (x ≡ Some front) × (y ≡ Some back)
joined-first k None y rows h = absurd cc
joined-first k (Some rs) None rows h = absurd cc
joined-first k (Some rs) (Some more) rows h = (rs, more, refl, refl)

part-below : (ns : Contents) (key : Bytes) (p : Part) (rows : Rows) → part_rows ns key p ≡ Some rows
    → AreBelow (length ns) (part_places p)
part-below ns key (value v) rows h r i = below-none (length ns) r i
part-below ns key (chunk depth at) rows h r i = subst (λ w. stamp_of w < length ns) (only_one at r i)
    (rows-within ns depth (stamp_of at) rows h)

pieces-below : (ns : Contents) (ps : List Piece) (rows : Rows) → shown ns ps ≡ Some rows
    → AreBelow (length ns) (places_of ps)
pieces-below ns [] rows h at i = below-none (length ns) at i
pieces-below ns (p ∷ ps) rows h at i =
    let j = joined-first p.0 (part_rows ns p.0 p.1) (shown ns ps) rows h in
    elim (Contains-append_cases (part_places p.1) (places_of ps) at i) [
      | inl q ↦ part-below ns p.0 p.1 j.0 j.2 at q
      | inr q ↦ pieces-below ns ps j.1 j.3 at q
    ]

root-below : (ns : Contents) (r : Root) (m : Entries) → root_map ns r ≡ Some m → AreBelow (length ns) (root_places r)
root-below ns (Placed at) m h r i = subst (λ w. stamp_of w < length ns) (only_one at r i)
    (map-within ns (stamp_of at) m h)
root-below ns (Own n) m h r i = let rows = and_then-some (shown ns n.pieces) map_of_rows m h in
    pieces-below ns n.pieces rows.0 rows.1 r i

tree-below : (ns : Contents) (t : Tree) (m : Entries) → tree_map ns t ≡ Some m
    → AreBelow (length ns) (tree_places t)
tree-below ns t m h = root-below ns t.root m h

-- so it may be written down behind them
pub length-with : (ns : Contents) (nodes : List (Node Ref)) → length (with_nodes ns nodes) ≡ length ns + length nodes
length-with ns nodes = omega (arith, length-append ns (map content_of nodes), length-map nodes content_of)

pub tree-behind : (ns : Contents) (d : Drafted) (t : Tree) (m : Entries) → length ns ≡ d.first
    → tree_map (with_nodes ns d.nodes) t ≡ Some m → AreBelow (d.first + length d.nodes) (tree_places t)
tree-behind ns d t m l h = below-more (length (with_nodes ns d.nodes)) (d.first + length d.nodes) (tree_places t)
    (omega (arith, length-with ns d.nodes, l)) (tree-below (with_nodes ns d.nodes) t m h)

is-below : (n : ℕ) (ns : Contents) (t : Tree) (o : Option Entries) → tree_map ns t ≡ o → length ns ≤ n → IsSome o
    → AreBelow n (tree_places t)
is-below n ns t None e le h = absurd (cc h)
is-below n ns t (Some m) e le h = below-more (length ns) n (tree_places t) le (tree-below ns t m e)

-- a draft with no nodes yet, behind those of a vector
pub tree-ready : (nodes : List (Node Ref)) (d : Drafted) (t : Tree) → d ≡ record { first = length nodes; nodes = [] }
    → IsSome (tree_map (map content_of nodes) t) → AreBelow (d.first + length d.nodes) (tree_places t)
tree-ready nodes d t e h =
    subst (λ (x : Drafted). AreBelow (x.first + length x.nodes) (tree_places t)) (sym e)
    (is-below (length nodes + 0) (map content_of nodes) t (tree_map (map content_of nodes) t) refl
    (omega (arith, length-map nodes content_of)) h)
