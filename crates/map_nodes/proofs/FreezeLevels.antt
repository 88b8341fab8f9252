-- A draft's chunks written down as nodes: the chunks that were new are placed on each level then, under new stamps.
use Rattle.std.proofs.Common.{◌≡◌, ◌≤◌, ◌+◌, ℕ, zero, suc, List, [], ◌∷◌, ◌++◌, None, Some, length, set, slice_get}
use Rattle.std.proofs.Common.{inl, inr, refl, sym, ap, ◌∙◌, subst, arith, Result, Ok, Err, IfOk}
use Rattle.std.specs.List.{flat_map}
use Rattle.std.specs.Prelude.{option_and_then, option_map}
use Rattle.std.specs.FinMap as finite
use mathlib.Core.List.{IsPrefix}
use Rattle.group_history.specs.declared.nodes.Chunk.TheVariants as chunked
use Rattle.group_history.specs.declared.nodes.Node.{Node}
use Rattle.group_history.specs.declared.nodes.Node.TheVariants as node
use Rattle.group_history.specs.declared.refs.Ref.{Ref}
use Rattle.group_history.specs.Map.{Bytes, Entries}
use Rattle.group_history.specs.Naming.{content_of}
use Rattle.group_history.specs.Refs.{stamp_of}
use Rattle.group_history.specs.Rows.{Rows, keys_of, paired}
use Rattle.group_history.specs.Spelling.{Contents, Segment, rows_at, segment_at}
use Rattle.group_history.proofs.Lists.{get_more, prefix_trans}
use Rattle.group_history.proofs.Pairs.{keys_of-paired}
use Rattle.map_chunks.proofs.OpenLemmas.{spells_at, stamped}
use Rattle.map_chunks.proofs.TreeLemmas.{map_is}
use Rattle.map_chunks.specs.Places.{with_nodes}
use Rattle.map_chunks.specs.Shown.{Seen, Shape, leaf_keys, map_of_rows, own, shown}
use Rattle.map_nodes.proofs.FreezeLemmas.{deep_of, nodes-grown}
use Rattle.map_nodes.proofs.KeptLevels.{keys-renamed}
use Rattle.map_nodes.proofs.LevelLemmas.{inner-levels, leaf-levels}
use Rattle.map_nodes.proofs.WideLemmas.{pushed_at}
use Rattle.map_nodes.specs.Inside.Freezing.{AreLevel, IsLevel}
use Rattle.map_nodes.specs.Inside.Nodes.{Kid}
use Rattle.map_nodes.specs.Levels.{levels_of, node_levels, nothing, parting, placed_levels, seen_levels, topped}
use Rattle.map_nodes.specs.Levels.{AreNamedNow, Levels, Member, NamedLater}
use Rattle.map_nodes.specs.Nodes.{AllKids, child_levels, kids_levels, kids_marks, sunk}
use Rattle.map_nodes.specs.Trails.{placed_kids}
use Rattle.map_nodes.specs.declared.nodes.OwnChild.{OwnChild}
use Rattle.map_nodes.specs.declared.nodes.OwnChild.TheVariants.{Placed, Own}

-- LEVELS

pub named_all : (first : ℕ) (xs : List Member) → AreNamedNow first xs xs
named_all first [] = tt
named_all first (x ∷ xs) = (inl refl, named_all first xs)

named_append : (first : ℕ) (a b c d : List Member) → AreNamedNow first a b → AreNamedNow first c d
    → AreNamedNow first (a ++ c) (b ++ d)
named_append first [] [] c d h g = g
named_append first [] (y ∷ b) c d h g = absurd h
named_append first (x ∷ a) [] c d h g = absurd h
named_append first (x ∷ a) (y ∷ b) c d h g = (h.0, named_append first a b c d h.1 g)

-- a chunk that was new, with a stamp from the first one on, over chunks that are named
named_over : (first stamp : ℕ) (n : Shape) (old new f g : Levels) → first ≤ stamp
    → ((i : ℕ) → old i ≡ topped (None, n) f i) → ((i : ℕ) → new i ≡ topped (Some stamp, n) g i)
    → ((i : ℕ) → AreNamedNow first (f i) (g i)) → (i : ℕ) → AreNamedNow first (old i) (new i)
named_over first stamp n old new f g l o w h i =
    subst (λ z. AreNamedNow first z (new i)) (sym (o i))
    (subst (AreNamedNow first (topped (None, n) f i)) (sym (w i)) (by i))
  where
    by : (i : ℕ) → AreNamedNow first (topped (None, n) f i) (topped (Some stamp, n) g i)
    by zero = (inr (stamp, l, refl, refl), tt)
    by (suc i) = h i

-- CHILDREN

level-later : (first : ℕ) (mid new : List (Node Ref)) (child : OwnChild) (at : Ref) → IsPrefix mid new
    → IsLevel first mid child at → IsLevel first new child at
level-later first mid new child at p s contents depth l d later q =
    s contents depth l d later
    (prefix_trans (with_nodes contents mid) (with_nodes contents new) later (nodes-grown contents mid new p) q)

pub all_level-later : (first : ℕ) (mid new : List (Node Ref)) (children : List OwnChild) (ats : List Ref)
    → IsPrefix mid new → AreLevel first mid children ats → AreLevel first new children ats
all_level-later first mid new [] [] p s = s
all_level-later first mid new [] (at ∷ ats) p s = absurd s
all_level-later first mid new (child ∷ children) [] p s = absurd s
all_level-later first mid new (child ∷ children) (at ∷ ats) p s =
    (level-later first mid new child at p s.0, all_level-later first mid new children ats p s.1)

pub all_level-one : (first : ℕ) (new : List (Node Ref)) (children : List OwnChild) (ats : List Ref)
    (child : OwnChild) (at : Ref) → AreLevel first new children ats → IsLevel first new child at
    → AreLevel first new (children ++ child ∷ []) (ats ++ at ∷ [])
all_level-one first new [] [] child at s t = (t, tt)
all_level-one first new [] (b ∷ ats) child at s t = absurd s
all_level-one first new (c ∷ children) [] child at s t = absurd s
all_level-one first new (c ∷ children) (b ∷ ats) child at s t =
    (s.0, all_level-one first new children ats child at s.1 t)

-- a placed child keeps its name
pub placed_level : (first : ℕ) (new : List (Node Ref)) (at : Ref) → IsLevel first new (Placed at) at
placed_level first new at contents depth l d later q level =
    named_all first (placed_levels later depth (stamp_of at) level)

-- the children's names have the chunks of the children
all-level : (contents : Contents) (first : ℕ) (new : List (Node Ref)) (depth : ℕ) (keys : List Bytes)
    (children : List OwnChild) (ats : List Ref) (later : Contents) → length contents ≡ first
    → length children ≡ length keys → AreLevel first new children ats → AllKids depth (paired keys children)
    → IsPrefix (with_nodes contents new) later → (level : ℕ)
    → AreNamedNow first (kids_levels depth children later level)
    (flat_map (λ e. placed_levels later depth e.1 level) (stamped (paired keys ats)))
all-level contents first new depth [] [] ats later l n s a q level = tt
all-level contents first new depth [] (child ∷ children) ats later l n s a q level = absurd (omega arith)
all-level contents first new depth (k ∷ keys) [] ats later l n s a q level = absurd (omega arith)
all-level contents first new depth (k ∷ keys) (child ∷ children) [] later l n s a q level = absurd s
all-level contents first new depth (k ∷ keys) (child ∷ children) (at ∷ ats) later l n s a q level =
    named_append first (child_levels depth child later level) (placed_levels later depth (stamp_of at) level)
    (kids_levels depth children later level)
    (flat_map (λ e. placed_levels later depth e.1 level) (stamped (paired keys ats)))
    (s.0 contents depth l (deep_of depth k child a.0) later q level)
    (all-level contents first new depth keys children ats later l (omega arith) s.1 a.1 q level)

-- CHUNKS

-- what was appended last stands there in all later contents
stands : (contents : Contents) (first : ℕ) (old new : List (Node Ref)) (x : Node Ref) (at : Ref) (later : Contents)
    → length contents ≡ first → new ≡ old ++ x ∷ [] → stamp_of at ≡ first + length old
    → IsPrefix (with_nodes contents new) later → slice_get later (stamp_of at) ≡ Some (content_of x)
stands contents first old new x at later l w k q =
    subst (λ c. slice_get c (stamp_of at) ≡ Some (content_of x)) q.1
    (get_more (with_nodes contents new) q.0 (stamp_of at) (content_of x) (pushed_at contents first old new x at l w k))

-- a leaf behind others
pub leaf_level : (contents : Contents) (first : ℕ) (old new : List (Node Ref)) (n : Seen) (leaf : Rows) (at : Ref)
    → length contents ≡ first → new ≡ old ++ node.Chunk (chunked.Leaf leaf) ∷ []
    → stamp_of at ≡ first + length old → n.depth ≡ 1 → n.marks ≡ own 0 (leaf_keys (keys_of leaf)) ∷ []
    → NamedLater first (with_nodes contents new) (seen_levels n) (λ p. placed_levels p n.depth (stamp_of at))
leaf_level contents first old new n leaf at l w k d m later q =
    let keys = leaf_keys (keys_of leaf) in
    named_over first (stamp_of at) keys (seen_levels n later) (placed_levels later n.depth (stamp_of at))
    nothing nothing (omega (arith, k)) (λ i. ap (λ ms. levels_of later ms i) m ∙ leaf-levels later keys i)
    (λ i. ap (λ z. placed_levels later z (stamp_of at) i) d
    ∙ ap (λ o. node_levels (stamp_of at) (placed_levels later 0) o i)
    (stands contents first old new (node.Chunk (chunked.Leaf leaf)) at later l w k q))
    (λ i. tt)

-- an inner chunk behind others, its children written down before
pub inner_level : (contents : Contents) (first : ℕ) (mid new : List (Node Ref)) (n : Seen) (below deep : ℕ)
    (keys : List Bytes) (kids : List OwnChild) (ats : List Ref) (at : Ref) → length contents ≡ first
    → new ≡ mid ++ node.Chunk (chunked.Inner (paired keys ats)) ∷ [] → stamp_of at ≡ first + length mid
    → n.depth ≡ deep → deep ≡ suc below → n.marks ≡ own 0 (parting keys) ∷ sunk (kids_marks below kids)
    → length kids ≡ length keys → length ats ≡ length keys → AllKids below (paired keys kids)
    → AreLevel first mid kids ats
    → NamedLater first (with_nodes contents new) (seen_levels n) (λ p. placed_levels p n.depth (stamp_of at))
inner_level contents first mid new n below deep keys kids ats at l w k d u m len long all s later q =
    let es = paired keys ats in
    let c = node.Chunk (chunked.Inner es) in
    let grown = nodes-grown contents mid new (c ∷ [], sym w) in
    let behind = prefix_trans (with_nodes contents mid) (with_nodes contents new) later grown q in
    let stamp = stamp_of at in
    let under : Levels = λ i. flat_map (λ e. placed_levels later below e.1 i) (stamped es) in
    named_over first stamp (parting keys) (seen_levels n later) (placed_levels later n.depth stamp)
    (kids_levels below kids later) under (omega (arith, k))
    (λ i. ap (λ ms. levels_of later ms i) m ∙ inner-levels later below (parting keys) kids i)
    (λ i. ap (λ z. placed_levels later z stamp i) (d ∙ u)
    ∙ ap (λ o. node_levels stamp (placed_levels later below) o i) (stands contents first mid new c at later l w k q)
    ∙ ap (λ ks. topped (Some stamp, parting ks) under i) (keys-renamed es ∙ keys_of-paired keys ats long))
    (λ i. all-level contents first mid below keys kids ats later l len s all behind i)

-- STEPS OF A TRAIL

placed_all : (first : ℕ) (new : List (Node Ref)) (ats : List Ref) → AreLevel first new (placed_kids ats) ats
placed_all first new [] = tt
placed_all first new (a ∷ ats) = (placed_level first new a, placed_all first new ats)

-- the names of a step's children
pub step_level : (first : ℕ) (new : List (Node Ref)) (ats : List Ref) (i : ℕ) (n : Kid) (at : Ref)
    → IsLevel first new (Own n) at → AreLevel first new (set (placed_kids ats) i (Own n)) (set ats i at)
step_level first new [] i n at s = tt
step_level first new (a ∷ ats) zero n at s = (s, placed_all first new ats)
step_level first new (a ∷ ats) (suc i) n at s = (placed_level first new a, step_level first new ats i n at s)

-- A WHOLE MAP

-- a map written down is as deep
pub map_level : {E : Type 0} (r : Result Ref E) (old new : Contents) (n : Seen) (m : Entries)
    → option_and_then map_of_rows (shown old n.pieces) ≡ Some m
    → ((rows : Rows) → shown old n.pieces ≡ Some rows
    → IfOk r (λ root. rows_at new n.depth (stamp_of root) ≡ Some rows))
    → IfOk r (λ root. option_map (λ (s : Segment). s.depth) (segment_at new (stamp_of root)) ≡ Some n.depth)
map_level (Err e) old new n m h f = tt
map_level (Ok at) old new n m h f =
    let x = map_is (shown old n.pieces) m h in
    let s = spells_at new n.depth (stamp_of at) (finite.entries m) (f (finite.entries m) x.is) in
    ap (option_map (λ (s : Segment). s.depth)) s.0.is ∙ ap (λ w. Some w) s.1
