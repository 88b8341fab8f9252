-- How many own chunks and keys there are once a chunk is changed.
use Rattle.std.proofs.Common.{◌≡◌, ◌<◌, ◌≤◌, ◌+◌, ◌-◌, ℕ, zero, suc, List, [], ◌∷◌, ◌++◌, Option, Some, None, length}
use Rattle.std.proofs.Common.{get_or, take, drop, min, length-take, length-drop, refl, sym, ap, ◌∙◌, subst, arith, inl}
use Rattle.std.proofs.Common.{inr, nat_cmp, T}
use Rattle.std.specs.Cmp.Lexicographic.{slice_cmp}
use Rattle.std.specs.FinMap.{put}
use Rattle.group_history.specs.Map.{Bytes}
use Rattle.group_history.specs.Rows.{paired, rises}
use Rattle.map_nodes.specs.Inside.Counts.{HasKept}
use Rattle.map_chunks.specs.Inserting.{ArePairs, Parted}
use Rattle.map_nodes.specs.Nodes.{body_marks, child_fresh, kids_fresh, kids_marks, sunk, child_height, kids_height}
use Rattle.map_nodes.specs.Nodes.{IsNode}
use Rattle.map_chunks.specs.Search.{IsAbsent}
use Rattle.map_chunks.specs.Shown.{fresh, own, owned, placed, Mark, Seen, Shape}
use Rattle.map_nodes.specs.Levels.{parting}
use Rattle.map_nodes.specs.declared.nodes.Body.{Body}
use Rattle.map_nodes.specs.declared.nodes.Body.TheVariants.{Leaf, Inner}
use Rattle.map_nodes.specs.declared.nodes.OwnChild.{OwnChild}
use Rattle.map_nodes.specs.declared.nodes.OwnChild.TheVariants.{Own, Placed}
use Rattle.map_nodes.specs.declared.nodes.putting.Half.{Half}
use Rattle.map_nodes.proofs.LeafLemmas.{leaf_put}
use Rattle.map_chunks.proofs.ListLemmas.{length-inserted, length-paired}
use Rattle.map_chunks.specs.Wide.{IsWideChunk}

-- CHILDREN

owned-append : (xs ys : List Mark) → owned (xs ++ ys) ≡ owned xs + owned ys
owned-append [] ys = omega arith
owned-append (own at keys ∷ xs) ys = omega (arith, owned-append xs ys)
owned-append (placed at deep ref ∷ xs) ys = owned-append xs ys

owned-sunk : (ms : List Mark) → owned (sunk ms) ≡ owned ms
owned-sunk [] = refl
owned-sunk (own at keys ∷ ms) = ap (λ n. n + 1) (owned-sunk ms)
owned-sunk (placed at deep ref ∷ ms) = owned-sunk ms

pub owned-kids : (below : ℕ) (kids : List OwnChild) → owned (kids_marks below kids) ≡ kids_fresh kids
owned-kids below [] = refl
owned-kids below (Placed at ∷ kids) = omega (arith, owned-kids below kids)
owned-kids below (Own n ∷ kids) =
    omega (arith, owned-append n.value.marks (kids_marks below kids), owned-kids below kids)

-- a chunk over children
pub owned-inner : (below : ℕ) (keys : Shape) (kids : List OwnChild)
    → owned (own 0 keys ∷ sunk (kids_marks below kids)) ≡ kids_fresh kids + 1
owned-inner below keys kids = ap (λ n. n + 1) (owned-sunk (kids_marks below kids) ∙ owned-kids below kids)

-- an own chunk over children
pub fresh-inner : (depth : ℕ) (keys : List Bytes) (body : Body) (kids : _) (n : Seen)
    → body_marks depth keys body ≡ n.marks → body ≡ Inner kids → fresh n ≡ kids_fresh kids.items + 1
fresh-inner depth keys body kids n v e = ap owned (sym v ∙ ap (body_marks depth keys) e)
    ∙ owned-inner (depth - 1) (parting keys) kids.items

-- KEYS

length-pairs : {A : Type 0} (es : List (Bytes × A)) (nk : List Bytes) (ne : List A) → ArePairs es nk ne
    → length nk ≡ length es
length-pairs es nk ne p = sym (length-paired nk ne p.1) ∙ ap length p.0

pub kept_alone : {A : Type 0} (es : List (Bytes × A)) (nk : List Bytes) (ne : List A) (old : ℕ) → Parted es nk ne None
    → length es ≡ old + 1 → HasKept old (length nk) None
kept_alone es nk ne old h l = let n = length-pairs es nk ne h.0 in inr (omega (arith, n, l), omega (arith, h.1, l))

pub kept_halves : {A : Type 0} (es : List (Bytes × A)) (nk : List Bytes) (ne : List A) (k2 : List Bytes) (e2 : List A)
    (old : ℕ) → Parted es nk ne (Some (k2, e2)) → length es ≡ old + 1
    → (old ≡ 16) × (length nk ≡ 8) × (length k2 ≡ 9)
kept_halves es nk ne k2 e2 old h l =
    let lt : length (take 8 es) ≡ 8 = length-take 8 es ∙ (let e : min 8 (length es) ≡ 8 = omega (arith, h.2) in e) in
    let ld : length (drop 8 es) ≡ 9 = length-drop 8 es ∙ (let e : length es - 8 ≡ 9 = omega (arith, h.2) in e) in
    (omega (arith, h.2, l), length-pairs (take 8 es) nk ne h.0 ∙ lt, length-pairs (drop 8 es) k2 e2 h.1 ∙ ld)

-- how many rows a leaf has once one is put
pub rows_put : (keys values : List Bytes) (i : ℕ) (key v : Bytes) → T (rises keys) → length values ≡ length keys
    → IsAbsent key keys i
    → length (put (slice_cmp nat_cmp) key v (paired keys values)) ≡ length keys + 1
rows_put keys values i key v o l a =
    let n = ap length (sym (leaf_put keys values i key v o l a).is) in
    let m = length-inserted (paired keys values) i (key, v) (omega (arith, a.0.0, length-paired keys values l)) in
    omega (arith, n, m, length-paired keys values l)

-- CHUNKS

pub leaf_counts : (depth : ℕ) (keys : List Bytes) (body : Body) (values : _) → body ≡ Leaf values
    → IsNode depth keys body → depth ≡ 1
leaf_counts depth keys body values e inv = let h : IsNode depth keys (Leaf values) = subst (IsNode depth keys) e inv in
    h.1.0

-- a chunk that isn't split stays wide
pub wide_kept : (old new : Seen) (half : Option Half) → half ≡ None → new.depth ≡ old.depth
    → HasKept old.entries new.entries half → IsWideChunk old → IsWideChunk new
wide_kept old new half e d k w = by (subst (HasKept old.entries new.entries) e k) w
  where
    by : HasKept old.entries new.entries None → IsWideChunk old → IsWideChunk new
    by k (inl h) = inl (d ∙ h)
    by (inl k) (inr h) = inr (omega (arith, k, h))
    by (inr k) (inr h) = inr (omega (arith, k.0, h))

-- COUNTED

pub fresh-take : (kids : List OwnChild) (i : ℕ) (c : OwnChild) → i < length kids → c ≡ get_or kids i c
    → kids_fresh (take (i + 1) kids) ≡ kids_fresh (take i kids) + child_fresh c
fresh-take kids i c l e = ap (λ n. kids_fresh (take n kids)) (let s : i + 1 ≡ suc i = omega arith in s) ∙ go kids i l e
  where
    go : (kids : List OwnChild) (i : ℕ) → i < length kids → c ≡ get_or kids i c
        → kids_fresh (take (suc i) kids) ≡ kids_fresh (take i kids) + child_fresh c
    go [] i l e = absurd (omega arith)
    go (k ∷ ks) zero l e = let f : child_fresh c ≡ child_fresh k = ap child_fresh e in omega (arith, f)
    go (k ∷ ks) (suc i) l e = let r = go ks i (omega arith) e in omega (arith, r)

pub high-at : (kids : List OwnChild) (i : ℕ) (c : OwnChild) → i < length kids → c ≡ get_or kids i c
    → child_height c ≤ kids_height kids
high-at [] i c l e = absurd (omega arith)
high-at (k ∷ ks) zero c l e = let f : child_height c ≡ child_height k = ap child_height e in omega (arith, f)
high-at (k ∷ ks) (suc i) c l e = let r = high-at ks i c (omega arith) e in omega (arith, r)
