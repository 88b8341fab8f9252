-- How many chunks of a tree are new, level by level.
use Rattle.std.proofs.Common.{◌≡◌, ◌⊎◌, ◌+◌, ◌-◌, ◌<◌, ◌≤◌, ℕ, zero, suc, Bool, true, false, cond, List, [], ◌∷◌, ◌++◌}
use Rattle.std.proofs.Common.{Option, Some, None, length, max, nat_le, slice_get, arith, inl, inr, refl, ap, subst}
use Rattle.std.proofs.lemmas.Bool.Decides.{nat_tests}
use Rattle.std.specs.List.{flat_map}
use Rattle.std.specs.Prelude.{◌==◌, unwrap_or}
use Rattle.group_history.specs.declared.nodes.Chunk.TheVariants.{Leaf, Inner}
use Rattle.group_history.specs.declared.nodes.Node.{Node}
use Rattle.group_history.specs.declared.nodes.Node.TheVariants.{Chunk, Commit}
use Rattle.group_history.specs.Map.{Bytes}
use Rattle.group_history.specs.Refs.{stamp_of}
use Rattle.group_history.specs.Spelling.{Contents}
use Rattle.group_history.proofs.Lists.{prefix_self}
use Rattle.map_chunks.specs.Seeking.{chunk_depth}
use Rattle.map_chunks.specs.Shown.{Mark, own, owned, placed, Shape, child_keys, leaf_keys}
use Rattle.map_nodes.specs.Levels.{as_new, levels_of, mark_levels, node_levels, placed_levels, AreChanged, ArePutIn}
use Rattle.map_nodes.specs.Levels.{IsGrown, IsRenewed, IsShrunk, Levels, Member, PutLater, RemovedLater, RenewedLater}
use Rattle.map_tree.specs.Trees.{root_fresh, root_levels, tree_fresh, tree_levels}
use Rattle.map_tree.specs.declared.tree.Root.{Root}
use Rattle.map_tree.specs.declared.tree.Root.TheVariants.{Placed, Own}
use Rattle.map_tree.specs.declared.tree.Tree.{Tree}

-- A LEVEL

abbrev is_new : Option ℕ → ℕ
is_new None = 1
is_new (Some stamp) = 0

-- how many chunks of a level are new
abbrev news : List Member → ℕ
news [] = 0
news (m ∷ ms) = is_new m.0 + news ms

news-append : (xs ys : List Member) → news (xs ++ ys) ≡ news xs + news ys
news-append [] ys = omega arith
news-append (x ∷ xs) ys = omega (arith, news-append xs ys)

news-made : (made : List Shape) → news (as_new made) ≡ length made
news-made [] = refl
news-made (keys ∷ made) = omega (arith, news-made made)

-- THE TOPMOST LEVELS

abbrev total : ℕ → Levels → ℕ
total zero levels = 0
total (suc n) levels = news (levels 0) + total n (λ i. levels (suc i))

total_as : (n : ℕ) (f g : Levels) → ((i : ℕ) → g i ≡ f i) → total n g ≡ total n f
total_as zero f g e = refl
total_as (suc n) f g e =
    omega (arith, ap news (e 0), total_as n (λ i. f (suc i)) (λ i. g (suc i)) (λ i. e (suc i)))

total-none : (n : ℕ) (f : Levels) → ((i : ℕ) → news (f i) ≡ 0) → total n f ≡ 0
total-none zero f h = refl
total-none (suc n) f h = omega (arith, h 0, total-none n (λ i. f (suc i)) (λ i. h (suc i)))

total-both : (n : ℕ) (f g : Levels) → total n (λ i. f i ++ g i) ≡ total n f + total n g
total-both zero f g = omega arith
total-both (suc n) f g =
    omega (arith, news-append (f 0) (g 0), total-both n (λ i. f (suc i)) (λ i. g (suc i)))

total_below : (n gone : ℕ) (f : Levels) → total n (λ i. f (i + gone)) ≤ total (n + gone) f
total_below n zero f =
    let e = total_as n f (λ i. f (i + 0)) (λ i. ap f (let z : i + 0 ≡ i = omega arith in z)) in
    let m = ap (λ w. total w f) (let z : n + 0 ≡ n = omega arith in z) in
    omega (arith, e, m)
total_below n (suc gone) f =
    let e = total_as n (λ i. f (suc (i + gone))) (λ i. f (i + suc gone))
    (λ i. ap f (let z : i + suc gone ≡ suc (i + gone) = omega arith in z)) in
    let m = ap (λ w. total w f) (let z : n + suc gone ≡ suc (n + gone) = omega arith in z) in
    omega (arith, e, m, total_below n gone (λ i. f (suc i)))

-- so many for each level
abbrev times : ℕ → ℕ → ℕ
times each zero = 0
times each (suc n) = each + times each n

times-one : (n : ℕ) → times 1 n ≡ n
times-one zero = refl
times-one (suc n) = omega (arith, times-one n)

times-two : (n : ℕ) → times 2 n ≡ n + n
times-two zero = refl
times-two (suc n) = omega (arith, times-two n)

changed_news : (M : Type 0) (B : Shape → List Shape → Type 0) (each : ℕ) (old new : List Member)
    → ((keys : Shape) (made : List Shape) → B keys made → length made ≤ each) → AreChanged M B old new
    → (new ≡ old) ⊎ (M × (news new ≤ news old + each))
changed_news M B each old new few (inl e) = inl e
changed_news M B each old new few (inr (may, m)) = inr (
  may,
  omega (
    arith,
    ap news m.4,
    ap news m.5,
    news-append m.0 (m.1 ∷ m.2),
    news-append m.0 (as_new m.3 ++ m.2),
    news-append (as_new m.3) m.2,
    news-made m.3,
    few m.1.1 m.3 m.6,
  ),
)

-- Where on each of so many levels new chunks, so many at most, stand in the place of one at most, and all others are
-- the same, this is how many more there are.
total_changed : (B : Shape → List Shape → Type 0) (each : ℕ)
    → ((keys : Shape) (made : List Shape) → B keys made → length made ≤ each) → (n deep : ℕ) (old new : Levels)
    → ((level : ℕ) → AreChanged (level < deep) B (old level) (new level))
    → total n new ≤ total n old + times each deep
total_changed B each few zero deep old new h = omega arith
total_changed B each few (suc n) deep old new h =
    by (λ d k. total_changed B each few n d (λ i. old (suc i)) (λ i. new (suc i)) k) deep
    (changed_news (0 < deep) B each (old 0) (new 0) few (h 0)) (λ i. h (suc i))
  where
    less : (M N : Type 0) (a b : List Member) → (M → N) → AreChanged M B a b → AreChanged N B a b
    less M N a b f (inl e) = inl e
    less M N a b f (inr (may, m)) = inr (f may, m)

    by : ((d : ℕ) → ((i : ℕ) → AreChanged (i < d) B (old (suc i)) (new (suc i)))
        → total n (λ i. new (suc i)) ≤ total n (λ i. old (suc i)) + times each d)
        → (deep : ℕ) → (new 0 ≡ old 0) ⊎ ((0 < deep) × (news (new 0) ≤ news (old 0) + each))
        → ((i : ℕ) → AreChanged (suc i < deep) B (old (suc i)) (new (suc i)))
        → total (suc n) new ≤ total (suc n) old + times each deep
    by ih zero (inl e) rest = omega (
      arith,
      ap news e,
      ih zero (λ i. less (suc i < 0) (i < 0) (old (suc i)) (new (suc i)) (λ (l : suc i < 0). omega (arith, l))
          (rest i)),
    )
    by ih zero (inr m) rest = absurd (omega (arith, m.0))
    by ih (suc deep) first rest =
        let more = ih deep (λ i. less (suc i < suc deep) (i < deep) (old (suc i)) (new (suc i))
        (λ (l : suc i < suc deep). omega (arith, l)) (rest i)) in
        elim first [ inl e ↦ omega (arith, ap news e, more) | inr m ↦ omega (arith, m.1, more) ]

-- ROOTS

-- no placed chunk is new
placed-old : (c : Contents) (deep stamp : ℕ) (level : ℕ) → news (placed_levels c deep stamp level) ≡ 0
placed-old c zero stamp level = refl
placed-old c (suc deep) stamp level = by (λ k i. placed-old c deep k i) (slice_get c stamp) level
  where
    all : ((k : ℕ) (i : ℕ) → news (placed_levels c deep k i) ≡ 0) → (kids : List (Bytes × ℕ)) (level : ℕ)
        → news (flat_map (λ e. placed_levels c deep e.1 level) kids) ≡ 0
    all none [] level = refl
    all none (k ∷ kids) level =
        omega (
          arith,
          news-append (placed_levels c deep k.1 level) (flat_map (λ e. placed_levels c deep e.1 level) kids),
          none k.1 level,
          all none kids level,
        )

    by : ((k : ℕ) (i : ℕ) → news (placed_levels c deep k i) ≡ 0) → (o : Option (Node ℕ)) (level : ℕ)
        → news (node_levels stamp (placed_levels c deep) o level) ≡ 0
    by none None level = refl
    by none (Some (Commit x)) level = refl
    by none (Some (Chunk (Leaf rows))) zero = refl
    by none (Some (Chunk (Leaf rows))) (suc level) = refl
    by none (Some (Chunk (Inner kids))) zero = refl
    by none (Some (Chunk (Inner kids))) (suc level) = all none kids level

-- an own chunk on its level
abbrev alone : ℕ → Shape → Levels
alone at keys level = cond (at == level) ((None, keys) ∷ []) []

alone-next : (at : ℕ) (keys : Shape) (level : ℕ) → alone (suc at) keys (suc level) ≡ alone at keys level
alone-next at keys level = ap (λ u. cond u ((None, keys) ∷ []) []) (by (at == level) refl)
  where
    by : (u : Bool) → (at == level) ≡ u → (suc at == suc level) ≡ u
    by true e = grind (arith, nat_tests, e)
    by false e = grind (arith, nat_tests, e)

alone-behind : (keys : Shape) (level : ℕ) → news (alone 0 keys (suc level)) ≡ 0
alone-behind keys level = ap (λ u. news (cond u ((None, keys) ∷ []) []))
    (let e : (0 == suc level) ≡ false = grind (arith, nat_tests) in e)

alone-before : (at : ℕ) (keys : Shape) → news (alone (suc at) keys 0) ≡ 0
alone-before at keys = ap (λ u. news (cond u ((None, keys) ∷ []) []))
    (let e : (suc at == 0) ≡ false = grind (arith, nat_tests) in e)

total-alone : (n at : ℕ) (keys : Shape) → (total n (alone at keys) ≤ 1) × (at < n → 1 ≤ total n (alone at keys))
total-alone zero at keys = (omega arith, λ l. absurd (omega (arith, l)))
total-alone (suc n) zero keys =
    let first : news (alone 0 keys 0) ≡ 1 = ap (λ u. news (cond u ((None, keys) ∷ []) []))
    (let e : (0 == 0) ≡ true = grind (arith, nat_tests) in e) in
    let rest = total-none n (λ i. alone 0 keys (suc i)) (alone-behind keys) in
    (omega (arith, first, rest), λ l. omega (arith, first, rest))
total-alone (suc n) (suc at) keys =
    let rest = total_as n (alone at keys) (λ i. alone (suc at) keys (suc i)) (alone-next at keys) in
    let more = total-alone n at keys in (
      omega (arith, alone-before at keys, rest, more.0),
      λ l. (let m = more.1 (omega (arith, l)) in omega (arith, alone-before at keys, rest, m)),
    )

mark-old : (c : Contents) (at deep : ℕ) (ref : _) (level : ℕ) → news (mark_levels c (placed at deep ref) level) ≡ 0
mark-old c at deep ref level = by (nat_le at level)
  where
    by : (u : Bool) → news (cond u (placed_levels c deep (stamp_of ref) (level - at)) []) ≡ 0
    by true = placed-old c deep (stamp_of ref) (level - at)
    by false = refl

-- below the lowest of these there is none
abbrev end_of : List Mark → ℕ
end_of [] = 0
end_of (own at keys ∷ ms) = max (at + 1) (end_of ms)
end_of (placed at deep ref ∷ ms) = end_of ms

total-marks : (n : ℕ) (c : Contents) (ms : List Mark)
    → (total n (levels_of c ms) ≤ owned ms) × (end_of ms ≤ n → owned ms ≤ total n (levels_of c ms))
total-marks n c [] = let e = total-none n (levels_of c []) (λ i. refl) in (omega (arith, e), λ l. omega arith)
total-marks n c (own at keys ∷ ms) =
    let both = total-both n (alone at keys) (levels_of c ms) in
    let one = total-alone n at keys in
    let more = total-marks n c ms in (
      omega (arith, both, one.0, more.0),
      λ l. (let a = one.1 (omega (arith, l)) in let b = more.1 (omega (arith, l)) in omega (arith, both, a, b)),
    )
total-marks n c (placed at deep ref ∷ ms) =
    let both = total-both n (mark_levels c (placed at deep ref)) (levels_of c ms) in
    let none = total-none n (mark_levels c (placed at deep ref)) (mark-old c at deep ref) in
    let more = total-marks n c ms in (
      omega (arith, both, none, more.0),
      λ l. (let b = more.1 l in omega (arith, both, none, b)),
    )

abbrev root_end : Root → ℕ
root_end (Placed at) = 0
root_end (Own n) = end_of n.marks

total-root : (n : ℕ) (c : Contents) (r : Root) → (total n (root_levels r c) ≤ root_fresh r)
    × (root_end r ≤ n → root_fresh r ≤ total n (root_levels r c))
total-root n c (Placed at) =
    let none = total-none n (root_levels (Placed at) c)
    (λ i. placed-old c (unwrap_or (chunk_depth c (stamp_of at)) 0) (stamp_of at) i) in
    (omega (arith, none), λ l. omega arith)
total-root n c (Own m) = total-marks n c m.marks

-- A CHANGE

few_renewed : (keys : Shape) (made : List Shape) → IsRenewed keys made → length made ≤ 1
few_renewed keys made e = omega (arith, ap length e)

few_grown : (keys : Shape) (made : List Shape) → IsGrown keys made → length made ≤ 2
few_grown keys made (inl e) = omega (arith, ap length e)
few_grown (leaf_keys keys) made (inr (inl w)) = omega (arith, ap length w.3)
few_grown (child_keys keys) made (inr (inl w)) = omega (arith, ap length w.3)
few_grown (leaf_keys keys) made (inr (inr w)) = omega (arith, ap length w.3)
few_grown (child_keys keys) made (inr (inr w)) = omega (arith, ap length w.3)

few_shrunk : (keys : Shape) (made : List Shape) → IsShrunk keys made → length made ≤ 1
few_shrunk keys made (inl e) = omega (arith, ap length e)
few_shrunk (leaf_keys keys) made (inr (inl w)) = omega (arith, ap length w.2)
few_shrunk (child_keys keys) made (inr (inl w)) = omega (arith, ap length w.2)
few_shrunk (leaf_keys keys) made (inr (inr (inl w))) = absurd w
few_shrunk (child_keys keys) made (inr (inr (inl w))) = omega (arith, ap length w.5)
few_shrunk (leaf_keys keys) made (inr (inr (inr w))) = omega (arith, ap length w.1)
few_shrunk (child_keys keys) made (inr (inr (inr w))) = omega (arith, ap length w.1)

-- a value replaced
pub replaced_few : (c : Contents) (t u : Tree) (d : ℕ) → RenewedLater c d (tree_levels t) (tree_levels u)
    → tree_fresh u ≤ tree_fresh t + d
replaced_few c t u d h =
    let n = root_end u.root in
    let most = (total-root n c u.root).1 (omega arith) in
    let step = total_changed IsRenewed 1 few_renewed n d (tree_levels t c) (tree_levels u c) (h c (prefix_self c)) in
    omega (arith, most, step, (total-root n c t.root).0, times-one d)

-- a key removed
pub removed_few : (c : Contents) (t u : Tree) (d e : ℕ) → RemovedLater d e c (tree_levels t) (tree_levels u)
    → tree_fresh u ≤ tree_fresh t + d
removed_few c t u d e h =
    let r = h c (prefix_self c) in
    let n = root_end u.root in
    let most = (total-root n c u.root).1 (omega arith) in
    let step = total_changed IsShrunk 1 few_shrunk n e (λ i. tree_levels t c (i + r.0)) (tree_levels u c) r.2 in
    let low = total_below n r.0 (tree_levels t c) in
    omega (arith, most, step, low, (total-root (n + r.0) c t.root).0, times-one e, r.1)

-- a value put
pub put_few : (c : Contents) (t u : Tree) (d e : ℕ) → PutLater d e c (tree_levels t) (tree_levels u)
    → tree_fresh u ≤ tree_fresh t + d + d + 1
put_few c t u d e h = by (e - d) refl
  where
    r : ArePutIn d e (tree_levels t c) (tree_levels u c)
    r = h c (prefix_self c)

    n : ℕ
    n = root_end u.root

    step : (s : ℕ) → e - d ≡ s
        → total n (λ i. tree_levels u c (i + s)) ≤ total n (tree_levels t c) + times 2 d
    step s q = total_changed IsGrown 2 few_grown n d (tree_levels t c) (λ i. tree_levels u c (i + s))
        (λ i. subst (λ w. AreChanged (i < d) IsGrown (tree_levels t c i) (tree_levels u c (i + w))) q (r.2 i))

    by : (s : ℕ) → e - d ≡ s → tree_fresh u ≤ tree_fresh t + d + d + 1
    by zero q =
        let same = total_as n (tree_levels u c) (λ i. tree_levels u c (i + 0))
        (λ i. ap (tree_levels u c) (let z : i + 0 ≡ i = omega arith in z)) in
        omega (
          arith,
          (total-root n c u.root).1 (omega arith),
          step 0 q,
          same,
          (total-root n c t.root).0,
          times-two d,
        )
    by (suc zero) q =
        let top = r.3 (omega (arith, q)) in
        let same = total_as n (λ i. tree_levels u c (suc i)) (λ i. tree_levels u c (i + 1))
        (λ i. ap (tree_levels u c) (let z : i + 1 ≡ suc i = omega arith in z)) in
        omega (
          arith,
          (total-root (suc n) c u.root).1 (omega arith),
          step 1 q,
          same,
          ap news top.1,
          (total-root n c t.root).0,
          times-two d,
        )
    by (suc (suc s)) q = absurd (omega (arith, q, r.1))
