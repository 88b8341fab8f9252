-- Levels of marks, of children and of chunks.
use Rattle.std.proofs.Common.{◌≡◌, ◌<◌, ◌+◌, ◌-◌, ℕ, zero, suc, Bool, true, false, cond, nat_le, List, [], ◌∷◌, ◌++◌}
use Rattle.std.proofs.Common.{None, append_assoc, append-nil, length, length-append, refl, sym, ap, ◌∙◌, subst, arith}
use Rattle.std.proofs.Common.{Option, inl, inr, drop, get_or}
use Rattle.std.specs.Prelude.{◌==◌}
use Rattle.std.proofs.lemmas.Bool.Decides.{nat_tests}
use Rattle.group_history.specs.Refs.{stamp_of}
use Rattle.group_history.specs.Spelling.{Contents}
use Rattle.map_chunks.specs.Shown.{Mark, Shape, own, placed}
use Rattle.map_nodes.specs.Levels.{Levels, Member, levels_of, mark_levels, placed_levels, topped, as_new, AreChanged}
use Rattle.map_nodes.specs.Levels.{IsCopied}
use Rattle.map_nodes.specs.Nodes.{child_levels, child_marks, kids_levels, kids_marks, sunk}
use Rattle.map_nodes.specs.declared.nodes.OwnChild.{OwnChild}
use Rattle.map_nodes.specs.declared.nodes.OwnChild.TheVariants.{Placed, Own}

pub levels-append : (c : Contents) (xs ys : List Mark) (i : ℕ)
    → levels_of c (xs ++ ys) i ≡ levels_of c xs i ++ levels_of c ys i
levels-append c [] ys i = refl
levels-append c (x ∷ xs) ys i = ap (λ w. mark_levels c x i ++ w) (levels-append c xs ys i)
    ∙ sym (append_assoc (mark_levels c x i) (levels_of c xs i) (levels_of c ys i))

-- nothing that is sunk is at the top
pub sunk-top : (c : Contents) (ms : List Mark) → levels_of c (sunk ms) 0 ≡ []
sunk-top c [] = refl
sunk-top c (own at n ∷ ms) =
    ap (λ u. cond u ((None, n) ∷ []) [] ++ levels_of c (sunk ms) 0)
    (let e : ((at + 1) == 0) ≡ false = grind (arith, nat_tests) in e) ∙ sunk-top c ms
sunk-top c (placed at deep r ∷ ms) =
    ap (λ u. cond u (placed_levels c deep (stamp_of r) (0 - (at + 1))) [] ++ levels_of c (sunk ms) 0)
    (let e : nat_le (at + 1) 0 ≡ false = grind (arith, nat_tests) in e) ∙ sunk-top c ms

same_test : (i j : ℕ) → ((i + 1) == suc j) ≡ (i == j)
same_test i j = by (i == j) refl
  where
    by : (u : Bool) → (i == j) ≡ u → ((i + 1) == suc j) ≡ u
    by true e = grind (arith, nat_tests, e)
    by false e = grind (arith, nat_tests, e)

same_order : (i j : ℕ) → nat_le (i + 1) (suc j) ≡ nat_le i j
same_order i j = by (nat_le i j) refl
  where
    by : (u : Bool) → nat_le i j ≡ u → nat_le (i + 1) (suc j) ≡ u
    by true e = grind (arith, nat_tests, e)
    by false e = grind (arith, nat_tests, e)

pub sunk-below : (c : Contents) (ms : List Mark) (i : ℕ) → levels_of c (sunk ms) (suc i) ≡ levels_of c ms i
sunk-below c [] i = refl
sunk-below c (own at n ∷ ms) i =
    ap (λ u. cond u ((None, n) ∷ []) [] ++ levels_of c (sunk ms) (suc i)) (same_test at i)
    ∙ ap (λ w. mark_levels c (own at n) i ++ w) (sunk-below c ms i)
sunk-below c (placed at deep r ∷ ms) i =
    ap (λ u. cond u (placed_levels c deep (stamp_of r) (suc i - (at + 1))) [] ++ levels_of c (sunk ms) (suc i))
    (same_order at i)
    ∙ ap (λ k. cond (nat_le at i) (placed_levels c deep (stamp_of r) k) [] ++ levels_of c (sunk ms) (suc i))
    (let e : suc i - (at + 1) ≡ i - at = omega arith in e)
    ∙ ap (λ w. mark_levels c (placed at deep r) i ++ w) (sunk-below c ms i)

-- a chunk over marks
pub topped-is : (c : Contents) (n : Shape) (ms : List Mark) (i : ℕ)
    → levels_of c (own 0 n ∷ sunk ms) i ≡ topped (None, n) (levels_of c ms) i
topped-is c n ms zero = ap (λ w. (None, n) ∷ w) (sunk-top c ms)
topped-is c n ms (suc i) =
    ap (λ u. cond u ((None, n) ∷ []) [] ++ levels_of c (sunk ms) (suc i))
    (let e : (0 == suc i) ≡ false = grind (arith, nat_tests) in e) ∙ sunk-below c ms i

pub child-levels : (c : Contents) (b : ℕ) (x : OwnChild) (i : ℕ)
    → levels_of c (child_marks b x) i ≡ child_levels b x c i
child-levels c b (Own n) i = refl
child-levels c b (Placed r) i =
    append-nil (mark_levels c (placed 0 b r) i)
    ∙ ap (λ u. cond u (placed_levels c b (stamp_of r) (i - 0)) [])
    (let e : nat_le 0 i ≡ true = grind (arith, nat_tests) in e)
    ∙ ap (placed_levels c b (stamp_of r)) (let e : i - 0 ≡ i = omega arith in e)

pub kids-levels : (c : Contents) (b : ℕ) (kids : List OwnChild) (i : ℕ)
    → levels_of c (kids_marks b kids) i ≡ kids_levels b kids c i
kids-levels c b [] i = refl
kids-levels c b (x ∷ xs) i =
    levels-append c (child_marks b x) (kids_marks b xs) i
    ∙ ap (λ w. w ++ levels_of c (kids_marks b xs) i) (child-levels c b x i)
    ∙ ap (λ w. child_levels b x c i ++ w) (kids-levels c b xs i)

pub topped-same : (n : Member) (f g : Levels) → ((i : ℕ) → f i ≡ g i) → (i : ℕ) → topped n f i ≡ topped n g i
topped-same n f g h zero = refl
topped-same n f g h (suc i) = h i

-- an inner chunk's marks by its children
pub inner-levels : (c : Contents) (b : ℕ) (n : Shape) (kids : List OwnChild) (i : ℕ)
    → levels_of c (own 0 n ∷ sunk (kids_marks b kids)) i ≡ topped (None, n) (kids_levels b kids c) i
inner-levels c b n kids i = topped-is c n (kids_marks b kids) i ∙ topped-same (None, n) _ _ (kids-levels c b kids) i

pub leaf-levels : (c : Contents) (n : Shape) (i : ℕ) → levels_of c (own 0 n ∷ []) i ≡ topped (None, n) (λ i. []) i
leaf-levels c n i = topped-is c n [] i ∙ topped-same (None, n) _ _ (λ i. refl) i

pub kids-levels-append : (c : Contents) (b : ℕ) (xs ys : List OwnChild) (i : ℕ)
    → kids_levels b (xs ++ ys) c i ≡ kids_levels b xs c i ++ kids_levels b ys c i
kids-levels-append c b [] ys i = refl
kids-levels-append c b (x ∷ xs) ys i = ap (λ w. child_levels b x c i ++ w) (kids-levels-append c b xs ys i)
    ∙ sym (append_assoc (child_levels b x c i) (kids_levels b xs c i) (kids_levels b ys c i))

-- CHANGES

-- the chunks beside those that changed stay
pub changed_beside : (M : Type 0) (B : Shape → List Shape → Type 0) (x a b y : List Member) → AreChanged M B a b
    → AreChanged M B (x ++ (a ++ y)) (x ++ (b ++ y))
changed_beside M B x a b y (inl e) = inl (ap (λ w. x ++ (w ++ y)) e)
changed_beside M B x a b y (inr (may, m)) = inr (
  may,
  (
    x ++ m.0,
    m.1,
    m.2 ++ y,
    m.3,
    ap (λ w. x ++ (w ++ y)) m.4 ∙ shift x m.0 (m.1 ∷ m.2) y,
    ap (λ w. x ++ (w ++ y)) m.5 ∙ shift x m.0 (as_new m.3 ++ m.2) y
        ∙ ap (λ w. (x ++ m.0) ++ w) (append_assoc (as_new m.3) m.2 y),
    m.6,
  ),
)
  where
    shift : (x f t y : List Member) → x ++ ((f ++ t) ++ y) ≡ (x ++ f) ++ (t ++ y)
    shift x f t y = ap (λ w. x ++ w) (append_assoc f t y) ∙ sym (append_assoc x f (t ++ y))

pub changed_as : (M : Type 0) (B : Shape → List Shape → Type 0) (a b c d : List Member) → c ≡ a → d ≡ b
    → AreChanged M B a b → AreChanged M B c d
changed_as M B a b c d e f h = subst (λ w. AreChanged M B w d) (sym e) (subst (AreChanged M B a) (sym f) h)

-- what may change on some levels may on more
pub changed_may : (M N : Type 0) (B : Shape → List Shape → Type 0) (a b : List Member) → (M → N) → AreChanged M B a b
    → AreChanged N B a b
changed_may M N B a b f (inl e) = inl e
changed_may M N B a b f (inr (may, m)) = inr (f may, m)

-- a chunk that is copied, and then changed in one of these ways
pub changed_copy : (B : Shape → List Shape → Type 0) → ((keys : Shape) → B keys (keys ∷ [])) → (deep : ℕ)
    → (was now new : Levels) → 0 < deep → IsCopied was now
    → ((level : ℕ) → AreChanged (level < deep) B (now level) (new level))
    → (level : ℕ) → AreChanged (level < deep) B (was level) (new level)
changed_copy B same deep was now new some c h (suc level) =
    changed_as (suc level < deep) B (now (suc level)) (new (suc level)) (was (suc level)) (new (suc level))
    (sym (c.1 level)) refl (h (suc level))
changed_copy B same deep was now new some c h zero = by (h 0)
  where
    stamp : Option ℕ
    stamp = c.0.0

    keys : Shape
    keys = c.0.1

    alone : (before : List Member) (chunk : Member) (after : List Member) → (None, keys) ∷ [] ≡ before ++ chunk ∷ after
        → (before ≡ []) × (chunk ≡ (None, keys)) × (after ≡ [])
    alone [] chunk after e = (refl, sym (ap (λ w. get_or w 0 chunk) e), sym (ap (drop 1) e))
    alone (b ∷ bs) chunk after e = absurd (omega (arith, ap length e, length-append bs (chunk ∷ after)))

    by : AreChanged (0 < deep) B (now 0) (new 0) → AreChanged (0 < deep) B (was 0) (new 0)
    by (inl e) = inr (some, ([], (stamp, keys), [], keys ∷ [], c.0.2, e ∙ c.0.3, same keys))
    by (inr (may, m)) =
        let a = alone m.0 m.1 m.2 (sym c.0.3 ∙ m.4) in
        inr (
          may,
          (
            [],
            (stamp, keys),
            [],
            m.3,
            c.0.2,
            m.5 ∙ ap (λ w. w ++ (as_new m.3 ++ m.2)) a.0 ∙ ap (λ w. as_new m.3 ++ w) a.2,
            subst (λ w. B w m.3) (ap (λ (w : Member). w.1) a.1) m.6,
          ),
        )
