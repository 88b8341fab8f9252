-- Rows in strict order of their keys, one part after another.
use Rattle.std.proofs.Common.{◌≡◌, Bool, true, false, cond, ◌&&◌, T, List, [], ◌∷◌, ◌++◌, Option, Some, None, refl, sym}
use Rattle.std.proofs.Common.{ap, ◌∙◌, subst, Ordering, Less, Equal, Greater, is_lt, is_gt, is_eq, nat_cmp}
use Rattle.std.specs.Ordering.{eq_by_cmp, ordering_reverse}
use Rattle.std.specs.Cmp.Lexicographic.{slice_cmp, nat_list_cmp_total}
use Rattle.std.proofs.lemmas.Cmp.{tied_itself}
use Rattle.std.specs.FinMap.{find, put, is_sorted, nat_cmp-IsAntisymmetric, slice_cmp-IsAntisymmetric}
use Rattle.std.specs.FinMap.Entries.{by_order, below_all}
use Rattle.group_history.specs.Map.{Bytes}
use Rattle.group_history.specs.Rows.{Rows, keys_of, is_below_all, rises}

-- the order of keys
abbrev pub cmp : Bytes → Bytes → Ordering
cmp x y = slice_cmp nat_cmp x y

pub same_key : (x y : Bytes) → cmp x y ≡ Equal → x ≡ y
same_key x y e = slice_cmp-IsAntisymmetric nat_cmp-IsAntisymmetric x y e

pub turned : (x y : Bytes) → cmp x y ≡ ordering_reverse (cmp y x)
turned x y = nat_list_cmp_total.antisymm x y

pub less_trans : (x y z : Bytes) → cmp x y ≡ Less → cmp y z ≡ Less → cmp x z ≡ Less
less_trans x y z p q = nat_list_cmp_total.trans x y z p q

pub is_itself : (x : Bytes) → cmp x x ≡ Equal
is_itself x = tied_itself nat_list_cmp_total x

pub both : (a b : Bool) → T a → T b → T (a && b)
both true b p q = q
both false b p q = p

pub first : (a b : Bool) → T (a && b) → T a
first true b p = tt
first false b p = p

pub second : (a b : Bool) → T (a && b) → T b
second true b p = p
second false b p = absurd p

pub less : (o : Ordering) → T (is_lt o) → o ≡ Less
less Less p = refl
less Equal p = absurd p
less Greater p = absurd p

pub is_less : (o : Ordering) → o ≡ Less → T (is_lt o)
is_less o p = subst (λ r. T (is_lt r)) (sym p) tt

-- x is below y, and y isn't above z
less_upto : (x y z : Bytes) → cmp x y ≡ Less → is_gt (cmp y z) ≡ false → cmp x z ≡ Less
less_upto x y z p q = by (cmp y z) refl q
  where
    by : (o : Ordering) → cmp y z ≡ o → is_gt o ≡ false → cmp x z ≡ Less
    by Less e q = less_trans x y z p e
    by Equal e q = subst (λ w. cmp x w ≡ Less) (same_key y z e) p
    by Greater e q = absurd (cc)

pub greater_less : (x y : Bytes) → is_gt (cmp x y) ≡ true → cmp y x ≡ Less
greater_less x y h = turned y x ∙ by (cmp x y) h
  where
    by : (o : Ordering) → is_gt o ≡ true → ordering_reverse o ≡ Less
    by Less h = absurd (cc)
    by Equal h = absurd (cc)
    by Greater h = refl

-- each key is below this one
abbrev pub AllBelow : Bytes → Rows → Type 0
AllBelow k [] = Unit {0}
AllBelow k (r ∷ rs) = (cmp r.0 k ≡ Less) × AllBelow k rs

-- this one is below each key
abbrev pub AllAbove : Bytes → Rows → Type 0
AllAbove k [] = Unit {0}
AllAbove k (r ∷ rs) = (cmp k r.0 ≡ Less) × AllAbove k rs

-- each key is below those behind it
abbrev pub IsStrict : Rows → Type 0
IsStrict [] = Unit {0}
IsStrict (r ∷ rs) = AllAbove r.0 rs × IsStrict rs

above_test : (k : Bytes) (rs : Rows) → T (below_all (slice_cmp nat_cmp) k rs) → AllAbove k rs
above_test k [] h = tt
above_test k (r ∷ rs) h = (less _ (first _ _ h), above_test k rs (second _ _ h))

test_above : (k : Bytes) (rs : Rows) → AllAbove k rs → T (below_all (slice_cmp nat_cmp) k rs)
test_above k [] h = tt
test_above k (r ∷ rs) h = both _ _ (is_less _ h.0) (test_above k rs h.1)

pub strict : (rs : Rows) → T (is_sorted (slice_cmp nat_cmp) rs) → IsStrict rs
strict [] h = tt
strict (r ∷ rs) h = (above_test r.0 rs (first _ _ h), strict rs (second _ _ h))

pub sorted : (rs : Rows) → IsStrict rs → T (is_sorted (slice_cmp nat_cmp) rs)
sorted [] h = tt
sorted (r ∷ rs) h = both _ _ (test_above r.0 rs h.0) (sorted rs h.1)

pub AllAbove-less : (j k : Bytes) (rs : Rows) → cmp j k ≡ Less → AllAbove k rs → AllAbove j rs
AllAbove-less j k [] l h = tt
AllAbove-less j k (r ∷ rs) l h = (less_trans j k r.0 l h.0, AllAbove-less j k rs l h.1)

-- also where j isn't above k
pub AllBelow-upto : (j k : Bytes) (rs : Rows) → is_gt (cmp j k) ≡ false → AllBelow j rs → AllBelow k rs
AllBelow-upto j k [] l h = tt
AllBelow-upto j k (r ∷ rs) l h = (less_upto r.0 j k h.0 l, AllBelow-upto j k rs l h.1)

pub AllAbove-back : (k : Bytes) (a b : Rows) → AllAbove k (a ++ b) → AllAbove k b
AllAbove-back k [] b h = h
AllAbove-back k (r ∷ a) b h = AllAbove-back k a b h.1

pub AllAbove-front : (k : Bytes) (a b : Rows) → AllAbove k (a ++ b) → AllAbove k a
AllAbove-front k [] b h = tt
AllAbove-front k (r ∷ a) b h = (h.0, AllAbove-front k a b h.1)

pub IsStrict-back : (a b : Rows) → IsStrict (a ++ b) → IsStrict b
IsStrict-back [] b h = h
IsStrict-back (r ∷ a) b h = IsStrict-back a b h.1

pub IsStrict-front : (a b : Rows) → IsStrict (a ++ b) → IsStrict a
IsStrict-front [] b h = tt
IsStrict-front (r ∷ a) b h = (AllAbove-front r.0 a b h.0, IsStrict-front a b h.1)

-- what stands before a row is below it
pub AllBelow-before : (a : Rows) (r : Bytes × Bytes) (b : Rows) → IsStrict (a ++ r ∷ b) → AllBelow r.0 a
AllBelow-before [] r b h = tt
AllBelow-before (s ∷ a) r b h = ((AllAbove-back s.0 a (r ∷ b) h.0).0, AllBelow-before a r b h.1)

value_of : Bytes → Rows → Option Bytes
value_of k rs = find (slice_cmp nat_cmp) k rs

pub find-above : (k : Bytes) (rs : Rows) → AllAbove k rs → find (slice_cmp nat_cmp) k rs ≡ None
find-above k [] h = refl
find-above k (r ∷ rs) h = ap (λ o. cond (is_eq o) (Some r.1) (find (slice_cmp nat_cmp) k rs)) h.0 ∙ find-above k rs h.1

pub find-front : (k : Bytes) (a b : Rows) → AllAbove k b
    → find (slice_cmp nat_cmp) k (a ++ b) ≡ find (slice_cmp nat_cmp) k a
find-front k [] b h = find-above k b h
find-front k (r ∷ a) b h = ap (cond (eq_by_cmp (slice_cmp nat_cmp) k r.0) (Some r.1)) (find-front k a b h)

pub find-back : (k : Bytes) (a b : Rows) → AllBelow k a
    → find (slice_cmp nat_cmp) k (a ++ b) ≡ find (slice_cmp nat_cmp) k b
find-back k [] b h = refl
find-back k (r ∷ a) b h =
    ap (λ o. cond (is_eq o) (Some r.1) (find (slice_cmp nat_cmp) k (a ++ b)))
    (turned k r.0 ∙ ap ordering_reverse h.0) ∙ find-back k a b h.1

pub put-above : (k v : Bytes) (b : Rows) → AllAbove k b → put (slice_cmp nat_cmp) k v b ≡ (k, v) ∷ b
put-above k v [] h = refl
put-above k v (s ∷ b) h = ap (λ o. by_order o ((k, v) ∷ s ∷ b) ((s.0, v) ∷ b) (s ∷ put (slice_cmp nat_cmp) k v b)) h.0

pub put-front : (k v : Bytes) (a b : Rows) → AllAbove k b
    → put (slice_cmp nat_cmp) k v (a ++ b) ≡ put (slice_cmp nat_cmp) k v a ++ b
put-front k v [] b h = put-above k v b h
put-front k v (s ∷ a) b h = by (cmp k s.0) (put-front k v a b h)
  where
    by : (o : Ordering) → put (slice_cmp nat_cmp) k v (a ++ b) ≡ put (slice_cmp nat_cmp) k v a ++ b
        → by_order o ((k, v) ∷ s ∷ (a ++ b)) ((s.0, v) ∷ (a ++ b)) (s ∷ put (slice_cmp nat_cmp) k v (a ++ b))
        ≡ by_order o ((k, v) ∷ s ∷ a) ((s.0, v) ∷ a) (s ∷ put (slice_cmp nat_cmp) k v a) ++ b
    by Less ih = refl
    by Equal ih = refl
    by Greater ih = ap (λ t. s ∷ t) ih

pub put-back : (k v : Bytes) (a b : Rows) → AllBelow k a
    → put (slice_cmp nat_cmp) k v (a ++ b) ≡ a ++ put (slice_cmp nat_cmp) k v b
put-back k v [] b h = refl
put-back k v (r ∷ a) b h =
    ap (λ o. by_order o ((k, v) ∷ r ∷ (a ++ b)) ((r.0, v) ∷ (a ++ b)) (r ∷ put (slice_cmp nat_cmp) k v (a ++ b)))
    (turned k r.0 ∙ ap ordering_reverse h.0)
    ∙ ap (λ t. r ∷ t) (put-back k v a b h.1)

-- the value of a row whose key it is
pub put-at : (k v w : Bytes) (b : Rows) → put (slice_cmp nat_cmp) k v ((k, w) ∷ b) ≡ (k, v) ∷ b
put-at k v w b = ap (λ o. by_order o ((k, v) ∷ (k, w) ∷ b) ((k, v) ∷ b)
    ((k, w) ∷ put (slice_cmp nat_cmp) k v b)) (is_itself k)

-- the keys of rows rise where the rows are in order
pub rises_strict : {A : Type 0} (es : List (Bytes × A)) → T (rises (keys_of es)) → T (is_sorted (slice_cmp nat_cmp) es)
rises_strict {A} [] h = tt
rises_strict {A} (e ∷ es) h = both _ _ (below e.0 es (first _ _ h)) (rises_strict es (second _ _ h))
  where
    below : (k : Bytes) (fs : List (Bytes × A)) → T (is_below_all k (keys_of fs))
        → T (below_all (slice_cmp nat_cmp) k fs)
    below k [] h = tt
    below k (f ∷ fs) h = both _ _ (first _ _ h) (below k fs (second _ _ h))
