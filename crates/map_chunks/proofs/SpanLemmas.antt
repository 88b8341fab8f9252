-- The keys that are in a scan stand together in the order of keys.
use Rattle.std.proofs.Common.{◌≡◌, ◌<◌, ◌-◌, ◌+◌, ℕ, zero, suc, Bool, true, false, cond, ◌&&◌, T, List, [], ◌∷◌, ◌++◌}
use Rattle.std.proofs.Common.{length, length-drop, take, drop, get_or, nat_eq, refl, sym, ap, ◌∙◌, subst, arith}
use Rattle.std.proofs.Common.{Ordering, Less, Equal, Greater, is_gt}
use Rattle.std.proofs.lemmas.List.{take-append-drop}
use Rattle.std.proofs.lemmas.List.Elements.{filter-append}
use Rattle.std.specs.List.{starts_with}
use Rattle.std.specs.Ordering.{is_ge, ordering_reverse}
use Rattle.group_history.specs.declared.scans.Scan.{Scan}
use Rattle.group_history.specs.declared.scans.Start.{Start}
use Rattle.group_history.specs.declared.scans.Start.TheVariants.{Any, At, After}
use Rattle.group_history.specs.Map.{Bytes}
use Rattle.group_history.specs.Rows.{paired, rises, is_below_all}
use Rattle.group_history.specs.Scans.{is_from, is_in}
use Rattle.map_chunks.specs.Scanning.{scanned}
use Rattle.map_chunks.specs.Inside.Scanning.{AreIn}
use Rattle.map_chunks.proofs.RowLemmas.{cmp, turned, same_key, less_trans, less, first, second}
use Rattle.map_chunks.proofs.PrefixLemmas.{past_prefix, below_prefix}
use Rattle.map_chunks.proofs.Texts.{and-first, and-second}
use Rattle.map_chunks.proofs.ListLemmas.{paired-drop}
use Rattle.map_chunks.proofs.TakenLemmas.{take-all}

-- what is above a key that isn't below s is above s
above_from : (a s j : Bytes) → is_ge (cmp a s) ≡ true → cmp a j ≡ Less → cmp j s ≡ Greater
above_from a s j h l = turned j s ∙ by (cmp a s) refl h
  where
    by : (o : Ordering) → cmp a s ≡ o → is_ge o ≡ true → ordering_reverse (cmp s j) ≡ Greater
    by Less e h = absurd cc
    by Equal e h = ap ordering_reverse (subst (λ w. cmp w j ≡ Less) (same_key a s e) l)
    by Greater e h = ap ordering_reverse (less_trans s a j (turned s a ∙ ap ordering_reverse e) l)

from_more : (start : Start) (a j : Bytes) → cmp a j ≡ Less → is_from start a ≡ true → is_from start j ≡ true
from_more Any a j l h = refl
from_more (At s) a j l h = ap is_ge (above_from a s j h l)
from_more (After s) a j l h = by (cmp a s) refl h
  where
    by : (o : Ordering) → cmp a s ≡ o → is_gt o ≡ true → is_gt (cmp j s) ≡ true
    by Less e h = absurd cc
    by Equal e h = absurd cc
    by Greater e h = ap is_gt (above_from a s j (ap is_ge e) l)

from_prefix : (p a : Bytes) → starts_with nat_eq a p ≡ true → is_ge (cmp a p) ≡ true
from_prefix p a h = by (cmp a p) refl
  where
    by : (o : Ordering) → cmp a p ≡ o → is_ge o ≡ true
    by Less e = absurd (let n = below_prefix p a e in cc)
    by Equal e = refl
    by Greater e = refl

both_true : (a b : Bool) → a ≡ true → b ≡ true → (a && b) ≡ true
both_true true b p q = q
both_true false b p q = p

-- a key between two that are in the scan is in it
between : (scan : Scan) (a j b : Bytes) → cmp a j ≡ Less → cmp j b ≡ Less → is_in scan a ≡ true → is_in scan b ≡ true
    → is_in scan j ≡ true
between scan a j b l m p q =
    both_true _ _ (by (starts_with nat_eq j scan.prefix) refl)
    (from_more scan.start a j l (and-second (starts_with nat_eq a scan.prefix) _ p))
  where
    by : (u : Bool) → starts_with nat_eq j scan.prefix ≡ u → u ≡ true
    by true e = refl
    by false e =
        let g = above_from a scan.prefix j (from_prefix scan.prefix a (and-first _ _ p)) l in
        let n = past_prefix scan.prefix j b g e m in
        let h = and-first (starts_with nat_eq b scan.prefix) _ q in
        absurd cc

below_got : (k : Bytes) (ks : List Bytes) (i : ℕ) (b : Bytes) → T (is_below_all k ks) → i < length ks
    → b ≡ get_or ks i b → cmp k b ≡ Less
below_got k [] i b h l e = absurd (omega arith)
below_got k (j ∷ ks) zero b h l e = subst (λ w. cmp k w ≡ Less) (sym e) (less _ (first _ _ h))
below_got k (j ∷ ks) (suc i) b h l e = below_got k ks i b (second _ _ h) (omega arith) e

-- where the first and the last key are in the scan, each is
spanned : (scan : Scan) (k : Bytes) (ks : List Bytes) (b : Bytes) → T (rises (k ∷ ks))
    → b ≡ get_or (k ∷ ks) (length ks) b → is_in scan k ≡ true → is_in scan b ≡ true → AreIn scan (k ∷ ks)
spanned scan k [] b o e p q = (p, tt)
spanned scan k (j ∷ []) b o e p q = (p, (subst (λ w. is_in scan w ≡ true) e q, tt))
spanned scan k (j ∷ i ∷ ks) b o e p q =
    let back : T (rises (j ∷ i ∷ ks)) = second (is_below_all k (j ∷ i ∷ ks)) _ o in
    let l : cmp k j ≡ Less = less _ (first _ _ (first (is_below_all k (j ∷ i ∷ ks)) _ o)) in
    let inside : length ks < length (i ∷ ks) = omega arith in
    let m : cmp j b ≡ Less = below_got j (i ∷ ks) (length ks) b (first (is_below_all j (i ∷ ks)) _ back) inside e in
    (p, spanned scan j (i ∷ ks) b back e (between scan k j b l m p q) q)

pub spans : (scan : Scan) (ks : List Bytes) (i : ℕ) (a b : Bytes) → T (rises ks) → i < length ks
    → a ≡ get_or ks i a → b ≡ get_or ks (length ks - 1) b → is_in scan a ≡ true → is_in scan b ≡ true
    → AreIn scan (drop i ks)
spans scan [] i a b o l e f p q = absurd (omega arith)
spans scan (k ∷ ks) zero a b o l e f p q =
    let n : suc (length ks) - 1 ≡ length ks = omega arith in
    spanned scan k ks b o (f ∙ ap (λ m. get_or (k ∷ ks) m b) n) (subst (λ w. is_in scan w ≡ true) e p) q
spans scan (k ∷ []) (suc i) a b o l e f p q = absurd (omega arith)
spans scan (k ∷ j ∷ ks) (suc i) a b o l e f p q =
    let n : suc (suc (length ks)) - 1 ≡ suc (suc (length ks) - 1) = omega arith in
    spans scan (j ∷ ks) i a b (second (is_below_all k (j ∷ ks)) _ o) (omega arith) e
    (f ∙ ap (λ m. get_or (k ∷ j ∷ ks) m b) n) p q

-- rows whose keys are in the scan
all_in : (scan : Scan) (ks vs : List Bytes) → length vs ≡ length ks → AreIn scan ks
    → scanned scan (paired ks vs) ≡ paired ks vs
all_in scan [] vs l h = refl
all_in scan (k ∷ ks) [] l h = absurd (omega arith)
all_in scan (k ∷ ks) (v ∷ vs) l h =
    ap (λ u. cond u ((k, v) ∷ scanned scan (paired ks vs)) (scanned scan (paired ks vs))) h.0
    ∙ ap (λ w. (k, v) ∷ w) (all_in scan ks vs (omega arith) h.1)

length-drops : {A B : Type 0} (n : ℕ) (xs : List A) (ys : List B) → length ys ≡ length xs
    → length (drop n ys) ≡ length (drop n xs)
length-drops zero xs ys l = l
length-drops (suc n) [] [] l = refl
length-drops (suc n) [] (y ∷ ys) l = absurd (omega arith)
length-drops (suc n) (x ∷ xs) [] l = absurd (omega arith)
length-drops (suc n) (x ∷ xs) (y ∷ ys) l = length-drops n xs ys (omega arith)

-- a slice from a place on
rest_of : {A : Type 0} (n : ℕ) (xs : List A) → take (length xs - n) (drop n xs) ≡ drop n xs
rest_of n xs = take-all (length xs - n) (drop n xs)
    (let e : length (drop n xs) ≡ length xs - n = length-drop n xs in omega (arith, e))

paired_from : (ks vs : List Bytes) (i : ℕ)
    → paired (take (length ks - i) (drop i ks)) (take (length vs - i) (drop i vs)) ≡ paired (drop i ks) (drop i vs)
paired_from ks vs i =
    ap (λ w. paired w (take (length vs - i) (drop i vs))) (rest_of i ks) ∙ ap (paired (drop i ks)) (rest_of i vs)

-- what the scan has of rows, where it has none up to a place
pub scanned_from : (scan : Scan) (ks vs : List Bytes) (i : ℕ) → scanned scan (take i (paired ks vs)) ≡ []
    → scanned scan (paired (take (length ks - i) (drop i ks)) (take (length vs - i) (drop i vs)))
    ≡ scanned scan (paired ks vs)
scanned_from scan ks vs i n =
    ap (scanned scan) (paired_from ks vs i ∙ paired-drop i ks vs)
    ∙ sym (ap (scanned scan) (sym (take-append-drop i (paired ks vs)))
    ∙ filter-append (λ e. is_in scan e.0) (take i (paired ks vs)) (drop i (paired ks vs))
    ∙ ap (λ w. w ++ scanned scan (drop i (paired ks vs))) n)

-- and where it has each from there on
pub all_from : (scan : Scan) (ks vs : List Bytes) (i : ℕ) → length vs ≡ length ks
    → scanned scan (take i (paired ks vs)) ≡ [] → AreIn scan (drop i ks)
    → paired (take (length ks - i) (drop i ks)) (take (length vs - i) (drop i vs)) ≡ scanned scan (paired ks vs)
all_from scan ks vs i l n h =
    paired_from ks vs i ∙ sym (all_in scan (drop i ks) (drop i vs) (length-drops i ks vs l) h)
    ∙ ap (scanned scan) (sym (paired_from ks vs i)) ∙ scanned_from scan ks vs i n

-- keys from a place on are in order
rises-drop : (n : ℕ) (ks : List Bytes) → T (rises ks) → T (rises (drop n ks))
rises-drop zero ks o = o
rises-drop (suc n) [] o = o
rises-drop (suc n) (k ∷ ks) o = rises-drop n ks (second (is_below_all k ks) _ o)

pub rises_from : (ks : List Bytes) (i : ℕ) → T (rises ks) → T (rises (take (length ks - i) (drop i ks)))
rises_from ks i o = subst (λ w. T (rises w)) (sym (rest_of i ks)) (rises-drop i ks o)

-- a row more of those that are taken one by one
pub row_more : (ks vs : List Bytes) (i : ℕ) (k v : Bytes) → length vs ≡ length ks → i < length ks → k ≡ get_or ks i k
    → v ≡ get_or vs i v → take i (paired ks vs) ++ (k, v) ∷ [] ≡ take (i + 1) (paired ks vs)
row_more ks vs i k v l b p q = go ks vs i l b p q ∙ (let n : suc i ≡ i + 1 = omega arith in
    ap (λ m. take m (paired ks vs)) n)
  where
    go : (ks vs : List Bytes) (i : ℕ) → length vs ≡ length ks → i < length ks → k ≡ get_or ks i k → v ≡ get_or vs i v
        → take i (paired ks vs) ++ (k, v) ∷ [] ≡ take (suc i) (paired ks vs)
    go [] vs i l b p q = absurd (omega arith)
    go (j ∷ ks) [] i l b p q = absurd (omega arith)
    go (j ∷ ks) (w ∷ vs) zero l b p q = cc
    go (j ∷ ks) (w ∷ vs) (suc i) l b p q = ap (λ u. (j, w) ∷ u) (go ks vs i (omega arith) (omega arith) p q)
