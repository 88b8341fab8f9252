-- Texts are ordered as the numbers of their first bytes are.
use Rattle.std.proofs.Common.{◌≡◌, ◌≢◌, ◌<◌, ◌≤◌, ◌+◌, ◌*◌, ℕ, zero, suc, [], ◌∷◌, length, get_or, take, drop, refl}
use Rattle.std.proofs.Common.{sym, ap, ◌∙◌, subst, arith, Ordering, Less, Equal, Greater, nat_cmp, nat_lt, true}
use Rattle.std.proofs.Common.{false, true≢false}
use Rattle.std.proofs.lemmas.Bool.{lt-ltb, le-ltb}
use Rattle.std.specs.Prelude.{replicate}
use Rattle.std.specs.Int.{w128, from_be_bytes}
use Rattle.std.specs.Ordering.{MatchOrdering, ordering_then, is_ne, is_gt}
use Rattle.std.specs.Cmp.{nat_cmp_is, ranks}
use Rattle.std.specs.Cmp.Lexicographic.{slice_cmp}
use Rattle.group_history.specs.Map.{Bytes}
use Rattle.group_history.specs.Inside.Fronts.{front_of, AreBytes}

-- n, and so many bytes behind it, zeros behind the end
followed : ℕ → ℕ → Bytes → ℕ
followed zero n xs = n
followed (suc k) n [] = followed k (n * 256) []
followed (suc k) n (x ∷ xs) = followed k (n * 256 + x) xs

followed-none : (n : ℕ) (xs : Bytes) → followed 0 n xs ≡ n
unfolding followed
followed-none n xs = refl

followed-more : (k n : ℕ) (xs : Bytes) → followed (suc k) n xs ≡ followed k n xs * 256 + get_or xs k 0
unfolding followed
followed-more zero n [] = omega arith
followed-more zero n (x ∷ xs) = refl
followed-more (suc k) n [] = followed-more k (n * 256) []
followed-more (suc k) n (x ∷ xs) = followed-more k (n * 256 + x) xs

-- ---- how numbers that begin so compare

followed-least : (k n m : ℕ) (ys : Bytes) → n ≤ m → followed k n [] ≤ followed k m ys
unfolding followed
followed-least zero n m ys l = l
followed-least (suc k) n m [] l = followed-least k (n * 256) (m * 256) [] (omega arith)
followed-least (suc k) n m (y ∷ ys) l = followed-least k (n * 256) (m * 256 + y) ys (omega arith)

followed-less : (k n m : ℕ) (xs ys : Bytes) → AreBytes xs → n < m → followed k n xs < followed k m ys
unfolding followed
followed-less zero n m xs ys b l = l
followed-less (suc k) n m [] [] b l = followed-less k (n * 256) (m * 256) [] [] b (omega arith)
followed-less (suc k) n m [] (y ∷ ys) b l = followed-less k (n * 256) (m * 256 + y) [] ys b (omega arith)
followed-less (suc k) n m (x ∷ xs) [] b l =
    let low : x < 256 = b 0 in
    followed-less k (n * 256 + x) (m * 256) xs [] (λ i. b (suc i)) (omega arith)
followed-less (suc k) n m (x ∷ xs) (y ∷ ys) b l =
    let low : x < 256 = b 0 in
    followed-less k (n * 256 + x) (m * 256 + y) xs ys (λ i. b (suc i)) (omega arith)

less : (u v : ℕ) → u ≤ v → u ≢ v → u < v
less u v l f = omega (arith, f)

followed-order : (k n : ℕ) (xs ys : Bytes) → AreBytes xs → AreBytes ys → followed k n xs ≢ followed k n ys
    → slice_cmp nat_cmp xs ys ≡ nat_cmp (followed k n xs) (followed k n ys)
unfolding followed
followed-order zero n xs ys a b f = absurd (f refl)
followed-order (suc k) n [] [] a b f = absurd (f refl)
followed-order (suc k) n [] (y ∷ ys) a b f =
    let u = followed k (n * 256) [] in
    let v = followed k (n * 256 + y) ys in
    nat_cmp_is u v Less (less u v (followed-least k (n * 256) (n * 256 + y) ys (omega arith)) f)
followed-order (suc k) n (x ∷ xs) [] a b f =
    let u = followed k (n * 256 + x) xs in
    let v = followed k (n * 256) [] in
    nat_cmp_is u v Greater (less v u (followed-least k (n * 256) (n * 256 + x) xs (omega arith)) (λ e. f (sym e)))
followed-order (suc k) n (x ∷ xs) (y ∷ ys) a b f =
    by (followed-order k (n * 256 + x) xs ys (λ i. a (suc i)) (λ i. b (suc i))) (nat_cmp x y) refl (ranks x y)
  where
    by : (followed k (n * 256 + x) xs ≢ followed k (n * 256 + x) ys
        → slice_cmp nat_cmp xs ys ≡ nat_cmp (followed k (n * 256 + x) xs) (followed k (n * 256 + x) ys))
        → (r : Ordering) → nat_cmp x y ≡ r → MatchOrdering r (x < y) (x ≡ y) (y < x)
        → slice_cmp nat_cmp (x ∷ xs) (y ∷ ys) ≡ nat_cmp (followed k (n * 256 + x) xs) (followed k (n * 256 + y) ys)
    by rest Less e l =
        ap (λ r. ordering_then r (slice_cmp nat_cmp xs ys)) e
        ∙ nat_cmp_is _ _ Less (followed-less k (n * 256 + x) (n * 256 + y) xs ys (λ i. a (suc i)) (omega arith))
    by rest Greater e l =
        ap (λ r. ordering_then r (slice_cmp nat_cmp xs ys)) e
        ∙ nat_cmp_is _ _ Greater (followed-less k (n * 256 + y) (n * 256 + x) ys xs (λ i. b (suc i)) (omega arith))
    by rest Equal e l =
        let same : n * 256 + x ≡ n * 256 + y = omega arith in
        ap (λ r. ordering_then r (slice_cmp nat_cmp xs ys)) e
        ∙ rest (λ g. f (g ∙ ap (λ m. followed k m ys) same))
        ∙ ap (λ m. nat_cmp (followed k (n * 256 + x) xs) (followed k m ys)) same

-- ---- the first sixteen bytes

front-followed : (xs : Bytes) → front_of xs ≡ followed 16 0 xs
unfolding front_of
front-followed xs = omega (
  arith,
  followed-none 0 xs,
  followed-more 0 0 xs,
  followed-more 1 0 xs,
  followed-more 2 0 xs,
  followed-more 3 0 xs,
  followed-more 4 0 xs,
  followed-more 5 0 xs,
  followed-more 6 0 xs,
  followed-more 7 0 xs,
  followed-more 8 0 xs,
  followed-more 9 0 xs,
  followed-more 10 0 xs,
  followed-more 11 0 xs,
  followed-more 12 0 xs,
  followed-more 13 0 xs,
  followed-more 14 0 xs,
  followed-more 15 0 xs,
)

pub front-order : (xs ys : Bytes) → AreBytes xs → AreBytes ys → front_of xs ≢ front_of ys
    → slice_cmp nat_cmp xs ys ≡ nat_cmp (front_of xs) (front_of ys)
front-order xs ys a b f =
    followed-order 16 0 xs ys a b (λ e. f (front-followed xs ∙ e ∙ sym (front-followed ys)))
    ∙ sym (ap (λ n. nat_cmp n (front_of ys)) (front-followed xs) ∙ ap (nat_cmp (followed 16 0 xs)) (front-followed ys))

followed-same : (k n : ℕ) (xs ys : Bytes) → ((i : ℕ) → i < k → get_or xs i 0 ≡ get_or ys i 0)
    → followed k n xs ≡ followed k n ys
unfolding followed
followed-same zero n xs ys h = refl
followed-same (suc k) n xs ys h =
    followed-more k n xs
    ∙ ap (λ m. m * 256 + get_or xs k 0) (followed-same k n xs ys (λ i l. h i (omega arith)))
    ∙ ap (λ x. followed k n ys * 256 + x) (h k (omega arith)) ∙ sym (followed-more k n ys)

pub front-same : (xs ys : Bytes) → ((i : ℕ) → i < 16 → get_or xs i 0 ≡ get_or ys i 0) → front_of xs ≡ front_of ys
front-same xs ys h = front-followed xs ∙ followed-same 16 0 xs ys h ∙ sym (front-followed ys)

-- ---- a text that is cut, or has zeros behind it

zeros : (n i : ℕ) → ◌≡◌ {A = ℕ} (get_or (replicate n 0) i 0) 0
zeros zero i = refl
zeros (suc n) zero = refl
zeros (suc n) (suc i) = zeros n i

before_zeros : (k n i : ℕ) (xs : Bytes) → drop k xs ≡ replicate n 0 → get_or (take k xs) i 0 ≡ get_or xs i 0
before_zeros zero n i xs e = sym (ap (λ w. get_or w i 0) e ∙ zeros n i)
before_zeros (suc k) n i [] e = refl
before_zeros (suc k) n zero (x ∷ xs) e = refl
before_zeros (suc k) n (suc i) (x ∷ xs) e = before_zeros k n i xs e

pub front-zeros : (k n : ℕ) (xs : Bytes) → drop k xs ≡ replicate n 0 → front_of xs ≡ front_of (take k xs)
front-zeros k n xs e = front-same xs (take k xs) (λ i l. sym (before_zeros k n i xs e))

cut : (k i : ℕ) (xs : Bytes) → (k ≤ i → length xs ≤ k) → get_or (take k xs) i 0 ≡ get_or xs i 0
cut zero i [] h = refl
cut zero i (x ∷ xs) h = absurd (omega (arith, h (omega arith)))
cut (suc k) i [] h = refl
cut (suc k) zero (x ∷ xs) h = refl
cut (suc k) (suc i) (x ∷ xs) h = cut k i xs (λ l. omega (arith, h (omega arith)))

pub front-cut : (k : ℕ) (xs : Bytes) → (k < 16 → length xs ≤ k) → front_of (take k xs) ≡ front_of xs
front-cut k xs h = front-same (take k xs) xs (λ i l. cut k i xs (λ g. h (omega arith)))

pub bytes-zeros : (k n : ℕ) (xs : Bytes) → drop k xs ≡ replicate n 0 → AreBytes xs → AreBytes (take k xs)
bytes-zeros k n xs e b i = subst (λ x. x < 256) (sym (before_zeros k n i xs e)) (b i)

pub front-chunk : (n : ℕ) (xs chunk : Bytes) → n ≡ from_be_bytes w128 chunk → chunk ≡ take 16 xs → n ≡ front_of xs
unfolding front_of
front-chunk n xs chunk e same = e ∙ ap front_of same ∙ front-cut 16 xs (λ l. absurd (omega arith))

-- ---- an order by the numbers of the first bytes that isn't Equal

pub front-decides : (xs ys : Bytes) (m n : ℕ) (o : Ordering) → m ≡ front_of xs → n ≡ front_of ys → AreBytes xs
    → AreBytes ys → o ≡ nat_cmp m n → is_ne o ≡ true → o ≡ slice_cmp nat_cmp xs ys
front-decides xs ys m n o p q a b e ne =
    e ∙ ap (λ w. nat_cmp w n) p ∙ ap (nat_cmp (front_of xs)) q ∙ sym (front-order xs ys a b apart)
  where
    apart : front_of xs ≢ front_of ys
    apart s =
        let level : o ≡ Equal = e ∙ sym (nat_cmp_is m n Equal (p ∙ s ∙ sym q)) in
        true≢false (sym ne ∙ ap is_ne level)

-- ---- of two short texts with the same front the longer one is above

both-more : (m n : ℕ) (o : Ordering) → MatchOrdering o (m < n) (m ≡ n) (n < m) → o ≡ nat_cmp (suc m) (suc n)
both-more m n Less l = nat_cmp_is (suc m) (suc n) Less (omega (arith, l))
both-more m n Equal l = nat_cmp_is (suc m) (suc n) Equal (omega (arith, l))
both-more m n Greater l = nat_cmp_is (suc m) (suc n) Greater (omega (arith, l))

short-same : (k n : ℕ) (xs ys : Bytes) → AreBytes xs → AreBytes ys → length xs ≤ k → length ys ≤ k
    → followed k n xs ≡ followed k n ys → slice_cmp nat_cmp xs ys ≡ nat_cmp (length xs) (length ys)
unfolding followed
short-same k n [] [] a b lx ly e = nat_cmp_is 0 0 Equal refl
short-same k n [] (y ∷ ys) a b lx ly e = nat_cmp_is 0 (suc (length ys)) Less (omega arith)
short-same k n (x ∷ xs) [] a b lx ly e = nat_cmp_is (suc (length xs)) 0 Greater (omega arith)
short-same zero n (x ∷ xs) (y ∷ ys) a b lx ly e = absurd (omega (arith, lx))
short-same (suc k) n (x ∷ xs) (y ∷ ys) a b lx ly e =
    by (short-same k (n * 256 + x) xs ys (λ i. a (suc i)) (λ i. b (suc i)) (omega (arith, lx)) (omega (arith, ly)))
    (nat_cmp x y) refl (ranks x y)
  where
    by : (followed k (n * 256 + x) xs ≡ followed k (n * 256 + x) ys
        → slice_cmp nat_cmp xs ys ≡ nat_cmp (length xs) (length ys))
        → (r : Ordering) → nat_cmp x y ≡ r → MatchOrdering r (x < y) (x ≡ y) (y < x)
        → slice_cmp nat_cmp (x ∷ xs) (y ∷ ys) ≡ nat_cmp (suc (length xs)) (suc (length ys))
    by rest Less c l =
        let low = followed-less k (n * 256 + x) (n * 256 + y) xs ys (λ i. a (suc i)) (omega (arith, l)) in
        absurd (omega (arith, low, e))
    by rest Greater c l =
        let low = followed-less k (n * 256 + y) (n * 256 + x) ys xs (λ i. b (suc i)) (omega (arith, l)) in
        absurd (omega (arith, low, e))
    by rest Equal c l =
        let same : n * 256 + y ≡ n * 256 + x = omega (arith, l) in
        ap (λ r. ordering_then r (slice_cmp nat_cmp xs ys)) c ∙ rest (e ∙ ap (λ m. followed k m ys) same)
        ∙ both-more (length xs) (length ys) (nat_cmp (length xs) (length ys)) (ranks (length xs) (length ys))

same_by : (m n : ℕ) (o : Ordering) → nat_cmp m n ≡ o → MatchOrdering o (m < n) (m ≡ n) (n < m) → is_ne o ≡ false
    → m ≡ n
same_by m n Less e l ne = absurd (true≢false ne)
same_by m n Equal e l ne = l
same_by m n Greater e l ne = absurd (true≢false ne)

pub short-decides : (xs ys : Bytes) (m n : ℕ) (o : Ordering) → m ≡ front_of xs → n ≡ front_of ys → AreBytes xs
    → AreBytes ys → o ≡ nat_cmp m n → is_ne o ≡ false → length xs ≤ 16 → length ys ≤ 16
    → nat_cmp (length xs) (length ys) ≡ slice_cmp nat_cmp xs ys
short-decides xs ys m n o p q a b e ne lx ly =
    let ranked = subst (λ w. MatchOrdering w (m < n) (m ≡ n) (n < m)) (sym e) (ranks m n) in
    let same = same_by m n o (sym e) ranked ne in
    sym (short-same 16 0 xs ys a b lx ly (sym (front-followed xs) ∙ sym p ∙ same ∙ q ∙ front-followed ys))

below_greater : (m n : ℕ) (o : Ordering) → nat_cmp m n ≡ o → MatchOrdering o (m < n) (m ≡ n) (n < m)
    → nat_lt n m ≡ is_gt (nat_cmp m n)
below_greater m n Less e l = le-ltb n m (omega (arith, l)) ∙ ap is_gt (sym e)
below_greater m n Equal e l = le-ltb n m (omega (arith, l)) ∙ ap is_gt (sym e)
below_greater m n Greater e l = lt-ltb n m l ∙ ap is_gt (sym e)

-- which of two texts is above, where their fronts differ
pub front-above : (xs ys : Bytes) (m n : ℕ) → m ≡ front_of xs → n ≡ front_of ys → AreBytes xs → AreBytes ys → m ≢ n
    → nat_lt n m ≡ is_gt (slice_cmp nat_cmp xs ys)
front-above xs ys m n p q a b apart =
    below_greater m n (nat_cmp m n) refl (ranks m n)
    ∙ ap (λ w. is_gt (nat_cmp w n)) p
    ∙ ap (λ w. is_gt (nat_cmp (front_of xs) w)) q
    ∙ ap is_gt (sym (front-order xs ys a b (λ e. apart (p ∙ e ∙ sym q))))
