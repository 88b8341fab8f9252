-- Lists cut, and pairs of lists changed in one place.
use Rattle.std.proofs.Common.{◌≡◌, ◌≤◌, ◌+◌, ℕ, zero, suc, List, [], ◌∷◌, ◌++◌, Bool, true, false, cond, length}
use Rattle.std.proofs.Common.{length-take, length-drop, min, ◌-◌, take, drop, insert, remove, refl, sym, ap, ◌∙◌, arith}
use Rattle.group_history.specs.Map.{Bytes}
use Rattle.group_history.specs.Rows.{paired}

-- a list cut where its front ends
pub cut_front : {A : Type 0} (a b xs : List A) (n : ℕ) → a ++ b ≡ xs → length a ≡ n → a ≡ take n xs
cut_front {A = A} a b xs n e l = go a n l ∙ ap (take n) e
  where
    go : (a : List A) (n : ℕ) → length a ≡ n → a ≡ take n (a ++ b)
    go [] zero l = refl
    go [] (suc n) l = absurd (omega arith)
    go (x ∷ a) zero l = absurd (omega arith)
    go (x ∷ a) (suc n) l = ap (λ w. x ∷ w) (go a n (omega arith))

pub cut_back : {A : Type 0} (a b xs : List A) (n : ℕ) → a ++ b ≡ xs → length a ≡ n → b ≡ drop n xs
cut_back {A = A} a b xs n e l = go a n l ∙ ap (drop n) e
  where
    go : (a : List A) (n : ℕ) → length a ≡ n → b ≡ drop n (a ++ b)
    go [] zero l = refl
    go [] (suc n) l = absurd (omega arith)
    go (x ∷ a) zero l = absurd (omega arith)
    go (x ∷ a) (suc n) l = go a n (omega arith)

paired-take : {A : Type 0} (n : ℕ) (ks : List Bytes) (xs : List A)
    → paired (take n ks) (take n xs) ≡ take n (paired ks xs)
paired-take zero ks xs = refl
paired-take (suc n) [] xs = refl
paired-take (suc n) (k ∷ ks) [] = refl
paired-take (suc n) (k ∷ ks) (x ∷ xs) = ap (λ w. (k, x) ∷ w) (paired-take n ks xs)

pub paired-drop : {A : Type 0} (n : ℕ) (ks : List Bytes) (xs : List A)
    → paired (drop n ks) (drop n xs) ≡ drop n (paired ks xs)
paired-drop zero ks xs = refl
paired-drop (suc n) [] xs = refl
paired-drop {A = A} (suc n) (k ∷ ks) [] = none (drop n ks)
  where
    none : (js : List Bytes) → paired {B = A} js [] ≡ []
    none [] = refl
    none (j ∷ js) = refl
paired-drop (suc n) (k ∷ ks) (x ∷ xs) = paired-drop n ks xs

pub paired-insert : {A : Type 0} (ks : List Bytes) (xs : List A) (i : ℕ) (k : Bytes) (x : A) → length xs ≡ length ks
    → i ≤ length ks → paired (insert ks i k) (insert xs i x) ≡ insert (paired ks xs) i (k, x)
paired-insert ks xs zero k x l h = refl
paired-insert [] xs (suc i) k x l h = absurd (omega arith)
paired-insert (j ∷ ks) [] (suc i) k x l h = absurd (omega arith)
paired-insert (j ∷ ks) (y ∷ xs) (suc i) k x l h = ap (λ w. (j, y) ∷ w)
    (paired-insert ks xs i k x (omega arith) (omega arith))

pub paired-remove : {A : Type 0} (ks : List Bytes) (xs : List A) (i : ℕ) → length xs ≡ length ks
    → paired (remove ks i) (remove xs i) ≡ remove (paired ks xs) i
paired-remove [] [] zero l = refl
paired-remove [] [] (suc i) l = refl
paired-remove [] (x ∷ xs) i l = absurd (omega arith)
paired-remove (k ∷ ks) [] i l = absurd (omega arith)
paired-remove (k ∷ ks) (x ∷ xs) zero l = refl
paired-remove (k ∷ ks) (x ∷ xs) (suc i) l = ap (λ w. (k, x) ∷ w) (paired-remove ks xs i (omega arith))

pub length-paired : {A : Type 0} (ks : List Bytes) (xs : List A) → length xs ≡ length ks
    → length (paired ks xs) ≡ length ks
length-paired [] xs l = refl
length-paired (k ∷ ks) [] l = absurd (omega arith)
length-paired (k ∷ ks) (x ∷ xs) l = ap suc (length-paired ks xs (omega arith))

-- what a list is after a call that succeeded
pub succeeded : {A : Type 0} (b : Bool) (x y z : A) → b ≡ true → x ≡ cond b y z → x ≡ y
succeeded true x y z h e = e
succeeded false x y z h e = absurd cc

pub length-inserted : {A : Type 0} (xs : List A) (i : ℕ) (x : A) → i ≤ length xs
    → length (insert xs i x) ≡ length xs + 1
length-inserted xs zero x h = omega arith
length-inserted [] (suc i) x h = absurd (omega arith)
length-inserted (y ∷ xs) (suc i) x h = omega (arith, length-inserted xs i x (omega arith))

pub record Inserted {A : Type 0} (keys : List Bytes) (entries : List A) (i : ℕ) (key : Bytes) (x : A) (nk : List Bytes)
    (ne : List A) : Type 0 where
  pub pairs : paired nk ne ≡ insert (paired keys entries) i (key, x)
  pub same : length ne ≡ length nk
  pub whole : length (insert (paired keys entries) i (key, x)) ≡ length ne
  pub more : length ne ≡ length keys + 1

pub inserted : {A : Type 0} (keys : List Bytes) (entries : List A) (i : ℕ) (key : Bytes) (x : A) (nk : List Bytes)
    (ne : List A) → length entries ≡ length keys → i ≤ length keys
    → nk ≡ insert keys i key → ne ≡ insert entries i x → Inserted keys entries i key x nk ne
inserted keys entries i key x nk ne l w ek ee =
    let lk = length-inserted keys i key w in
    let le = length-inserted entries i x (omega (arith, l, w)) in
    let lp = length-inserted (paired keys entries) i (key, x) (omega (arith, length-paired keys entries l, w)) in
    record {
      pairs = ap (λ ks. paired ks ne) ek ∙ ap (paired (insert keys i key)) ee ∙ paired-insert keys entries i key x l w;
      same = omega (arith, lk, le, ap length ek, ap length ee, l);
      whole = omega (arith, lp, le, ap length ee, length-paired keys entries l, l);
      more = omega (arith, le, ap length ee, l);
    }

-- both halves of pairs that are cut
pub cut_pairs : {A : Type 0} (es : List (Bytes × A)) (nk : List Bytes) (ne : List A) (ka kb : List Bytes)
    (ea eb : List A) → paired nk ne ≡ es → length ne ≡ length nk
    → ka ≡ take 8 nk → kb ≡ drop 8 nk → ea ≡ take 8 ne → eb ≡ drop 8 ne
    → ((paired ka ea ≡ take 8 es) × (length ea ≡ length ka)) × ((paired kb eb ≡ drop 8 es) × (length eb ≡ length kb))
cut_pairs es nk ne ka kb ea eb p l a b c d = (
  (
    ap (λ ks. paired ks ea) a ∙ ap (paired (take 8 nk)) c ∙ paired-take 8 nk ne ∙ ap (take 8) p,
    ap length c ∙ length-take 8 ne ∙ ap (min 8) l ∙ sym (length-take 8 nk) ∙ sym (ap length a),
  ),
  (
    ap (λ ks. paired ks eb) b ∙ ap (paired (drop 8 nk)) d ∙ paired-drop 8 nk ne ∙ ap (drop 8) p,
    ap length d ∙ length-drop 8 ne ∙ ap (λ n. n - 8) l ∙ sym (length-drop 8 nk) ∙ sym (ap length b),
  ),
)
