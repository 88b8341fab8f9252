-- What a leaf has at a key.
use Rattle.std.proofs.Common.{◌≡◌, ◌∙◌, ◌<◌, ◌++◌, ◌∷◌, ℕ, Bool, true, false, List, [], Option, Some, None, ap, arith}
use Rattle.std.proofs.Common.{IfErr, IfOk, Result, get_or, is_eq, length, nat_cmp, refl, set, subst, sym, T}
use Rattle.std.proofs.lemmas.List.{get_or_default}
use Rattle.std.specs.Cmp.Lexicographic.{slice_cmp}
use Rattle.std.specs.FinMap.{find, put}
use Rattle.group_history.specs.Map.{Bytes, same_text}
use Rattle.group_history.specs.Rows.{AreKeys, Rows, keys_of, paired, rises, values_of}
use Rattle.group_history.proofs.Pairs.{paired-parts}
use Rattle.map_chunks.proofs.JoinLemmas.{some_is}
use Rattle.map_chunks.proofs.RowLemmas.{is_itself}
use Rattle.map_chunks.proofs.SearchLemmas.{absent_in, find-absent, find-found, found_in, indexed, length-keys_of}
use Rattle.map_chunks.proofs.SearchLemmas.{length-values_of, value-found, Found}
use Rattle.map_chunks.proofs.Texts.{same_text-itself}
use Rattle.map_chunks.specs.Search.{IsAbsent, IsFound}
use Rattle.map_nodes.proofs.ChangeLemmas.{put-found, replaced}

-- rows are their keys and values
pub rows_whole : (rows : Rows) (keys values : List Bytes) → keys ≡ keys_of rows → values ≡ values_of rows
    → paired keys values ≡ rows
rows_whole rows keys values k v = ap (λ w. paired w values) k ∙ ap (paired (keys_of rows)) v ∙ paired-parts rows

-- the value that a leaf has at a key
pub value_there : (key : Bytes) (keys values : List Bytes) (i : ℕ) (x : Bytes) → T (rises keys)
    → length values ≡ length keys → IsFound key keys i → x ≡ get_or values i x
    → find (slice_cmp nat_cmp) key (paired keys values) ≡ Some x
value_there key keys values i x o l f e =
    let r = found_in key keys values i o l f in
    find-found key (paired keys values) i r
    ∙ ap (λ w. Some w) (sym (indexed values i x r.value (value-found key keys values i l r) e))

-- a key that a leaf hasn't
pub value_absent : (key : Bytes) (keys values : List Bytes) (n : ℕ) → T (rises keys) → length values ≡ length keys
    → IsAbsent key keys n → find (slice_cmp nat_cmp) key (paired keys values) ≡ None
value_absent key keys values n o l a = find-absent key (paired keys values) n (absent_in key keys values n o l a)

-- the same of the rows
pub value_has : (rows : Rows) (key : Bytes) (i : ℕ) (x : Bytes) → AreKeys (keys_of rows) → IsFound key (keys_of rows) i
    → x ≡ get_or (values_of rows) i x → find (slice_cmp nat_cmp) key rows ≡ Some x
value_has rows key i x o f e =
    ap (find (slice_cmp nat_cmp) key) (sym (paired-parts rows))
    ∙ value_there key (keys_of rows) (values_of rows) i x o.1
    (omega (arith, length-keys_of rows, length-values_of rows)) f e

pub value_misses : (rows : Rows) (key : Bytes) (n : ℕ) → AreKeys (keys_of rows) → IsAbsent key (keys_of rows) n
    → find (slice_cmp nat_cmp) key rows ≡ None
value_misses rows key n o a =
    ap (find (slice_cmp nat_cmp) key) (sym (paired-parts rows))
    ∙ value_absent key (keys_of rows) (values_of rows) n o.1
    (omega (arith, length-keys_of rows, length-values_of rows)) a

-- the value found isn't one that differs from it
pub value_differs : (found : Option Bytes) (x v : Bytes) (eq : Bool) → found ≡ Some x → eq ≡ same_text x v
    → eq ≡ false → found ≡ Some v → ⊥
value_differs found x v eq f s d g =
    clash (same_text x x) (same_text-itself x) (ap (same_text x) (some_is (sym f ∙ g)) ∙ sym s ∙ d)
  where
    clash : (b : Bool) → b ≡ true → b ≡ false → ⊥
    clash true e f = cc
    clash false e f = cc

-- what is found at a key that was searched for among the keys of rows
pub value_searched : (rows : Rows) (searched key : Bytes) (place : Result ℕ ℕ) (found : Option Bytes)
    (keys values : List Bytes) → searched ≡ key → keys ≡ keys_of rows → values ≡ values_of rows → AreKeys keys
    → IfOk place (IsFound searched keys) → IfErr place (IsAbsent searched keys)
    → ((k : Bytes) (ks : List Bytes) → AreKeys ks → length values ≡ length ks → IfOk place (IsFound k ks)
    → IfErr place (IsAbsent k ks) → found ≡ find (slice_cmp nat_cmp) k (paired ks values))
    → found ≡ find (slice_cmp nat_cmp) key rows
value_searched rows searched key place found keys values e k v o f a h =
    let l : length values ≡ length keys = omega
    (arith, ap length k, ap length v, length-keys_of rows, length-values_of rows) in
    h searched keys o l f a ∙ ap (λ w. find (slice_cmp nat_cmp) w (paired keys values)) e
    ∙ ap (find (slice_cmp nat_cmp) key) (rows_whole rows keys values k v)

-- no value is no other one
pub no_other : (found : Option Bytes) (v : Bytes) → found ≡ None → found ≡ Some v → ⊥
no_other found v e f = cc

-- ROWS WITH A VALUE PUT AT A KEY THAT IS THERE

-- a value that takes another one's place
keys_beside : (front back : Rows) (key x v : Bytes)
    → keys_of (front ++ (key, v) ∷ back) ≡ keys_of (front ++ (key, x) ∷ back)
keys_beside [] back key x v = refl
keys_beside (e ∷ front) back key x v = ap (λ w. e.0 ∷ w) (keys_beside front back key x v)

-- a key found among the keys of rows is found in these
pub found_among : (rows : Rows) (key : Bytes) (i : ℕ) → AreKeys (keys_of rows) → IsFound key (keys_of rows) i
    → Found key rows i
found_among rows key i o f =
    let l : length (values_of rows) ≡ length (keys_of rows) = omega
    (arith, length-keys_of rows, length-values_of rows) in
    subst (λ w. Found key w i) (paired-parts rows) (found_in key (keys_of rows) (values_of rows) i o.1 l f)

-- the rows have the keys that they had
pub keys_stay : (rows : Rows) (key v : Bytes) (i : ℕ) → Found key rows i
    → keys_of (put (slice_cmp nat_cmp) key v rows) ≡ keys_of rows
keys_stay rows key v i r = ap keys_of (put-found key v rows i r) ∙ keys_beside r.front r.back key r.value v
    ∙ ap keys_of (sym r.whole)

-- the values of rows with one in another one's place
pub value_put : (rows : Rows) (keys values : List Bytes) (key v : Bytes) (i : ℕ) → keys ≡ keys_of rows
    → values ≡ values_of rows → AreKeys keys → IsFound key keys i
    → paired keys (set values i v) ≡ put (slice_cmp nat_cmp) key v rows
value_put rows keys values key v i k x o f =
    let l : length values ≡ length keys = omega
    (arith, ap length k, ap length x, length-keys_of rows, length-values_of rows) in
    let r = found_in key keys values i o.1 l f in
    let made = replaced keys values i v r.value r.front key r.back l r.whole r.at in
    let put_is = put-found key v (paired keys values) i r in
    let whole = ap (put (slice_cmp nat_cmp) key v) (rows_whole rows keys values k x) in
    cc

-- the key at a place is found there
pub found_itself : (keys : List Bytes) (i : ℕ) → i < length keys → IsFound (get_or keys i []) keys i
found_itself keys i l = (
  l,
  λ d. ap (λ w. is_eq (slice_cmp nat_cmp w (get_or keys i []))) (get_or_default keys i d [] l)
      ∙ ap is_eq (is_itself (get_or keys i [])),
)
