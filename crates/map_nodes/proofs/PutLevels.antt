-- What a put makes of the chunks of each level.
use Rattle.std.proofs.Common.{◌≡◌, ◌⊎◌, ◌+◌, ◌-◌, ◌<◌, ◌≤◌, ℕ, zero, suc, Bool, true, false, List, [], ◌∷◌, ◌++◌}
use Rattle.std.proofs.Common.{Option, Some, None, inl, inr, refl, sym, ap, ◌∙◌, subst, arith, length, take, drop, set}
use Rattle.std.proofs.Common.{get_or, insert, length-append, length-drop, take-append-drop, append_assoc, append-nil}
use Rattle.std.proofs.Common.{Result, Ok, Err, IfOk}
use mathlib.Core.List.{IsPrefix}
use Rattle.group_history.specs.Map.{Bytes}
use Rattle.group_history.specs.Rows.{keys_of, paired, values_of}
use Rattle.group_history.specs.Spelling.{Contents}
use Rattle.group_history.proofs.Pairs.{keys_of-paired, values_of-paired}
use Rattle.map_chunks.proofs.ListLemmas.{length-inserted, length-paired, paired-insert}
use Rattle.map_chunks.proofs.SearchLemmas.{length-keys_of}
use Rattle.map_chunks.specs.Inserting.{ArePairs, Parted}
use Rattle.map_chunks.specs.Search.{is_above, IsPlace}
use Rattle.map_chunks.specs.Shown.{own, child_keys, leaf_keys, Piece, Seen, Shape}
use Rattle.map_nodes.specs.Inside.Counts.{HasKept}
use Rattle.map_nodes.specs.Inside.Halves.{IsLower, lowered, with_half}
use Rattle.map_nodes.specs.Inside.Nodes.{Kid}
use Rattle.map_nodes.specs.Inside.Puts.{half_levels, IsHalved, IsLeafPut}
use Rattle.map_nodes.specs.Levels.{Levels, Member, levels_of, nothing, parting, seen_levels, topped, as_new, AreChanged}
use Rattle.map_nodes.specs.Levels.{ArePut, ArePutIn, HasOneMore, IsGrown, IsRenewed, PutLater, RenewedLater, IsCopied}
use Rattle.map_nodes.specs.Nodes.{Kids, child_levels, kids_levels, kids_marks, sunk}
use Rattle.map_nodes.specs.declared.nodes.OwnChild.{OwnChild}
use Rattle.map_nodes.specs.declared.nodes.OwnChild.TheVariants.{Own}
use Rattle.map_nodes.specs.declared.nodes.putting.Half.{Half}
use Rattle.map_nodes.proofs.LevelLemmas.{changed_as, changed_beside, changed_copy, changed_may, inner-levels}
use Rattle.map_nodes.proofs.LevelLemmas.{kids-levels-append, leaf-levels, levels-append, topped-is}
use Rattle.map_nodes.proofs.NodeLemmas.{Down}
use Rattle.map_nodes.proofs.PathLemmas.{half_kids, length-lowered, lowered_pairs, with_half-is}

-- LEVELS

pub put_as : (deep : ℕ) (a b c d : Levels) → ((i : ℕ) → c i ≡ a i) → ((i : ℕ) → d i ≡ b i) → ArePut deep a b
    → ArePut deep c d
put_as deep a b c d e f h i = changed_as (i < deep) IsGrown (a i) (b i) (c i) (d i) (e i) (f i) (h i)

-- a chunk alone, and what it became
own_grown : (deep : ℕ) (old : Shape) (made : List Shape) (new : List Member) → 0 < deep → new ≡ as_new made
    → IsGrown old made → AreChanged (0 < deep) IsGrown ((None, old) ∷ []) new
own_grown deep old made new l e g =
    inr (l, ([], (None, old), [], made, refl, e ∙ sym (append-nil (as_new made)), g))

-- a put into a copy of a chunk
pub put_copied : (deep : ℕ) (was now new : Levels) → 0 < deep → IsCopied was now → ArePut deep now new
    → ArePut deep was new
put_copied deep was now new = changed_copy IsGrown (λ keys. inl refl) deep was now new

-- KEYS

length-more : (keys more : List Bytes) → HasOneMore keys more → length more ≡ length keys + 1
length-more keys more h =
    let a = ap length h.3 in
    let b = ap length h.4 in
    let d = length-append h.0 h.2 in
    let e = length-append h.0 (h.1 ∷ h.2) in
    omega (arith, a, b, d, e)

-- a key put before the place is one more
pub one_more : (keys : List Bytes) (place : ℕ) (key : Bytes) → HasOneMore keys (insert keys place key)
one_more keys place key = (take place keys, key, drop place keys, sym (take-append-drop place keys), refl)

pub keys-pairs : {A : Type 0} (es : List (Bytes × A)) (keys : List Bytes) (xs : List A) → ArePairs es keys xs
    → keys ≡ keys_of es
keys-pairs es keys xs p = sym (keys_of-paired keys xs p.1) ∙ ap keys_of p.0

keys-take : {A : Type 0} (n : ℕ) (es : List (Bytes × A)) → keys_of (take n es) ≡ take n (keys_of es)
keys-take zero es = refl
keys-take (suc n) [] = refl
keys-take (suc n) (e ∷ es) = ap (λ w. e.0 ∷ w) (keys-take n es)

keys-drop : {A : Type 0} (n : ℕ) (es : List (Bytes × A)) → keys_of (drop n es) ≡ drop n (keys_of es)
keys-drop zero es = refl
keys-drop (suc n) [] = refl
keys-drop (suc n) (e ∷ es) = keys-drop n es

-- the keys of both halves
pub keys-halves : {A : Type 0} (es : List (Bytes × A)) (nk : List Bytes) (ne : List A) (k2 : List Bytes) (e2 : List A)
    → Parted es nk ne (Some (k2, e2))
    → (length (keys_of es) ≡ 17) × (nk ≡ take 8 (keys_of es)) × (k2 ≡ drop 8 (keys_of es))
keys-halves es nk ne k2 e2 h = (
  length-keys_of es ∙ h.2,
  keys-pairs (take 8 es) nk ne h.0 ∙ keys-take 8 es,
  keys-pairs (drop 8 es) k2 e2 h.1 ∙ keys-drop 8 es,
)

keys-inserted : {A : Type 0} (keys : List Bytes) (xs : List A) (i : ℕ) (key : Bytes) (x : A) → length xs ≡ length keys
    → i ≤ length keys → keys_of (insert (paired keys xs) i (key, x)) ≡ insert keys i key
keys-inserted keys xs i key x l w =
    ap keys_of (sym (paired-insert keys xs i key x l w))
    ∙ keys_of-paired (insert keys i key) (insert xs i x) (omega (
      arith,
      length-inserted keys i key w,
      length-inserted xs i x (omega (arith, l, w)),
      l,
    ))

-- LEAVES

-- a row put before the place, where all the rows stay together
pub leaf_more : {A : Type 0} (keys : List Bytes) (xs : List A) (i : ℕ) (key : Bytes) (x : A) (nk : List Bytes)
    (ne : List A) → length xs ≡ length keys → i ≤ length keys → Parted (insert (paired keys xs) i (key, x)) nk ne None
    → IsLeafPut keys nk None
leaf_more keys xs i key x nk ne l w h =
    let all = keys-inserted keys xs i key x l w in
    let n = length-inserted (paired keys xs) i (key, x) (omega (arith, length-paired keys xs l, w)) in
    let few : length keys ≤ 16 = omega (arith, n, h.1, length-paired keys xs l) in
    inr (
      insert keys i key,
      one_more keys i key,
      few,
      keys-pairs (insert (paired keys xs) i (key, x)) nk ne h.0 ∙ all,
    )

-- a row put before the place, where the rows are halved
pub leaf_halved : {A : Type 0} (keys : List Bytes) (xs : List A) (i : ℕ) (key : Bytes) (x : A) (nk : List Bytes)
    (ne : List A) (k2 : List Bytes) (e2 : List A) (half : Half) → length xs ≡ length keys → i ≤ length keys
    → Parted (insert (paired keys xs) i (key, x)) nk ne (Some (k2, e2))
    → half.node.value.marks ≡ own 0 (leaf_keys k2) ∷ [] → IsLeafPut keys nk (Some half)
leaf_halved keys xs i key x nk ne k2 e2 half l w h m =
    let all = keys-inserted keys xs i key x l w in
    let k = keys-halves (insert (paired keys xs) i (key, x)) nk ne k2 e2 h in
    let n = length-inserted keys i key w in
    let few : length keys ≤ 16 = omega (arith, n, ap length all, k.0) in
    inr (
      insert keys i key,
      one_more keys i key,
      few,
      (
        sym (ap length all) ∙ k.0,
        k.1 ∙ ap (take 8) all,
        m ∙ ap (λ w. own 0 (leaf_keys w) ∷ []) (k.2 ∙ ap (drop 8) all),
      ),
    )

not_none : (h : Half) → Some h ≡ None → ⊥
not_none h e = cc

-- where a chunk isn't split and has a key more, it had room
had_room : (old new : ℕ) → HasKept old new None → new ≡ old + 1 → old < 16
had_room old new (inl e) l = absurd (omega (arith, e, l))
had_room old new (inr k) l = k.1

-- the leaf that there was, and what it is then
leaf_grown : (q : Contents) (old new : List Bytes) (half : Option Half) → HasKept (length old) (length new) half
    → IsLeafPut old new half
    → AreChanged (0 < 1) IsGrown ((None, leaf_keys old) ∷ []) ((None, leaf_keys new) ∷ half_levels half q 0)
leaf_grown q old new None k (inl s) = own_grown 1 (leaf_keys old) (leaf_keys new ∷ []) _ (omega arith) refl
    (inl (ap (λ w. leaf_keys w ∷ []) s.0))
leaf_grown q old new (Some h) k (inl s) = absurd (not_none h s.1)
leaf_grown q old new None k (inr m) =
    let more = ap length m.3 ∙ length-more old m.0 m.1 in
    own_grown 1 (leaf_keys old) (leaf_keys new ∷ []) _ (omega arith) refl
    (inr (inl (m.0, had_room (length old) (length new) k more, m.1, ap (λ w. leaf_keys w ∷ []) m.3)))
leaf_grown q old new (Some h) k (inr m) =
    own_grown 1 (leaf_keys old) (leaf_keys (take 8 m.0) ∷ leaf_keys (drop 8 m.0) ∷ []) _ (omega arith)
    (ap (λ w. (None, leaf_keys w) ∷ half_levels (Some h) q 0) m.3.1
    ∙ ap (λ w. (None, leaf_keys (take 8 m.0)) ∷ w)
    (ap (λ w. levels_of q w 0) m.3.2 ∙ leaf-levels q (leaf_keys (drop 8 m.0)) 0))
    (inr (inr (m.0, k.0, m.1, refl)))

leaf_half_below : (q : Contents) (old new : List Bytes) (half : Option Half) (i : ℕ) → IsLeafPut old new half
    → half_levels half q (suc i) ≡ []
leaf_half_below q old new None i m = refl
leaf_half_below q old new (Some h) i (inl s) = absurd (not_none h s.1)
leaf_half_below q old new (Some h) i (inr m) = ap (λ w. levels_of q w (suc i)) m.3.2 ∙ leaf-levels q
    (leaf_keys (drop 8 m.0)) (suc i)

pub leaf_put_levels : (q : Contents) (old new : List Bytes) (half : Option Half)
    → HasKept (length old) (length new) half → IsLeafPut old new half
    → ArePut 1 (levels_of q (own 0 (leaf_keys old) ∷ []))
    (λ i. levels_of q (own 0 (leaf_keys new) ∷ []) i ++ half_levels half q i)
leaf_put_levels q old new half k m =
    put_as 1 (topped (None, leaf_keys old) nothing)
    (λ i. topped (None, leaf_keys new) nothing i ++ half_levels half q i)
    (levels_of q (own 0 (leaf_keys old) ∷ []))
    (λ i. levels_of q (own 0 (leaf_keys new) ∷ []) i ++ half_levels half q i) (leaf-levels q (leaf_keys old))
    (λ i. ap (λ w. w ++ half_levels half q i) (leaf-levels q (leaf_keys new) i)) by
  where
    by : ArePut 1 (topped (None, leaf_keys old) nothing)
        (λ i. topped (None, leaf_keys new) nothing i ++ half_levels half q i)
    by zero = leaf_grown q old new half k m
    by (suc i) = inl (leaf_half_below q old new half i m)

-- A CHUNK OVER CHUNKS

-- The first keys of a chunk's children once a row is put below one of them: the keys that part them are the same, or
-- one more.
abbrev pub AreFirsts : List Bytes → List Bytes → Type 0
AreFirsts old firsts = ((length firsts ≡ length old) × (drop 1 firsts ≡ drop 1 old))
    ⊎ ((length firsts ≡ length old + 1) × HasOneMore (drop 1 old) (drop 1 firsts))

-- a key below the first one belongs to the first child
lower_at : (keys : List Bytes) (key k : Bytes) (i : ℕ) → IsPlace key keys i → IsLower key (get_or keys i []) (Some k)
    → i ≡ 0
lower_at keys key k zero p low = refl
lower_at keys key k (suc i) p low = absurd (clash (is_above (get_or keys (suc i) []) key) (p.1 [] (omega arith)) low.1)
  where
    clash : (b : Bool) → b ≡ false → b ≡ true → ⊥
    clash true e f = cc
    clash false e f = cc

pub lowered-parting : (keys : List Bytes) (key : Bytes) (i : ℕ) (lower : Option Bytes) → IsPlace key keys i
    → IsLower key (get_or keys i []) lower → drop 1 (lowered i lower keys) ≡ drop 1 keys
lowered-parting keys key i None p low = refl
lowered-parting keys key i (Some k) p low = ap (λ n. drop 1 (set keys n k)) (lower_at keys key k i p low) ∙ first keys
  where
    first : (keys : List Bytes) → drop 1 (set keys 0 k) ≡ drop 1 keys
    first [] = refl
    first (x ∷ xs) = refl

-- a key put behind the first one
more_behind : (keys : List Bytes) (i : ℕ) (key : Bytes) → i < length keys
    → HasOneMore (drop 1 keys) (drop 1 (insert keys (suc i) key))
more_behind [] i key l = absurd (omega (arith, l))
more_behind (k ∷ keys) i key l = one_more keys i key

pub firsts_are : (keys : List Bytes) (new : List OwnChild) (i : ℕ) (lower : Option Bytes) (half : Option Half)
    (key : Bytes) → IsPlace key keys i → IsLower key (get_or keys i []) lower → length new ≡ length keys
    → AreFirsts keys (keys_of (with_half i half (paired (lowered i lower keys) new)))
firsts_are keys new i lower None key p low l =
    let ks = lowered i lower keys in
    let n = length-lowered i lower keys in
    let e : keys_of (paired ks new) ≡ ks = keys_of-paired ks new (omega (arith, l, n)) in
    inl (ap length e ∙ n, ap (drop 1) e ∙ lowered-parting keys key i lower p low)
firsts_are keys new i lower (Some h) key p low l =
    let ks = lowered i lower keys in
    let n = length-lowered i lower keys in
    let k = get_or h.firsts.items 0 [] in
    let s : i + 1 ≡ suc i = omega arith in
    let e : keys_of (insert (paired ks new) (i + 1) (k, Own h.node)) ≡ insert ks (i + 1) k =
    keys-inserted ks new (i + 1) k (Own h.node) (omega (arith, l, n)) (omega (arith, p.0, n)) in
    let m = length-inserted ks (i + 1) k (omega (arith, p.0, n)) in
    let more : HasOneMore (drop 1 ks) (drop 1 (insert ks (suc i) k)) = more_behind ks i k (omega (arith, p.0, n)) in
    inr (
      omega (arith, ap length e, m, n),
      subst (λ w. HasOneMore w (drop 1 (keys_of (insert (paired ks new) (i + 1) (k, Own h.node)))))
          (lowered-parting keys key i lower p low)
          (subst (λ w. HasOneMore (drop 1 ks) (drop 1 w)) (ap (λ w. insert ks w k) (sym s) ∙ sym e) more),
    )

-- the chunk that there was, and what it is then
inner_grown : (q : Contents) (deep : ℕ) (old firsts keys : List Bytes) (half : Option Half) (kids all : List OwnChild)
    → 0 < deep → AreFirsts old firsts → IsHalved deep keys kids half firsts all
    → HasKept (length old) (length keys) half
    → AreChanged (0 < deep) IsGrown ((None, parting old) ∷ []) ((None, parting keys) ∷ half_levels half q 0)
inner_grown q deep old firsts keys None kids all z (inl f) h k =
    own_grown deep (parting old) (parting keys ∷ []) _ z refl
    (inl (ap (λ w. child_keys w ∷ []) (ap (drop 1) h.0 ∙ f.1)))
inner_grown q deep old firsts keys (Some g) kids all z (inl f) h k = absurd (omega (arith, f.0, h.0, k.0))
inner_grown q deep old firsts keys None kids all z (inr f) h k =
    let room = had_room (length old) (length keys) k (ap length h.0 ∙ f.0) in
    own_grown deep (parting old) (parting keys ∷ []) _ z refl
    (inr (inl (
      drop 1 firsts,
      omega (arith, room, length-drop 1 old),
      f.1,
      ap (λ w. child_keys w ∷ []) (ap (drop 1) h.0),
    )))
inner_grown q deep old firsts keys (Some g) kids all z (inr f) h k =
    own_grown deep (parting old) (child_keys (take 7 (drop 1 firsts)) ∷ child_keys (drop 8 (drop 1 firsts)) ∷ []) _ z
    (ap (λ w. (None, parting w) ∷ half_levels (Some g) q 0) h.1
    ∙ ap (λ w. (None, child_keys w) ∷ half_levels (Some g) q 0) (front firsts)
    ∙ ap (λ w. (None, child_keys (take 7 (drop 1 firsts))) ∷ w)
    (ap (λ w. levels_of q w 0) h.2.2 ∙ topped-is q (parting (drop 8 firsts)) (kids_marks (deep - 1) h.2.0) 0
    ∙ ap (λ w. (None, child_keys w) ∷ []) (back firsts)))
    (inr (inr (drop 1 firsts, full, f.1, refl)))
  where
    front : (xs : List Bytes) → drop 1 (take 8 xs) ≡ take 7 (drop 1 xs)
    front [] = refl
    front (x ∷ xs) = refl

    drop_one : (n : ℕ) (xs : List Bytes) → drop 1 (drop n xs) ≡ drop (suc n) xs
    drop_one zero xs = refl
    drop_one (suc n) [] = refl
    drop_one (suc n) (x ∷ xs) = drop_one n xs

    back : (xs : List Bytes) → drop 1 (drop 8 xs) ≡ drop 8 (drop 1 xs)
    back [] = refl
    back (x ∷ xs) = drop_one 7 xs

    full : length (drop 1 old) ≡ 15
    full = omega (arith, k.0, length-drop 1 old)

half_below : (q : Contents) (deep : ℕ) (keys firsts : List Bytes) (half : Option Half) (kids all : List OwnChild)
    (i : ℕ) → IsHalved deep keys kids half firsts all
    → kids_levels (deep - 1) kids q i ++ half_levels half q (suc i) ≡ kids_levels (deep - 1) all q i
half_below q deep keys firsts None kids all i h = append-nil (kids_levels (deep - 1) kids q i) ∙ ap
    (λ w. kids_levels (deep - 1) w q i) h.1
half_below q deep keys firsts (Some g) kids all i h =
    ap (λ w. kids_levels (deep - 1) kids q i ++ levels_of q w (suc i)) h.2.2
    ∙ ap (λ w. kids_levels (deep - 1) kids q i ++ w)
    (inner-levels q (deep - 1) (parting (drop 8 firsts)) h.2.0 (suc i))
    ∙ sym (kids-levels-append q (deep - 1) kids h.2.0 i) ∙ ap (λ w. kids_levels (deep - 1) w q i) h.2.1

-- a chunk over chunks of which one was put in, once it is split where it has to be
pub put_over : (q : Contents) (deep : ℕ) (old firsts keys : List Bytes) (half : Option Half) (a : Levels)
    (kids all : List OwnChild) → 0 < deep → ArePut (deep - 1) a (kids_levels (deep - 1) all q) → AreFirsts old firsts
    → IsHalved deep keys kids half firsts all → HasKept (length old) (length keys) half
    → ArePut deep (topped (None, parting old) a)
    (λ i. topped (None, parting keys) (kids_levels (deep - 1) kids q) i ++ half_levels half q i)
put_over q deep old firsts keys half a kids all z p f h k zero =
    inner_grown q deep old firsts keys half kids all z f h k
put_over q deep old firsts keys half a kids all z p f h k (suc i) =
    changed_may (i < deep - 1) (suc i < deep) IsGrown (a i) _ (λ (m : i < deep - 1). omega (arith, m, z))
    (subst (AreChanged (i < deep - 1) IsGrown (a i)) (sym (half_below q deep keys firsts half kids all i h)) (p i))

-- CHILDREN

pub values-append : {A : Type 0} (xs ys : List (Bytes × A)) → values_of (xs ++ ys) ≡ values_of xs ++ values_of ys
values-append [] ys = refl
values-append (x ∷ xs) ys = ap (λ w. x.1 ∷ w) (values-append xs ys)

pub values-pairs : {A : Type 0} (es : List (Bytes × A)) (keys : List Bytes) (xs : List A) → ArePairs es keys xs
    → xs ≡ values_of es
values-pairs es keys xs p = sym (values_of-paired keys xs p.1) ∙ ap values_of p.0

pub values-halves : {A : Type 0} (es : List (Bytes × A)) (nk : List Bytes) (ne : List A) (k2 : List Bytes) (e2 : List A)
    → Parted es nk ne (Some (k2, e2)) → ne ++ e2 ≡ values_of es
values-halves es nk ne k2 e2 h =
    ap (λ w. w ++ e2) (values-pairs (take 8 es) nk ne h.0)
    ∙ ap (λ w. values_of (take 8 es) ++ w) (values-pairs (drop 8 es) k2 e2 h.1)
    ∙ sym (values-append (take 8 es) (drop 8 es)) ∙ ap values_of (take-append-drop 8 es)

-- the children of entries
abbrev pub entries_levels : ℕ → Kids → Contents → Levels
entries_levels b es q = kids_levels b (values_of es) q

entries-append : (q : Contents) (b : ℕ) (xs ys : Kids) (i : ℕ)
    → entries_levels b (xs ++ ys) q i ≡ entries_levels b xs q i ++ entries_levels b ys q i
entries-append q b xs ys i = ap (λ w. kids_levels b w q i) (values-append xs ys)
    ∙ kids-levels-append q b (values_of xs) (values_of ys) i

half_entries : (q : Contents) (b : ℕ) (half : Option Half) (i : ℕ)
    → entries_levels b (half_kids half) q i ≡ half_levels half q i
half_entries q b None i = refl
half_entries q b (Some h) i = append-nil (seen_levels h.node.value q i)

-- children of which one was put in
pub child_put : (p q : Contents) (depth : ℕ) (keys : List Bytes) (kids new : List OwnChild) (pieces : List Piece)
    (key : Bytes) (i : ℕ) (child : OwnChild) (lower : Option Bytes) (half : Option Half) → length kids ≡ length keys
    → (d : Down p depth keys kids pieces key i child) → (n : Kid) → new ≡ set kids i (Own n)
    → ArePut (depth - 1) (child_levels (depth - 1) child q)
    (λ level. seen_levels n.value q level ++ half_levels half q level)
    → ArePut (depth - 1) (kids_levels (depth - 1) kids q)
    (entries_levels (depth - 1) (with_half i half (paired (lowered i lower keys) new)) q)
child_put p q depth keys kids new pieces key i child lower half l d n e h level =
    let b = depth - 1 in
    let first = d.first in
    let es = ap (λ w. with_half i half (paired (lowered i lower keys) w)) e ∙ ap (with_half i half)
    (lowered_pairs keys kids i lower (Own n) child d.before first d.behind l d.whole d.at) in
    changed_as (level < b) IsGrown
    (entries_levels b d.before q level ++ (child_levels b child q level ++ entries_levels b d.behind q level))
    (entries_levels b d.before q level
    ++ ((seen_levels n.value q level ++ half_levels half q level) ++ entries_levels b d.behind q level))
    (kids_levels b kids q level)
    (entries_levels b (with_half i half (paired (lowered i lower keys) new)) q level)
    (ap (λ w. kids_levels b w q level) (sym (values_of-paired keys kids l) ∙ ap values_of d.whole)
    ∙ entries-append q b d.before ((first, child) ∷ d.behind) level)
    (ap (λ w. entries_levels b w q level) (es ∙ with_half-is i half d.before _ d.behind d.at)
    ∙ entries-append q b d.before _ level
    ∙ ap (λ w. entries_levels b d.before q level ++ w)
    (ap (λ w. seen_levels n.value q level ++ w) (entries-append q b (half_kids half) d.behind level)
    ∙ ap (λ w. seen_levels n.value q level ++ (w ++ entries_levels b d.behind q level)) (half_entries q b half level)
    ∙ sym (append_assoc (seen_levels n.value q level) (half_levels half q level) (entries_levels b d.behind q level))))
    (changed_beside (level < b) IsGrown (entries_levels b d.before q level) (child_levels b child q level)
    (seen_levels n.value q level ++ half_levels half q level) (entries_levels b d.behind q level) (h level))

-- one answer from two things that are known of it
pub if_ok_both : {A E : Type 0} {P Q T : A → Type 0} (r : Result A E) → IfOk r P → IfOk r Q
    → ((x : A) → P x → Q x → T x) → IfOk r T
if_ok_both (Ok x) p q f = f x p q
if_ok_both (Err e) p q f = tt

-- ROOTS

-- what a put makes of a map: a chunk and its upper half
abbrev pub PutBoth : Contents → ℕ → (Contents → Levels) → Seen → Option Half → Type 0
PutBoth contents deep old new half = (later : Contents) → IsPrefix contents later
    → ArePut deep (old later) (λ level. seen_levels new later level ++ half_levels half later level)

-- a root that isn't split
pub put_level : (q : Contents) (was : ℕ) (old : Contents → Levels) (new : Seen) (half : Option Half) → half ≡ None
    → new.depth ≡ was → PutBoth q was old new half → PutLater was new.depth q old (seen_levels new)
put_level q was old new half e d h later pre = (
  omega (arith, d),
  omega (arith, d),
  λ i. changed_as (i < was) IsGrown (old later i) (seen_levels new later i ++ half_levels half later i)
      (old later i) (seen_levels new later (i + (new.depth - was))) refl
      (ap (seen_levels new later) (let z : i + (new.depth - was) ≡ i = omega (arith, d) in z)
      ∙ sym (append-nil (seen_levels new later i)) ∙ ap (λ w. seen_levels new later i ++ half_levels w later i) (sym e))
      (h later pre i),
  λ l. absurd (omega (arith, l, d)),
)

-- a chunk that has its keys still is what a put may make of it, too
renewed_grown : (M : Type 0) (old new : List Member) → AreChanged M IsRenewed old new → AreChanged M IsGrown old new
renewed_grown M old new (inl e) = inl e
renewed_grown M old new (inr (may, m)) = inr (may, (m.0, m.1, m.2, m.3, m.4, m.5, inl m.6))

-- a value replaced
pub put_same : (q : Contents) (was deep : ℕ) (old new : Contents → Levels) → deep ≡ was
    → RenewedLater q was old new → PutLater was deep q old new
put_same q was deep old new d h later pre = (
  omega (arith, d),
  omega (arith, d),
  λ i. subst (λ n. AreChanged (i < was) IsGrown (old later i) (new later n))
      (let z : i ≡ i + (deep - was) = omega (arith, d) in z)
      (renewed_grown (i < was) (old later i) (new later i) (h later pre i)),
  λ l. absurd (omega (arith, l, d)),
)

-- a root of two above the halves of one that is split
pub put_risen : (q : Contents) (was : ℕ) (old : Contents → Levels) (lower new : Seen) (half : Half) → lower.depth ≡ was
    → new.depth ≡ lower.depth + 1
    → ((key : Bytes) × (new.marks ≡ own 0 (child_keys (key ∷ [])) ∷ sunk (lower.marks ++ half.node.value.marks)))
    → PutBoth q was old lower (Some half) → PutLater was new.depth q old (seen_levels new)
put_risen q was old lower new half d n m h later pre =
    let shape = child_keys (m.0 ∷ []) in (
      omega (arith, d, n),
      omega (arith, d, n),
      λ i. changed_as (i < was) IsGrown (old later i) (seen_levels lower later i ++ half_levels (Some half) later i)
          (old later i) (seen_levels new later (i + (new.depth - was))) refl
          (ap (seen_levels new later) (let z : i + (new.depth - was) ≡ suc i = omega (arith, d, n) in z)
          ∙ ap (λ w. levels_of later w (suc i)) m.1
          ∙ topped-is later shape (lower.marks ++ half.node.value.marks) (suc i)
          ∙ levels-append later lower.marks half.node.value.marks i) (h later pre i),
      λ l. (
        m.0,
        ap (λ w. levels_of later w 0) m.1 ∙ topped-is later shape (lower.marks ++ half.node.value.marks) 0,
      ),
    )

-- what was before, told by other words
pub put_in_as : (was deep : ℕ) (a b c : Levels) → ((i : ℕ) → c i ≡ a i) → ArePutIn was deep a b → ArePutIn was deep c b
put_in_as was deep a b c e h = (
  h.0,
  h.1,
  λ i. changed_as (i < was) IsGrown (a i) (b (i + (deep - was))) (c i) (b (i + (deep - was))) (e i) refl (h.2 i),
  h.3,
)
