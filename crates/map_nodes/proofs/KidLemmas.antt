-- A new child in an inner chunk.
use Rattle.std.proofs.Common.{◌≡◌, ◌<◌, ◌≤◌, ◌+◌, ◌-◌, ℕ, zero, suc, Bool, true, false, T, List, [], ◌∷◌, ◌++◌, Some}
use Rattle.std.proofs.Common.{None, length, take, drop, get_or, insert, replicate, min, append-nil, append_assoc}
use Rattle.std.proofs.Common.{take-append-drop, length-take, length-drop, refl, sym, ap, ◌∙◌, subst, arith}
use Rattle.std.proofs.lemmas.List.Edits.{get_or-insert_at}
use Rattle.std.proofs.lemmas.Bool.Decides.{nat_tests}
use Rattle.std.specs.Prelude.{◌==◌}
use Rattle.group_history.specs.Map.{Bytes}
use Rattle.group_history.specs.Rows.{paired, AreKeys, rises, is_below_all, keys_of}
use Rattle.group_history.proofs.Pairs.{keys_of-paired}
use Rattle.map_nodes.specs.Inside.Halves.{IsHalf, with_half, Finished}
use Rattle.map_chunks.specs.Inserting.{ArePairs, Parted}
use Rattle.map_nodes.specs.Nodes.{Kids, child_pieces, kids_pieces, HeadIs, IsChild, AllKids}
use Rattle.map_chunks.specs.Shown.{Piece}
use Rattle.map_nodes.specs.declared.nodes.OwnChild.{OwnChild}
use Rattle.map_nodes.specs.declared.nodes.OwnChild.TheVariants.{Placed, Own}
use Rattle.map_nodes.specs.declared.nodes.putting.Half.{Half}
use Rattle.map_chunks.proofs.ListLemmas.{paired-insert, length-inserted, length-paired}
use Rattle.map_chunks.proofs.RowLemmas.{both, first, second}
use Rattle.map_chunks.proofs.SearchLemmas.{length-keys_of}

kids_pieces-append : (below : ℕ) (xs ys : Kids)
    → kids_pieces below (xs ++ ys) ≡ kids_pieces below xs ++ kids_pieces below ys
kids_pieces-append below [] ys = refl
kids_pieces-append below (x ∷ xs) ys = ap (λ w. child_pieces below x.0 x.1 ++ w) (kids_pieces-append below xs ys) ∙ sym
    (append_assoc (child_pieces below x.0 x.1) (kids_pieces below xs) (kids_pieces below ys))

AllKids-front : (below : ℕ) (xs ys : Kids) → AllKids below (xs ++ ys) → AllKids below xs
AllKids-front below [] ys h = tt
AllKids-front below (x ∷ xs) ys h = (h.0, AllKids-front below xs ys h.1)

AllKids-back : (below : ℕ) (xs ys : Kids) → AllKids below (xs ++ ys) → AllKids below ys
AllKids-back below [] ys h = h
AllKids-back below (x ∷ xs) ys h = AllKids-back below xs ys h.1

below-front : (k : Bytes) (xs ys : Kids) → T (is_below_all k (keys_of (xs ++ ys))) → T (is_below_all k (keys_of xs))
below-front k [] ys h = tt
below-front k (x ∷ xs) ys h = both _ _ (first _ _ h) (below-front k xs ys (second _ _ h))

rises-front : (xs ys : Kids) → T (rises (keys_of (xs ++ ys))) → T (rises (keys_of xs))
rises-front [] ys h = tt
rises-front (x ∷ xs) ys h = both _ _ (below-front x.0 xs ys (first _ _ h)) (rises-front xs ys (second _ _ h))

rises-back : (xs ys : Kids) → T (rises (keys_of (xs ++ ys))) → T (rises (keys_of ys))
rises-back [] ys h = h
rises-back (x ∷ xs) ys h = rises-back xs ys (second _ _ h)

HeadIs-more : (k : Bytes) (ps qs : List Piece) → HeadIs k ps → HeadIs k (ps ++ qs)
HeadIs-more k [] qs h = absurd h
HeadIs-more k (p ∷ ps) qs h = h

pub head_kids : (below : ℕ) (n : ℕ) (es : Kids) → n < length es → AllKids below es
    → HeadIs (get_or (keys_of es) n []) (kids_pieces below (drop n es))
head_kids below n [] l h = absurd (omega arith)
head_kids below zero (e ∷ es) l h = by e.1 h.0
  where
    by : (c : OwnChild) → IsChild below e.0 c → HeadIs e.0 (child_pieces below e.0 c ++ kids_pieces below es)
    by (Placed at) i = refl
    by (Own m) i = HeadIs-more e.0 m.value.pieces (kids_pieces below es) i.1
head_kids below (suc n) (e ∷ es) l h = head_kids below n es (omega arith) h.1

-- what a repeated text is without the last of its copies
pub repeated : (n : ℕ) (f x : Bytes) (xs : List Bytes) → replicate (n + 1) f ≡ xs ++ x ∷ []
    → (x ≡ f) × (xs ≡ replicate n f)
repeated n f x xs e = go n xs (subst (λ m. replicate m f ≡ xs ++ x ∷ []) (let s : n + 1 ≡ suc n = omega arith in s) e)
  where
    head : Bytes → List Bytes → Bytes
    head d [] = d
    head d (y ∷ ys) = y

    tail : List Bytes → List Bytes
    tail [] = []
    tail (y ∷ ys) = ys

    length-replicate : (m : ℕ) → length (replicate m f) ≡ m
    length-replicate zero = refl
    length-replicate (suc m) = ap suc (length-replicate m)

    length-last : (ys : List Bytes) → length (ys ++ x ∷ []) ≡ suc (length ys)
    length-last [] = refl
    length-last (y ∷ ys) = ap suc (length-last ys)

    go : (n : ℕ) (xs : List Bytes) → replicate (suc n) f ≡ xs ++ x ∷ [] → (x ≡ f) × (xs ≡ replicate n f)
    go zero [] e = (sym (ap (head f) e), refl)
    go zero (y ∷ ys) e = absurd (omega (arith, ap length e, length-last ys))
    go (suc n) [] e = absurd (omega (arith, ap length e, length-replicate n))
    go (suc n) (y ∷ ys) e = let r = go n ys (ap tail e) in
        (r.0, ap (λ w. w ∷ ys) (sym (ap (head f) e)) ∙ ap (λ w. f ∷ w) r.1)

-- keys and children that are such children
kids_good : (below : ℕ) (es : Kids) (nk : List Bytes) (ne : List OwnChild) → ArePairs es nk ne → AllKids below es
    → T (rises (keys_of es)) → length es ≤ 16 → 0 < length es
    → (length ne ≡ length nk) × AreKeys nk × (0 < length nk) × AllKids below (paired nk ne)
kids_good below es nk ne p a o l z =
    let k = sym (keys_of-paired nk ne p.1) ∙ ap keys_of p.0 in (
      p.1,
      (omega (arith, ap length k, length-keys_of es), subst (λ w. T (rises w)) (sym k) o),
      omega (arith, ap length k, length-keys_of es),
      subst (AllKids below) (sym p.0) a,
    )

pub finished_alone : (depth : ℕ) (es : Kids) (nk : List Bytes) (ne : List OwnChild) → ArePairs es nk ne
    → AllKids (depth - 1) es → T (rises (keys_of es)) → length es ≤ 16 → 0 < length es
    → Finished depth es nk ne None
finished_alone depth es nk ne p a o l z =
    let g = kids_good (depth - 1) es nk ne p a o l z in
    (append-nil (kids_pieces (depth - 1) (paired nk ne)) ∙ ap (kids_pieces (depth - 1)) p.0, g.0, g.1, g.2, g.3)

pub record KidHalves (below : ℕ) (es : Kids) (nk : List Bytes) (ne : List OwnChild) (k2 : List Bytes)
    (e2 : List OwnChild) : Type 0 where
  pub pieces : kids_pieces below (paired nk ne) ++ kids_pieces below (paired k2 e2) ≡ kids_pieces below es
  pub left : (length ne ≡ length nk) × AreKeys nk × (0 < length nk) × AllKids below (paired nk ne)
  pub right : (length e2 ≡ length k2) × AreKeys k2 × (0 < length k2) × AllKids below (paired k2 e2)
  pub head : HeadIs (get_or (keys_of es) 8 []) (kids_pieces below (paired k2 e2))

pub kid_halves : (below : ℕ) (es : Kids) (nk : List Bytes) (ne : List OwnChild) (k2 : List Bytes) (e2 : List OwnChild)
    → Parted es nk ne (Some (k2, e2)) → AllKids below es → T (rises (keys_of es))
    → KidHalves below es nk ne k2 e2
kid_halves below es nk ne k2 e2 h a o =
    let whole = take-append-drop 8 es in
    let lt : length (take 8 es) ≡ 8 = length-take 8 es ∙ (let e : min 8 (length es) ≡ 8 = omega (arith, h.2) in e) in
    let ld : length (drop 8 es) ≡ 9 = length-drop 8 es ∙ (let e : length es - 8 ≡ 9 = omega (arith, h.2) in e) in
    let a2 = subst (AllKids below) (sym whole) a in
    let o2 = subst (λ w. T (rises (keys_of w))) (sym whole) o in
    record {
      pieces = ap (λ w. kids_pieces below w ++ kids_pieces below (paired k2 e2)) h.0.0 ∙ ap
          (λ w. kids_pieces below (take 8 es) ++ kids_pieces below w) h.1.0
          ∙ sym (kids_pieces-append below (take 8 es) (drop 8 es)) ∙ ap (kids_pieces below) whole;
      left = kids_good below (take 8 es) nk ne h.0 (AllKids-front below (take 8 es) (drop 8 es) a2)
          (rises-front (take 8 es) (drop 8 es) o2) (omega (arith, lt)) (omega (arith, lt));
      right = kids_good below (drop 8 es) k2 e2 h.1 (AllKids-back below (take 8 es) (drop 8 es) a2)
          (rises-back (take 8 es) (drop 8 es) o2) (omega (arith, ld)) (omega (arith, ld));
      head = subst (λ w. HeadIs (get_or (keys_of es) 8 []) (kids_pieces below w)) (sym h.1.0)
          (head_kids below 8 es (omega (arith, h.2)) a);
    }

-- the half that is put, and its first key
pub record Putting (keys : List Bytes) (kids : List OwnChild) (place copies : ℕ) (half : Half) (key : Bytes)
    (given : List Bytes) : Type 0 where
  pub es_is : insert (paired keys kids) (place + 1) (key, Own half.node)
      ≡ with_half place (Some half) (paired keys kids)
  pub given_are : given ≡ replicate copies key
  pub filled : 0 < length (with_half place (Some half) (paired keys kids))
  pub ninth : get_or (keys_of (with_half place (Some half) (paired keys kids))) 8 []
      ≡ get_or (insert keys (place + 1) key) 8 []
  pub at_eight : place ≡ 7 → get_or (insert keys (place + 1) key) 8 [] ≡ key
  pub whole : length (with_half place (Some half) (paired keys kids)) ≡ length keys + 1

pub putting : (keys : List Bytes) (kids : List OwnChild) (place copies below : ℕ) (half : Half) (key : Bytes)
    (given : List Bytes) → length kids ≡ length keys → place < length keys
    → IsHalf (copies + 1) below (Some half) → half.firsts.items ≡ given ++ key ∷ []
    → Putting keys kids place copies half key given
putting keys kids place copies below half key given l w h g =
    let r = repeated copies h.1.0 key given (sym h.1.2 ∙ g) in
    let s : copies + 1 ≡ suc copies = omega arith in
    let f : get_or half.firsts.items 0 [] ≡ h.1.0 = ap (λ z. get_or z 0 []) (h.1.2 ∙ ap (λ n. replicate n h.1.0) s) in
    let e = ap (λ k. insert (paired keys kids) (place + 1) (k, Own half.node)) (r.0 ∙ sym f) in
    let n = length-inserted (paired keys kids) (place + 1) (key, Own half.node)
    (omega (arith, length-paired keys kids l)) in
    let k : keys_of (with_half place (Some half) (paired keys kids)) ≡ insert keys (place + 1) key =
    ap keys_of (sym e ∙ sym (paired-insert keys kids (place + 1) key (Own half.node) l (omega arith)))
    ∙ keys_of-paired (insert keys (place + 1) key) (insert kids (place + 1) (Own half.node))
    (omega (
      arith,
      length-inserted keys (place + 1) key (omega arith),
      length-inserted kids (place + 1) (Own half.node) (omega (arith, l)),
      l,
    )) in
    record {
      es_is = e;
      given_are = r.1 ∙ ap (replicate copies) (sym r.0);
      filled = omega (arith, n, ap length e);
      ninth = ap (λ z. get_or z 8 []) k;
      at_eight = λ q. let t : place + 1 ≡ 8 = omega (arith, q) in
          subst (λ i. get_or (insert keys (place + 1) key) i [] ≡ key) t
          (get_or-insert_at keys (place + 1) key [] (omega arith));
      whole = omega (arith, n, ap length e, length-paired keys kids l);
    }

-- the copies that are handed on are those of the ninth key
pub chosen_are : (place copies : ℕ) (key ninth there : Bytes) (given firsts result : List Bytes) → ninth ≡ there
    → given ≡ replicate copies key → (place ≡ 7 → there ≡ key)
    → (place ≡ 7 → result ≡ given) → ((place ≡ 7 → ⊥) → result ≡ firsts)
    → ((place + 1 ≡ 8 → ⊥) → firsts ≡ replicate copies there) → result ≡ replicate copies ninth
chosen_are place copies key ninth there given firsts result n g k a b f = by (place == 7) refl
  where
    by : (u : Bool) → (place == 7) ≡ u → result ≡ replicate copies ninth
    by true q = let e : place ≡ 7 = grind (arith, nat_tests) in a e ∙ g ∙ ap (replicate copies) (sym (k e) ∙ sym n)
    by false q = let e : place ≡ 7 → ⊥ = λ z. no z q in
        b e ∙ f (λ z. e (omega (arith, z))) ∙ ap (replicate copies) (sym n)
      where
        no : place ≡ 7 → (place == 7) ≡ false → ⊥
        no z q = grind (arith, nat_tests)
