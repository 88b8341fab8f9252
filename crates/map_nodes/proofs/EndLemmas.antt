-- What a draft's chunks with one child each end in.
use Rattle.std.proofs.Common.{◌≡◌, ◌<◌, ◌≤◌, ◌-◌, ℕ, zero, suc, List, [], ◌∷◌, ◌++◌, Option, Some, None, length, get_or}
use Rattle.std.proofs.Common.{remove, append-nil, refl, sym, ap, ◌∙◌, subst, arith, inl, inr}
use Rattle.std.specs.Prelude.{IsSome}
use Rattle.std.specs.List.{Contains}
use Rattle.std.proofs.lemmas.List.Elements.{Contains-append_cases, Contains-append_left, Contains-append_right}
use Rattle.group_history.specs.declared.refs.Ref.{Ref}
use Rattle.group_history.specs.Map.{Bytes}
use Rattle.group_history.specs.Rows.{Rows, paired}
use Rattle.group_history.specs.Refs.{stamp_of}
use Rattle.group_history.specs.Spelling.{Contents, joined_rows}
use Rattle.group_history.proofs.Lists.{one_here, only_one}
use Rattle.map_nodes.specs.Inside.Ends.{part_ref, IsEndTaken, end_of_pieces, end_of, IsPartBelow, IsEndBelow}
use Rattle.map_nodes.specs.Inside.Ends.{IsKidBelow, EndsAtChunk, IfEndsAt, NarrowsLater}
use Rattle.map_chunks.specs.Ends.{IsEndUnder}
use Rattle.map_nodes.specs.Inside.Halves.{HasDepth}
use Rattle.map_chunks.specs.Places.{AreKept, part_places, places_of}
use Rattle.map_nodes.specs.Inside.Freezing.{child_places, kids_places}
use Rattle.map_nodes.specs.Inside.Removing.{one_shown, HeirNarrows, IsFirstShown}
use Rattle.map_nodes.specs.declared.nodes.removing.NewRoot.TheVariants as heir
use Rattle.map_nodes.proofs.LevelLemmas.{topped-same}
use Rattle.map_nodes.proofs.NarrowLemmas.{narrows_none, narrows_over, narrows_placed, narrows_since, narrows_trans}
use Rattle.map_nodes.specs.Levels.{Levels, parting, placed_levels, seen_levels, topped}
use Rattle.map_nodes.specs.Nodes.{child_levels, kids_levels, child_pieces, kids_pieces, row_pieces, HeadIs, IsChild}
use Rattle.map_nodes.specs.Nodes.{AllKids}
use Rattle.map_nodes.specs.Inside.Nodes.{Kid, child_rows}
use Rattle.map_chunks.specs.Shown.{Part, value, chunk, Piece, Seen, part_rows, shown}
use Rattle.map_chunks.specs.Wide.{IsWideChunk}
use Rattle.map_nodes.specs.declared.nodes.OwnChild.{OwnChild}
use Rattle.map_nodes.specs.declared.nodes.OwnChild.TheVariants.{Placed, Own}
use mathlib.Core.List.{IsPrefix}
use Rattle.map_nodes.proofs.ChangeLemmas.{shown-kept}
use Rattle.map_chunks.proofs.Shelves.{some_of}
use Rattle.map_chunks.proofs.EndLemmas.{depth-at}
use Rattle.map_chunks.proofs.JoinLemmas.{split_of, some_is}
use Rattle.map_chunks.proofs.OpenLemmas.{shows_of}
use Rattle.map_nodes.proofs.NodeLemmas.{kid_rows, shown-kids}

-- OWN CHUNKS

-- a leaf's rows have no placed chunk
pub end-rows : (rows : Rows) → None ≡ end_of_pieces (row_pieces rows)
end-rows [] = refl
end-rows (r ∷ []) = refl
end-rows (r ∷ s ∷ rows) = refl

-- a child has a piece
piece_of : (below : ℕ) (k : Bytes) (c : OwnChild) → IsChild below k c → 0 < length (child_pieces below k c)
piece_of below k (Placed at) h = omega arith
piece_of below k (Own n) h = some n.value.pieces h.1
  where
    some : (ps : List Piece) → HeadIs k ps → 0 < length ps
    some [] h = absurd h
    some (p ∷ ps) h = omega arith

two_pieces : (ps : List Piece) → 1 < length ps → None ≡ end_of_pieces ps
two_pieces [] l = absurd (omega arith)
two_pieces (p ∷ []) l = absurd (omega arith)
two_pieces (p ∷ q ∷ ps) l = refl

both-pieces : (ps qs rs : List Piece) → 0 < length ps → 0 < length qs → 1 < length (ps ++ (qs ++ rs))
both-pieces [] qs rs a b = absurd (omega arith)
both-pieces (p ∷ []) [] rs a b = absurd (omega arith)
both-pieces (p ∷ []) (q ∷ qs) rs a b = omega arith
both-pieces (p ∷ q ∷ ps) qs rs a b = omega arith

-- two children or more have two pieces or more
many-pieces : (below : ℕ) (keys : List Bytes) (kids : List OwnChild) → length kids ≡ length keys → 0 < length keys
    → (length kids ≡ 1 → ⊥) → AllKids below (paired keys kids)
    → 1 < length (kids_pieces below (paired keys kids))
many-pieces below [] kids l z o h = absurd (omega arith)
many-pieces below (k ∷ ks) [] l z o h = absurd (omega arith)
many-pieces below (k ∷ []) (x ∷ []) l z o h = absurd (o refl)
many-pieces below (k ∷ []) (x ∷ y ∷ xs) l z o h = absurd (omega arith)
many-pieces below (k ∷ j ∷ ks) (x ∷ []) l z o h = absurd (omega arith)
many-pieces below (k ∷ j ∷ ks) (x ∷ y ∷ xs) l z o h =
    both-pieces (child_pieces below k x) (child_pieces below j y) (kids_pieces below (paired ks xs))
    (piece_of below k x h.0) (piece_of below j y h.1.0)

-- they have no end
pub end-many : (below : ℕ) (keys : List Bytes) (kids : List OwnChild) → length kids ≡ length keys → 0 < length keys
    → (length kids ≡ 1 → ⊥) → AllKids below (paired keys kids)
    → None ≡ end_of_pieces (kids_pieces below (paired keys kids))
end-many below keys kids l z o h = two_pieces (kids_pieces below (paired keys kids))
    (many-pieces below keys kids l z o h)

-- the end of one child
pub end-one : (below : ℕ) (keys : List Bytes) (kids : List OwnChild) (kid : OwnChild) → length kids ≡ length keys
    → length kids ≡ 1 → kid ≡ get_or kids 0 kid
    → end_of kid ≡ end_of_pieces (kids_pieces below (paired keys kids))
end-one below [] kids kid l o g = absurd (omega arith)
end-one below (k ∷ ks) [] kid l o g = absurd (omega arith)
end-one below (k ∷ ks) (x ∷ y ∷ xs) kid l o g = absurd (omega arith)
end-one below (k ∷ j ∷ ks) (x ∷ []) kid l o g = absurd (omega arith)
end-one below (k ∷ []) (x ∷ []) kid l o g = ap end_of g ∙ by x
  where
    by : (c : OwnChild) → end_of c ≡ end_of_pieces (child_pieces below k c ++ [])
    by (Placed at) = refl
    by (Own n) = ap end_of_pieces (sym (append-nil n.value.pieces))

-- the one child of a chunk has its pieces
one-pieces : (below : ℕ) (keys : List Bytes) (kids : List OwnChild) (n : Kid) (kid : OwnChild)
    → length kids ≡ length keys
    → length kids ≡ 1 → kid ≡ get_or kids 0 kid → kid ≡ Own n
    → n.value.pieces ≡ kids_pieces below (paired keys kids)
one-pieces below [] kids n kid l o g e = absurd (omega arith)
one-pieces below (k ∷ ks) [] n kid l o g e = absurd (omega arith)
one-pieces below (k ∷ ks) (x ∷ y ∷ xs) n kid l o g e = absurd (omega arith)
one-pieces below (k ∷ j ∷ ks) (x ∷ []) n kid l o g e = absurd (omega arith)
one-pieces below (k ∷ []) (x ∷ []) n kid l o g e =
    sym (append-nil n.value.pieces) ∙ ap (λ c. child_pieces below k c ++ []) (sym e ∙ g)

-- what was taken from the one child of a chunk has the chunk's pieces
pub taken-pieces : (below : ℕ) (keys : List Bytes) (kids : List OwnChild) (kid : OwnChild) (n : Seen)
    → length kids ≡ length keys → length kids ≡ 1 → kid ≡ get_or kids 0 kid → IsEndTaken kid n
    → n.pieces ≡ kids_pieces below (paired keys kids)
taken-pieces below keys kids kid n l o g t = by kid refl t
  where
    by : (c : OwnChild) → kid ≡ c → IsEndTaken c n → n.pieces ≡ kids_pieces below (paired keys kids)
    by (Placed at) e t = absurd t
    by (Own m) e t = t.0 ∙ one-pieces below keys kids m kid l o g e

pub other_left : {A : Type 0} (kids : List A) (i : ℕ) (kid : A) → i < length kids → length kids ≤ 2
    → (length kids ≡ 1 → ⊥) → kid ≡ get_or kids (1 - i) kid → remove kids i ≡ kid ∷ []
other_left [] i kid w f o g = absurd (omega arith)
other_left (x ∷ []) i kid w f o g = absurd (o refl)
other_left (x ∷ y ∷ []) zero kid w f o g = ap (λ z. z ∷ []) (sym g)
other_left (x ∷ y ∷ []) (suc zero) kid w f o g = ap (λ z. z ∷ []) (sym g)
other_left (x ∷ y ∷ []) (suc (suc i)) kid w f o g = absurd (omega arith)
other_left (x ∷ y ∷ z ∷ kids) i kid w f o g = absurd (omega arith)

pub none_left : {A : Type 0} (kids : List A) (i : ℕ) → i < length kids → length kids ≡ 1 → remove kids i ≡ []
none_left [] i w o = absurd (omega (arith, w))
none_left (x ∷ []) zero w o = refl
none_left (x ∷ []) (suc i) w o = absurd (omega (arith, w))
none_left (x ∷ y ∷ kids) i w o = absurd (omega (arith, o))

-- what was taken from the last child shows what the child did
pub heir_taken : (p q : Contents) (left : List OwnChild) (kid : OwnChild) (n : Seen) → IsPrefix p q → left ≡ kid ∷ []
    → IsSome (one_shown p left) → IsEndTaken kid n
    → (shown q n.pieces ≡ one_shown p left) × IsWideChunk n
heir_taken p q left kid n pre e s t = by kid e t
  where
    by : (c : OwnChild) → left ≡ c ∷ [] → IsEndTaken c n
        → (shown q n.pieces ≡ one_shown p left) × IsWideChunk n
    by (Placed at) e t = absurd t
    by (Own m) e t =
        let r = some_of (one_shown p left) s in
        let was : shown p m.value.pieces ≡ Some r.0 = ap (one_shown p) (sym e) ∙ r.1 in (
          ap (shown q) t.0 ∙ shown-kept p q m.value.pieces r.0 pre was ∙ sym r.1,
          t.1,
        )

pub kept-start : (may : Ref → Type 0) (old more new : List Ref) → ((at : Ref) → Contains old at → Contains more at)
    → AreKept may old new → AreKept may more new
kept-start may old more new w h at i = elim (h at i) [ inl p ↦ inl (w at p) | inr q ↦ inr q ]

pieces-end : (ps : List Piece) (at : Ref) → end_of_pieces ps ≡ Some at → Contains (places_of ps) at
pieces-end [] at h = absurd (cc h)
pieces-end (q ∷ []) at h = by q.1 h
  where
    by : (x : Part) → part_ref x ≡ Some at → Contains (part_places x ++ []) at
    by (value v) h = absurd (cc h)
    by (chunk d r) h = let s : r ≡ at = cc h in subst (Contains (r ∷ [])) s (one_here r)
pieces-end (q ∷ r ∷ ps) at h = absurd (cc h)

-- the placed chunk that a child ends in stands among its places
pub kid-end : (kid : OwnChild) (end : Ref) → end_of kid ≡ Some end → (at : Ref) → Contains (end ∷ []) at
    → Contains (child_places kid) at
kid-end (Placed r) end h at i = let s : r ≡ end = cc h in subst (λ w. Contains (w ∷ []) at) (sym s) i
kid-end (Own n) end h at i = subst (Contains (places_of n.value.pieces)) (only_one end at i)
    (pieces-end n.value.pieces end h)

pub taken-places : (kid : OwnChild) (n : Seen) → IsEndTaken kid n → (at : Ref) → Contains (places_of n.pieces) at
    → Contains (child_places kid) at
taken-places (Placed r) n t at h = absurd t
taken-places (Own m) n t at h = subst (λ ps. Contains (places_of ps) at) t.0 h

pub kids-removed : (kids : List OwnChild) (i : ℕ) (at : Ref) → Contains (kids_places (remove kids i)) at
    → Contains (kids_places kids) at
kids-removed [] zero at h = h
kids-removed [] (suc i) at h = h
kids-removed (k ∷ kids) zero at h = Contains-append_right (child_places k) (kids_places kids) at h
kids-removed (k ∷ kids) (suc i) at h = elim
    (Contains-append_cases (child_places k) (kids_places (remove kids i)) at h) [
      | inl p ↦ Contains-append_left (child_places k) (kids_places kids) at p
      | inr q ↦ Contains-append_right (child_places k) (kids_places kids) at (kids-removed kids i at q)
    ]

-- DEPTHS

pub rows-below : (depth : ℕ) (levels : Contents → Levels) (rows : Rows) → IsEndBelow depth levels (row_pieces rows)
rows-below depth levels [] = tt
rows-below depth levels (r ∷ []) = tt
rows-below depth levels (r ∷ s ∷ rows) = tt

pub many-below : (depth below : ℕ) (levels : Contents → Levels) (keys : List Bytes) (kids : List OwnChild)
    → length kids ≡ length keys → 0 < length keys
    → (length kids ≡ 1 → ⊥) → AllKids below (paired keys kids)
    → IsEndBelow depth levels (kids_pieces below (paired keys kids))
many-below depth below levels keys kids l z o h = by (kids_pieces below (paired keys kids))
    (many-pieces below keys kids l z o h)
  where
    by : (ps : List Piece) → 1 < length ps → IsEndBelow depth levels ps
    by [] l = absurd (omega arith)
    by (p ∷ []) l = absurd (omega arith)
    by (p ∷ q ∷ ps) l = tt

-- what stands behind chunks with one child each below the one child stands so below the chunk
pub one-below : (depth : ℕ) (levels : Contents → Levels) (keys : List Bytes) (kids : List OwnChild) (kid : OwnChild)
    → length kids ≡ length keys → length kids ≡ 1 → kid ≡ get_or kids 0 kid → 0 < depth
    → ((p : Contents) (i : ℕ) → levels p i ≡ topped (None, parting keys) (kids_levels (depth - 1) kids p) i)
    → AllKids (depth - 1) (paired keys kids) → IsKidBelow kid
    → IsEndBelow depth levels (kids_pieces (depth - 1) (paired keys kids))
one-below depth levels [] kids kid l o g z v h b = absurd (omega arith)
one-below depth levels (k ∷ ks) [] kid l o g z v h b = absurd (omega arith)
one-below depth levels (k ∷ ks) (x ∷ y ∷ xs) kid l o g z v h b = absurd (omega arith)
one-below depth levels (k ∷ j ∷ ks) (x ∷ []) kid l o g z v h b = absurd (omega arith)
one-below depth levels (k ∷ []) (x ∷ []) kid l o g z v h b = by x h.0 v (subst IsKidBelow g b)
  where
    piece : (n : Kid) (ps : List Piece) → n.value.depth ≡ depth - 1
        → ((p : Contents) (i : ℕ) → levels p i ≡ topped (None, parting (k ∷ [])) (kids_levels (depth - 1) (Own n ∷ [])
        p) i)
        → IsEndBelow n.value.depth (seen_levels n.value) ps → IsEndBelow depth levels (ps ++ [])
    piece n [] d v i = tt
    piece n (p ∷ []) d v i = part p.1 i
      where
        part : (q : Part) → IsPartBelow n.value.depth (seen_levels n.value) q → IsPartBelow depth levels q
        part (value w) i = tt
        part (chunk e at) i = narrows_over [] depth (depth - 1) e (None, parting (k ∷ [])) (seen_levels n.value)
            levels (λ p. placed_levels p e (stamp_of at)) (omega (arith, z))
            (λ later pre i. v later i ∙ topped-same (None, parting (k ∷ [])) _ _
            (λ j. append-nil (seen_levels n.value later j)) i)
            (subst (λ w. NarrowsLater [] w e (seen_levels n.value) (λ p. placed_levels p e (stamp_of at))) d i)
    piece n (p ∷ q ∷ ps) d v i = tt

    by : (c : OwnChild) → IsChild (depth - 1) k c
        → ((p : Contents) (i : ℕ) → levels p i ≡ topped (None, parting (k ∷ [])) (kids_levels (depth - 1) (c ∷ []) p)
        i) → IsKidBelow c → IsEndBelow depth levels (child_pieces (depth - 1) k c ++ [])
    by (Placed at) h v b = narrows_over [] depth (depth - 1) (depth - 1) (None, parting (k ∷ []))
        (λ p. placed_levels p (depth - 1) (stamp_of at)) levels (λ p. placed_levels p (depth - 1) (stamp_of at))
        (omega (arith, z))
        (λ later pre i. v later i ∙ topped-same (None, parting (k ∷ [])) _ _
        (λ j. append-nil (placed_levels later (depth - 1) (stamp_of at) j)) i)
        (narrows_none [] (depth - 1) (λ p. placed_levels p (depth - 1) (stamp_of at)))
    by (Own n) h v b = piece n n.value.pieces h.0 v b

-- what was taken from the one child of a chunk has its chunks behind those with one child each
pub taken-below : (depth : ℕ) (levels : Contents → Levels) (keys : List Bytes) (kids : List OwnChild) (kid : OwnChild)
    (n : Seen) → length kids ≡ length keys → length kids ≡ 1 → kid ≡ get_or kids 0 kid → 0 < depth
    → ((p : Contents) (i : ℕ) → levels p i ≡ topped (None, parting keys) (kids_levels (depth - 1) kids p) i)
    → AllKids (depth - 1) (paired keys kids) → IsEndTaken kid n → NarrowsLater [] depth n.depth levels (seen_levels n)
taken-below depth levels [] kids kid n l o g z v h t = absurd (omega arith)
taken-below depth levels (k ∷ ks) [] kid n l o g z v h t = absurd (omega arith)
taken-below depth levels (k ∷ ks) (x ∷ y ∷ xs) kid n l o g z v h t = absurd (omega arith)
taken-below depth levels (k ∷ j ∷ ks) (x ∷ []) kid n l o g z v h t = absurd (omega arith)
taken-below depth levels (k ∷ []) (x ∷ []) kid n l o g z v h t = by x h.0 v (subst (λ c. IsEndTaken c n) g t)
  where
    by : (c : OwnChild) → IsChild (depth - 1) k c
        → ((p : Contents) (i : ℕ) → levels p i ≡ topped (None, parting (k ∷ [])) (kids_levels (depth - 1) (c ∷ []) p)
        i) → IsEndTaken c n → NarrowsLater [] depth n.depth levels (seen_levels n)
    by (Placed at) h v t = absurd t
    by (Own m) h v t = narrows_over [] depth (depth - 1) n.depth (None, parting (k ∷ [])) (seen_levels m.value) levels
        (seen_levels n) (omega (arith, z))
        (λ later pre i. v later i ∙ topped-same (None, parting (k ∷ [])) _ _
        (λ j. append-nil (seen_levels m.value later j)) i)
        (subst (λ w. NarrowsLater [] w n.depth (seen_levels m.value) (seen_levels n)) h.0 t.2)

-- the placed chunk that a child ends in has the child's chunks behind those with one child each
pub kid-ends : (p : Contents) (below : ℕ) (kid : OwnChild) (at : Ref) → end_of kid ≡ Some at → IsKidBelow kid
    → HasDepth below kid → IsSome (child_rows p below kid) → EndsAtChunk p below (child_levels below kid) at
kid-ends p below (Placed r) at e b h s =
    let v = some_of (child_rows p below (Placed r)) s in
    subst (EndsAtChunk p below (child_levels below (Placed r))) (some_is e) (
      below,
      depth-at p below (stamp_of r) v.0 v.1,
      narrows_none p below (λ q. placed_levels q below (stamp_of r)),
    )
kid-ends p below (Own n) at e b h s = let v = some_of (shown p n.value.pieces) s in by n.value.pieces e b v.0 v.1
  where
    by : (ps : List Piece) → end_of_pieces ps ≡ Some at → IsEndBelow n.value.depth (seen_levels n.value) ps
        → (rs : Rows) → shown p ps ≡ Some rs → EndsAtChunk p below (seen_levels n.value) at
    by [] e b rs v = absurd (cc e)
    by (q ∷ []) e b rs v = part q.1 e b (let f = split_of (q.0, part_rows p q.0 q.1) [] rs v in (f.front, f.front_is))
      where
        part : (x : Part) → part_ref x ≡ Some at → IsPartBelow n.value.depth (seen_levels n.value) x
            → (f : Rows) × (part_rows p q.0 x ≡ Some f) → EndsAtChunk p below (seen_levels n.value) at
        part (value w) e b f = absurd (cc e)
        part (chunk d r) e b f = subst (EndsAtChunk p below (seen_levels n.value)) (some_is e) (
          d,
          depth-at p d (stamp_of r) f.0 f.1,
          narrows_since [] p below d (seen_levels n.value) (λ q. placed_levels q d (stamp_of r)) (p, refl)
              (subst (λ w. NarrowsLater [] w d (seen_levels n.value) (λ q. placed_levels q d (stamp_of r))) h b),
        )
    by (q ∷ r ∷ ps) e b rs v = absurd (cc e)

-- and what this ends in, which was read
pub ends_on : (p q : Contents) (below : ℕ) (levels : Contents → Levels) (at end : Ref) → IsPrefix p q
    → (e : EndsAtChunk p below levels at) → IsEndUnder q e.0 (stamp_of at) end → EndsAtChunk q below levels end
ends_on p q below levels at end pre e u = (
  u.1,
  u.3,
  narrows_trans q below e.0 u.1 levels (λ r. placed_levels r e.0 (stamp_of at))
      (λ r. placed_levels r u.1 (stamp_of end)) (narrows_since p q below e.0 levels _ pre e.2)
      (narrows_placed q e.0 (stamp_of at) end u),
)

-- what stands in a root's place has the chunks of its one child
pub heir_placed : (p q : Contents) (below : ℕ) (left : List OwnChild) (kid : OwnChild) (end : Option Ref) (at : Ref)
    → left ≡ kid ∷ [] → IsFirstShown p below left
    → (HasDepth below kid → IsSome (child_rows p below kid) → IfEndsAt q below (child_levels below kid) end)
    → end ≡ Some at → HeirNarrows q below left (heir.Placed at)
heir_placed p q below left kid end at l i f e =
    let k = subst (IsFirstShown p below) l i in
    subst (λ w. HeirNarrows q below w (heir.Placed at)) (sym l)
    (subst (IfEndsAt q below (child_levels below kid)) e (f k.0 k.1))

pub heir_own : (p q : Contents) (below : ℕ) (left : List OwnChild) (kid : OwnChild) (n : Seen) → left ≡ kid ∷ []
    → IsFirstShown p below left → IsEndTaken kid n → HeirNarrows q below left (heir.Own n)
heir_own p q below left kid n l i t =
    subst (λ w. HeirNarrows q below w (heir.Own n)) (sym l) (by kid (subst (IsFirstShown p below) l i) t)
  where
    by : (c : OwnChild) → IsFirstShown p below (c ∷ []) → IsEndTaken c n → HeirNarrows q below (c ∷ []) (heir.Own n)
    by (Placed at) i t = absurd t
    by (Own m) i t =
        narrows_since [] q below n.depth (seen_levels m.value) (seen_levels n) (q, refl)
        (subst (λ w. NarrowsLater [] w n.depth (seen_levels m.value) (seen_levels n)) i.0 t.2)

-- the first of the children is so deep, and shows rows
pub first_kid_at : (p : Contents) (below : ℕ) (keys : List Bytes) (kids : List OwnChild) (rows : Rows)
    → length kids ≡ length keys → AllKids below (paired keys kids)
    → joined_rows (shows_of (kid_rows p below) (paired keys kids)) ≡ Some rows → IsFirstShown p below kids
first_kid_at p below keys [] rs l h j = tt
first_kid_at p below [] (x ∷ xs) rs l h j = absurd (omega arith)
first_kid_at p below (k ∷ ks) (x ∷ xs) rs l h j =
    let f = split_of (k, child_rows p below x) (shows_of (kid_rows p below) (paired ks xs)) rs j in
    one x h.0 f.front f.front_is
  where
    one : (c : OwnChild) → IsChild below k c → (rs : Rows) → child_rows p below c ≡ Some rs
        → HasDepth below c × IsSome (child_rows p below c)
    one (Placed at) h rs e = (tt, subst IsSome (sym e) refl)
    one (Own n) h rs e = (h.0, subst IsSome (sym e) refl)

-- so it is once one is gone
pub first_at : (p : Contents) (below : ℕ) (keys : List Bytes) (kids : List OwnChild) (i : ℕ) (rows : Rows)
    → length kids ≡ length keys → AllKids below (paired keys kids)
    → shown p (kids_pieces below (paired keys kids)) ≡ Some rows → IsFirstShown p below (remove kids i)
first_at p below keys kids i rows l h s = to keys kids i l h (sym (shown-kids p below (paired keys kids) h) ∙ s)
  where
    to : (ks : List Bytes) (xs : List OwnChild) (i : ℕ) → length xs ≡ length ks → AllKids below (paired ks xs)
        → joined_rows (shows_of (kid_rows p below) (paired ks xs)) ≡ Some rows → IsFirstShown p below (remove xs i)
    to ks [] zero l h j = tt
    to ks [] (suc i) l h j = tt
    to [] (x ∷ xs) i l h j = absurd (omega arith)
    to (k ∷ ks) (x ∷ xs) zero l h j = let f = split_of (k, child_rows p below x)
        (shows_of (kid_rows p below) (paired ks xs)) rows j in
        first_kid_at p below ks xs f.back (omega arith) h.1 f.back_is
    to (k ∷ ks) (x ∷ xs) (suc i) l h j = first_kid_at p below (k ∷ ks) (x ∷ xs) rows l h j

pub first_kid_is : (p : Contents) (below : ℕ) (keys : List Bytes) (kids : List OwnChild) (kid : OwnChild) (rows : Rows)
    → length kids ≡ length keys → 0 < length keys → AllKids below (paired keys kids) → kid ≡ get_or kids 0 kid
    → shown p (kids_pieces below (paired keys kids)) ≡ Some rows
    → HasDepth below kid × IsSome (child_rows p below kid)
first_kid_is p below keys [] kid rows l z h g s = absurd (omega (arith, l, z))
first_kid_is p below keys (x ∷ xs) kid rows l z h g s =
    subst (λ w. HasDepth below w × IsSome (child_rows p below w)) (sym g)
    (first_kid_at p below keys (x ∷ xs) rows l h (sym (shown-kids p below (paired keys (x ∷ xs)) h) ∙ s))
