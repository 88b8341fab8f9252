-- How the nodes that a freeze appends name their children.
use Rattle.std.proofs.Common.{◌≡◌, ◌<◌, ◌≤◌, ◌⊎◌, ◌+◌, ◌-◌, ℕ, zero, suc, inl, inr, List, [], ◌∷◌, ◌++◌, Option, Some}
use Rattle.std.proofs.Common.{None, length, map, get_or, set, insert, refl, sym, ap, ◌∙◌, subst, arith, append_assoc}
use Rattle.std.proofs.Common.{Result, Ok, Err, IfOk}
use Rattle.std.specs.List.{Contains}
use Rattle.std.proofs.lemmas.List.Elements.{Contains-append_cases, Contains-append_left, Contains-append_right}
use Rattle.std.proofs.lemmas.List.{append-nil}
use Rattle.group_history.specs.declared.nodes.Node.{Node}
use Rattle.group_history.specs.declared.refs.Ref.{Ref}
use Rattle.group_history.specs.Map.{Bytes}
use Rattle.group_history.specs.Naming.{children, chunk_children}
use Rattle.group_history.specs.declared.nodes.Chunk.{Chunk}
use Rattle.group_history.specs.declared.nodes.Chunk.TheVariants.{Leaf, Inner}
use Rattle.group_history.specs.Refs.{stamp_of, slot_of}
use Rattle.group_history.specs.Rows.{Rows, paired, values_of}
use Rattle.group_history.proofs.Pairs.{values_of-paired}
use Rattle.group_history.proofs.Lists.{no_element, only_one}
use Rattle.map_nodes.specs.Inside.Copies.{chunk_pieces}
use Rattle.map_chunks.specs.Places.{AreKept, part_places, places_of, IsNamed, AreNamed, HaveNamed, AddsNamed}
use Rattle.map_nodes.specs.Inside.Freezing.{child_places, kids_places}
use Rattle.map_nodes.specs.Inside.Halves.{half_pieces, with_half}
use Rattle.map_nodes.specs.Nodes.{Kids, body_pieces, child_pieces, kids_pieces, row_pieces}
use Rattle.map_nodes.specs.Inside.Nodes.{Kid}
use Rattle.map_nodes.specs.declared.nodes.Body.{Body}
use Rattle.map_nodes.specs.declared.nodes.Body.TheVariants as inner
use Rattle.map_nodes.specs.declared.nodes.putting.Half.{Half}
use Rattle.map_chunks.specs.Shown.{Piece, chunk}
use Rattle.map_nodes.specs.declared.nodes.OwnChild.{OwnChild}
use Rattle.map_nodes.specs.declared.nodes.OwnChild.TheVariants.{Placed, Own}

-- MORE PLACES

abbrev Within : List Ref → List Ref → Type 0
Within places more = (at : Ref) → Contains places at → Contains more at

named-within : (first : ℕ) (places more : List Ref) (at : Ref) → Within places more → IsNamed first places at
    → IsNamed first more at
named-within first places more at w n = elim n [ inl h ↦ inl (w at h) | inr d ↦ inr d ]

have-within : (first : ℕ) (places more : List Ref) (ns : List (Node Ref)) → Within places more
    → HaveNamed first places ns → HaveNamed first more ns
have-within first places more [] w h = tt
have-within first places more (n ∷ ns) w h =
    (λ at i. named-within first places more at w (h.0 at i), have-within first places more ns w h.1)

have-both : (first : ℕ) (places : List Ref) (xs ys : List (Node Ref)) → HaveNamed first places xs
    → HaveNamed first places ys → HaveNamed first places (xs ++ ys)
have-both first places [] ys g h = h
have-both first places (x ∷ xs) ys g h = (g.0, have-both first places xs ys g.1 h)

-- MORE NODES

pub adds-none : (first : ℕ) (places : List Ref) (old : List (Node Ref)) → AddsNamed first places old old
adds-none first places old = ([], append-nil old, tt)

pub adds-one : (first : ℕ) (places : List Ref) (old mid new : List (Node Ref)) (n : Node Ref)
    → AddsNamed first places old mid → AreNamed first places (children n) → new ≡ mid ++ n ∷ []
    → AddsNamed first places old new
adds-one first places old mid new n a h e = (
  a.0 ++ n ∷ [],
  sym (append_assoc old a.0 (n ∷ [])) ∙ ap (λ w. w ++ n ∷ []) a.1 ∙ sym e,
  have-both first places a.0 (n ∷ []) a.2 (h, tt),
)

adds-both : (first : ℕ) (places : List Ref) (old mid new : List (Node Ref)) → AddsNamed first places old mid
    → AddsNamed first places mid new → AddsNamed first places old new
adds-both first places old mid new a b =
    (a.0 ++ b.0, sym (append_assoc old a.0 b.0) ∙ ap (λ w. w ++ b.0) a.1 ∙ b.1, have-both first places a.0 b.0 a.2 b.2)

pub adds-within : (first : ℕ) (places more : List Ref) (old new : List (Node Ref)) → Within places more
    → AddsNamed first places old new → AddsNamed first more old new
adds-within first places more old new w a = (a.0, a.1, have-within first places more a.0 w a.2)

-- CHILDREN

kids-one : (xs : List OwnChild) (x : OwnChild) → kids_places (xs ++ x ∷ []) ≡ kids_places xs ++ child_places x
kids-one [] x = append-nil (child_places x)
kids-one (y ∷ xs) x = ap (λ w. child_places y ++ w) (kids-one xs x) ∙ sym
    (append_assoc (child_places y) (kids_places xs) (child_places x))

front-within : (xs : List OwnChild) (x : OwnChild) → Within (kids_places xs) (kids_places (xs ++ x ∷ []))
front-within xs x at h = subst (λ w. Contains w at) (sym (kids-one xs x))
    (Contains-append_left (kids_places xs) (child_places x) at h)

back-within : (xs : List OwnChild) (x : OwnChild) → Within (child_places x) (kids_places (xs ++ x ∷ []))
back-within xs x at h = subst (λ w. Contains w at) (sym (kids-one xs x))
    (Contains-append_right (kids_places xs) (child_places x) at h)

pub kid-added : (first : ℕ) (done : List OwnChild) (kid : OwnChild) (old mid new : List (Node Ref))
    → AddsNamed first (kids_places done) old mid → AddsNamed first (child_places kid) mid new
    → AddsNamed first (kids_places (done ++ kid ∷ [])) old new
kid-added first done kid old mid new a b =
    let all = kids_places (done ++ kid ∷ []) in
    adds-both first all old mid new (adds-within first (kids_places done) all old mid (front-within done kid) a)
    (adds-within first (child_places kid) all mid new (back-within done kid) b)

pub kid-named : (first : ℕ) (done : List OwnChild) (kid : OwnChild) (ats : List Ref) (at : Ref)
    → AreNamed first (kids_places done) ats → IsNamed first (child_places kid) at
    → AreNamed first (kids_places (done ++ kid ∷ [])) (ats ++ at ∷ [])
kid-named first done kid ats at a n r h =
    let all = kids_places (done ++ kid ∷ []) in
    elim (Contains-append_cases ats (at ∷ []) r h) [
      | inl p ↦ named-within first (kids_places done) all r (front-within done kid) (a r p)
      | inr p ↦ subst (IsNamed first all) (only_one at r p)
          (named-within first (child_places kid) all at (back-within done kid) n)
    ]

places-joined : (xs ys : List Piece) → places_of (xs ++ ys) ≡ places_of xs ++ places_of ys
places-joined [] ys = refl
places-joined (x ∷ xs) ys = ap (λ w. part_places x.1 ++ w) (places-joined xs ys) ∙ sym
    (append_assoc (part_places x.1) (places_of xs) (places_of ys))

pub places-kids : (below : ℕ) (keys : List Bytes) (kids : List OwnChild) → length kids ≡ length keys
    → places_of (kids_pieces below (paired keys kids)) ≡ kids_places kids
places-kids below [] [] l = refl
places-kids below [] (k ∷ kids) l = absurd (cc l)
places-kids below (t ∷ keys) [] l = absurd (cc l)
places-kids below (t ∷ keys) (Placed at ∷ kids) l = ap (λ w. at ∷ w)
    (places-kids below keys kids (let e : length kids ≡ length keys = cc l in e))
places-kids below (t ∷ keys) (Own n ∷ kids) l =
    places-joined n.value.pieces (kids_pieces below (paired keys kids)) ∙ ap (λ w. places_of n.value.pieces ++ w)
    (places-kids below keys kids (let e : length kids ≡ length keys = cc l in e))

-- the names of an inner chunk's children
pub inner-named : (first : ℕ) (places : List Ref) (keys : List Bytes) (ats : List Ref) (es : List (Bytes × Ref))
    → length ats ≡ length keys → es ≡ paired keys ats → AreNamed first places ats → AreNamed first places (values_of es)
inner-named first places keys ats es l e h = subst (AreNamed first places)
    (sym (ap (λ w. values_of w) e ∙ values_of-paired keys ats l)) h

pub drafted-named : {E : Type 0} (first : ℕ) (places : List Ref) (r : Result Ref E)
    → IfOk r (λ at. (first ≤ stamp_of at) × (slot_of at ≡ 0)) → IfOk r (IsNamed first places)
drafted-named first places (Ok at) d = inr d
drafted-named first places (Err e) d = tt

pub places-rows : (rows : Rows) → places_of (row_pieces rows) ≡ []
places-rows [] = refl
places-rows (r ∷ rows) = places-rows rows

-- a child's places are among those of all children
pub kid-within : (kids : List OwnChild) (i : ℕ) (c : OwnChild) → i < length kids → c ≡ get_or kids i c → (at : Ref)
    → Contains (child_places c) at → Contains (kids_places kids) at
kid-within [] i c l e at h = absurd (omega arith)
kid-within (k ∷ kids) zero c l e at h = Contains-append_left (child_places k) (kids_places kids) at
    (subst (λ (w : OwnChild). Contains (child_places w) at) e h)
kid-within (k ∷ kids) (suc i) c l e at h = Contains-append_right (child_places k) (kids_places kids) at
    (kid-within kids i c (omega arith) e at h)

kids-set : (kids : List OwnChild) (i : ℕ) (y : OwnChild) (at : Ref) → Contains (kids_places (set kids i y)) at
    → Contains (kids_places kids) at ⊎ Contains (child_places y) at
kids-set [] i y at h = inl h
kids-set (k ∷ kids) zero y at h = elim (Contains-append_cases (child_places y) (kids_places kids) at h) [
  | inl p ↦ inr p
  | inr q ↦ inl (Contains-append_right (child_places k) (kids_places kids) at q)
]
kids-set (k ∷ kids) (suc i) y at h = elim (Contains-append_cases (child_places k) (kids_places (set kids i y)) at h) [
  | inl p ↦ inl (Contains-append_left (child_places k) (kids_places kids) at p)
  | inr q ↦ elim (kids-set kids i y at q)
      [ inl r ↦ inl (Contains-append_right (child_places k) (kids_places kids) at r) | inr r ↦ inr r ]
]

-- a child changed in its place, with what else came of it
pub kept-kid : (may : Ref → Type 0) (kids : List OwnChild) (i : ℕ) (c : OwnChild) (n : Kid) (pieces : List Piece)
    → i < length kids → c ≡ get_or kids i c
    → AreKept may (child_places c) (places_of (n.value.pieces ++ pieces))
    → AreKept may (kids_places kids) (kids_places (set kids i (Own n)) ++ places_of pieces)
kept-kid may kids i c n pieces l e h at t = elim
    (Contains-append_cases (kids_places (set kids i (Own n))) (places_of pieces) at t) [
      | inl p ↦ elim (kids-set kids i (Own n) at p) [
        | inl q ↦ inl q
        | inr q ↦ below (h at (subst (λ w. Contains w at) (sym (places-joined n.value.pieces pieces))
            (Contains-append_left (places_of n.value.pieces) (places_of pieces) at q)))
      ]
      | inr p ↦ below (h at (subst (λ w. Contains w at) (sym (places-joined n.value.pieces pieces))
          (Contains-append_right (places_of n.value.pieces) (places_of pieces) at p)))
    ]
  where
    below : Contains (child_places c) at ⊎ may at → Contains (kids_places kids) at ⊎ may at
    below (inl a) = inl (kid-within kids i c l e at a)
    below (inr b) = inr b

child-pieces : (below : ℕ) (k : Bytes) (c : OwnChild) → places_of (child_pieces below k c) ≡ child_places c
child-pieces below k (Placed at) = refl
child-pieces below k (Own n) = refl

in-front : (below : ℕ) (es : Kids) (e : Bytes × OwnChild) (at : Ref)
    → Contains (places_of (kids_pieces below (e ∷ es))) at
    → Contains (places_of (kids_pieces below es)) at ⊎ Contains (child_places e.1) at
in-front below es e at h =
    elim (Contains-append_cases (places_of (child_pieces below e.0 e.1)) (places_of (kids_pieces below es)) at
    (subst (λ w. Contains w at) (places-joined (child_pieces below e.0 e.1) (kids_pieces below es)) h)) [
      | inl p ↦ inr (subst (λ w. Contains w at) (child-pieces below e.0 e.1) p)
      | inr q ↦ inl q
    ]

entries-inserted : (below : ℕ) (es : Kids) (n : ℕ) (e : Bytes × OwnChild) (at : Ref)
    → Contains (places_of (kids_pieces below (insert es n e))) at
    → Contains (places_of (kids_pieces below es)) at ⊎ Contains (child_places e.1) at
entries-inserted below es zero e at h = in-front below es e at h
entries-inserted below [] (suc n) e at h = in-front below [] e at h
entries-inserted below (x ∷ es) (suc n) e at h =
    elim (Contains-append_cases (places_of (child_pieces below x.0 x.1))
    (places_of (kids_pieces below (insert es n e))) at
    (subst (λ w. Contains w at) (places-joined (child_pieces below x.0 x.1)
    (kids_pieces below (insert es n e))) h)) [
      | inl p ↦ inl (subst (λ w. Contains w at)
          (sym (places-joined (child_pieces below x.0 x.1) (kids_pieces below es)))
          (Contains-append_left (places_of (child_pieces below x.0 x.1)) (places_of (kids_pieces below es)) at p))
      | inr q ↦ elim (entries-inserted below es n e at q) [
        | inl r ↦ inl (subst (λ w. Contains w at)
            (sym (places-joined (child_pieces below x.0 x.1) (kids_pieces below es)))
            (Contains-append_right (places_of (child_pieces below x.0 x.1)) (places_of (kids_pieces below es)) at r))
        | inr r ↦ inr r
      ]
    ]

-- children with the upper half of one put behind it
half-places : (below i : ℕ) (half : Option Half) (keys : List Bytes) (kids : List OwnChild)
    → length kids ≡ length keys
    → (at : Ref) → Contains (places_of (kids_pieces below (with_half i half (paired keys kids)))) at
    → Contains (kids_places kids ++ places_of (half_pieces half)) at
half-places below i None keys kids l at h = Contains-append_left (kids_places kids) [] at
    (subst (λ w. Contains w at) (places-kids below keys kids l) h)
half-places below i (Some t) keys kids l at h = elim
    (entries-inserted below (paired keys kids) (i + 1) (get_or t.firsts.items 0 [], Own t.node) at h) [
      | inl p ↦ Contains-append_left (kids_places kids) (places_of t.node.value.pieces) at
          (subst (λ w. Contains w at) (places-kids below keys kids l) p)
      | inr q ↦ Contains-append_right (kids_places kids) (places_of t.node.value.pieces) at q
    ]

-- the placed chunks of a copy are the children of the copied one
pub copy-places : (depth : ℕ) (c : Chunk Ref) (at : Ref) → Contains (places_of (chunk_pieces depth c)) at
    → Contains (chunk_children c) at
copy-places depth (Leaf rows) at h = absurd (no_element at (subst (λ w. Contains w at) (places-rows rows) h))
copy-places depth (Inner kids) at h = subst (λ w. Contains w at) (all kids) h
  where
    all : (es : List (Bytes × Ref)) → places_of (map (λ e. (e.0, chunk (depth - 1) e.1)) es) ≡ values_of es
    all [] = refl
    all (e ∷ es) = ap (λ w. e.1 ∷ w) (all es)

-- the same child without what else came of it
pub kept-child : (may : Ref → Type 0) (kids : List OwnChild) (i : ℕ) (c : OwnChild) (n : Kid) → i < length kids
    → c ≡ get_or kids i c
    → AreKept may (child_places c) (places_of n.value.pieces)
    → AreKept may (kids_places kids) (kids_places (set kids i (Own n)))
kept-child may kids i c n l e h at t = elim (kids-set kids i (Own n) at t) [
  | inl q ↦ inl q
  | inr q ↦ elim (h at q) [ inl a ↦ inl (kid-within kids i c l e at a) | inr b ↦ inr b ]
]

pub kept-front : (may : Ref → Type 0) (old : List Ref) (a b : List Piece) → AreKept may old (places_of (a ++ b))
    → AreKept may old (places_of a)
kept-front may old a b h at i = h at (subst (λ w. Contains w at) (sym (places-joined a b))
    (Contains-append_left (places_of a) (places_of b) at i))

-- pieces that are those of children, with an upper half among them
pub kept-finished : (may : Ref → Type 0) (old : List Ref) (below i : ℕ) (half : Option Half) (keys : List Bytes)
    (kids : List OwnChild) (ps : List Piece) → length kids ≡ length keys
    → ps ≡ kids_pieces below (with_half i half (paired keys kids))
    → AreKept may old (kids_places kids ++ places_of (half_pieces half)) → AreKept may old (places_of ps)
kept-finished may old below i half keys kids ps l e h at t = h at
    (half-places below i half keys kids l at (subst (λ w. Contains (places_of w) at) e t))

-- the places of an inner chunk are those of its children
pub own-places : (depth : ℕ) (keys : List Bytes) (body : Body) (kids : _) (pieces : List Piece)
    → body_pieces depth keys body ≡ pieces → body ≡ inner.Inner kids → length kids.items ≡ length keys
    → places_of pieces ≡ kids_places kids.items
own-places depth keys body kids pieces v e l = ap places_of (sym v ∙ ap (body_pieces depth keys) e) ∙ places-kids
    (depth - 1) keys kids.items l
