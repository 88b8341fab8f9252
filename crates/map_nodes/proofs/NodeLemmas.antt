-- The way down a chunk of a draft.
use Rattle.std.proofs.Common.{◌≡◌, ◌<◌, ◌-◌, ℕ, true, cond, List, [], ◌∷◌, ◌++◌, Option, Some, None, length, map}
use Rattle.std.proofs.Common.{get_or, set, slice_get, refl, sym, ap, ◌∙◌, subst, arith, nat_cmp}
use Rattle.std.proofs.lemmas.List.{set-get_or}
use Rattle.std.specs.Box.{with_value}
use Rattle.std.specs.Cmp.Lexicographic.{slice_cmp}
use Rattle.std.specs.FinMap.{find}
use Rattle.group_history.specs.declared.refs.Ref.{Ref}
use Rattle.group_history.specs.Map.{Bytes}
use Rattle.group_history.specs.Refs.{stamp_of}
use Rattle.group_history.specs.Rows.{Rows, keys_of, values_of, paired}
use Rattle.group_history.specs.Spelling.{Contents, rows_at, joined_one, joined_rows, begins_with}
use Rattle.group_history.proofs.Pairs.{keys_of-paired, values_of-paired}
use Rattle.map_chunks.specs.Search.{IsPlace}
use Rattle.map_chunks.specs.Shown.{Piece, Seen, part_rows, shown, chunk_rows, IsTree, rows_or}
use Rattle.map_nodes.specs.Nodes.{Kids, child_pieces, kids_pieces, row_pieces, body_pieces}
use Rattle.map_nodes.specs.Nodes.{HeadIs, IsChild, AllKids, IsNode}
use Rattle.map_nodes.specs.Inside.Laying.{inner_seen}
use Rattle.map_nodes.specs.Inside.Nodes.{Kid, child_rows}
use Rattle.map_nodes.specs.declared.nodes.Body.{Body}
use Rattle.map_nodes.specs.declared.nodes.Body.TheVariants.{Leaf, Inner}
use Rattle.map_nodes.specs.declared.nodes.OwnChild.{OwnChild}
use Rattle.map_nodes.specs.declared.nodes.OwnChild.TheVariants.{Placed, Own}
use Rattle.map_chunks.proofs.RowLemmas.{IsStrict}
use Rattle.map_chunks.proofs.JoinLemmas.{Shows, appended, joined-append, back_begins, begins-with, Way}
use Rattle.map_chunks.proofs.OpenLemmas.{known, entry_at, Placing, placing, shows_of, way_by, find-way, chunk_rows-at}
use Rattle.map_chunks.proofs.SearchLemmas.{got}

-- pieces with what shows them
abbrev pub pieces_shown : Contents → List Piece → Shows
pieces_shown p ps = map (λ q. (q.0, part_rows p q.0 q.1)) ps

pieces-append : (p : Contents) (a b : List Piece) → pieces_shown p (a ++ b) ≡ pieces_shown p a ++ pieces_shown p b
pieces-append p [] b = refl
pieces-append p (q ∷ a) b = ap (λ t. (q.0, part_rows p q.0 q.1) ∷ t) (pieces-append p a b)

pub shown-append : (p : Contents) (a b : List Piece) → shown p (a ++ b) ≡ appended (shown p a) (shown p b)
shown-append p a b = ap joined_rows (pieces-append p a b) ∙ joined-append (pieces_shown p a) (pieces_shown p b)

pub shown-rows : (p : Contents) (rows : Rows) → shown p (row_pieces rows) ≡ Some rows
shown-rows p [] = refl
shown-rows p (r ∷ rows) = ap (joined_one r.0 (Some (r ∷ []))) (shown-rows p rows) ∙ ap
    (λ u. cond u (Some (r ∷ rows)) None) (begins-with r.0 r.1 [])

-- what an entry shows
abbrev pub kid_rows : Contents → ℕ → Bytes × OwnChild → Option Rows
kid_rows p below e = child_rows p below e.1

pub headed : (p : Contents) (k : Bytes) (ps : List Piece) (rs : Rows) → HeadIs k ps → shown p ps ≡ Some rs
    → begins_with k rs ≡ true
headed p k [] rs h e = absurd h
headed p k (q ∷ ps) rs h e =
    let b = back_begins (q.0, part_rows p q.0 q.1) (pieces_shown p ps) rs e in
    subst (λ t. begins_with k t ≡ true) (sym b.whole)
    (subst (λ w. begins_with w ((q.0, b.value) ∷ b.rest) ≡ true) h (begins-with q.0 b.value b.rest))

one_of : (p : Contents) (k : Bytes) (ps : List Piece) (y : Option Rows) → HeadIs k ps
    → appended (shown p ps) y ≡ joined_one k (shown p ps) y
one_of p k ps y h = by (shown p ps) refl y
  where
    by : (x : Option Rows) → shown p ps ≡ x → (y : Option Rows) → appended x y ≡ joined_one k x y
    by None e y = refl
    by (Some a) e None = refl
    by (Some a) e (Some b) = ap (λ u. cond u (Some (a ++ b)) None) (sym (headed p k ps a h e))

-- the pieces of children show what the children show
pub shown-kids : (p : Contents) (below : ℕ) (es : Kids) → AllKids below es
    → shown p (kids_pieces below es) ≡ joined_rows (shows_of (kid_rows p below) es)
shown-kids p below [] h = refl
shown-kids p below (e ∷ es) h = by e.1 h.0 (shown-kids p below es h.1)
  where
    by : (c : OwnChild) → IsChild below e.0 c
        → shown p (kids_pieces below es) ≡ joined_rows (shows_of (kid_rows p below) es)
        → shown p (child_pieces below e.0 c ++ kids_pieces below es)
        ≡ joined_one e.0 (child_rows p below c) (joined_rows (shows_of (kid_rows p below) es))
    by (Placed at) h ih = ap (joined_one e.0 (rows_at p below (stamp_of at))) ih
    by (Own n) h ih = shown-append p n.value.pieces (kids_pieces below es) ∙ ap
        (appended (shown p n.value.pieces)) ih ∙ one_of p e.0 n.value.pieces
        (joined_rows (shows_of (kid_rows p below) es)) h.1

AllKids-split : (below : ℕ) (before : Kids) (e : Bytes × OwnChild) (behind : Kids)
    → AllKids below (before ++ e ∷ behind) → AllKids below before × IsChild below e.0 e.1 × AllKids below behind
AllKids-split below [] e behind h = (tt, h.0, h.1)
AllKids-split below (b ∷ before) e behind h = let r = AllKids-split below before e behind h.1 in ((h.0, r.0), r.1, r.2)

-- the child to which a key belongs, and the way to it
pub record Down (p : Contents) (depth : ℕ) (keys : List Bytes) (kids : List OwnChild) (pieces : List Piece)
    (key : Bytes)
    (i : ℕ) (child : OwnChild) : Type 0 where
  pub before : Kids
  pub first : Bytes
  pub behind : Kids
  pub whole : paired keys kids ≡ before ++ (first, child) ∷ behind
  pub at : length before ≡ i
  pub rows : Rows
  pub rows_is : shown p pieces ≡ Some rows
  pub order : IsStrict rows
  pub way : Way key (shows_of (kid_rows p (depth - 1)) before) first (child_rows p (depth - 1) child)
      (shows_of (kid_rows p (depth - 1)) behind) rows
  pub all : AllKids (depth - 1) before × IsChild (depth - 1) first child × AllKids (depth - 1) behind
  pub place : Placing key before first behind

pub down : (p : Contents) (depth : ℕ) (keys : List Bytes) (kids : List OwnChild) (pieces : List Piece) (key : Bytes)
    (i : ℕ) (child : OwnChild)
    → length kids ≡ length keys → AllKids (depth - 1) (paired keys kids)
    → pieces ≡ kids_pieces (depth - 1) (paired keys kids) → IsPlace key keys i → slice_get kids i ≡ Some child
    → IsTree (shown p pieces) → Down p depth keys kids pieces key i child
down p depth keys kids pieces key i child l h e q g o =
    let v : slice_get (values_of (paired keys kids)) i
    ≡ Some child = ap (λ w. slice_get w i) (values_of-paired keys kids l) ∙ g in
    let a = entry_at (paired keys kids) i child v in
    let n = known (shown p pieces) o in
    let j : joined_rows (shows_of (kid_rows p (depth - 1)) (a.before ++ (a.first, child) ∷ a.behind)) ≡ Some n.rows =
    ap (λ w. joined_rows (shows_of (kid_rows p (depth - 1)) w)) (sym a.whole) ∙ sym
    (shown-kids p (depth - 1) (paired keys kids) h) ∙ ap (shown p) (sym e) ∙ n.is in
    let pl = placing key a.before a.first child a.behind i a.at
    (subst (λ w. IsPlace key (keys_of w) i) a.whole
    (subst (λ w. IsPlace key w i) (sym (keys_of-paired keys kids l)) q)) in
    record {
      before = a.before;
      first = a.first;
      behind = a.behind;
      whole = a.whole;
      at = a.at;
      rows = n.rows;
      rows_is = n.is;
      order = n.order;
      way = way_by (kid_rows p (depth - 1)) key a.before (a.first, child) a.behind n.rows j n.order pl;
      all = AllKids-split (depth - 1) a.before (a.first, child) a.behind (subst (AllKids (depth - 1)) a.whole h);
      place = pl;
    }

-- an own child that is written as it was
pub written_back : (kids : List OwnChild) (i : ℕ) (child : OwnChild) (n : Kid) (s : Seen) → child ≡ get_or kids i child
    → child ≡ Own n → s ≡ n.value → set kids i (Own (with_value n s)) ≡ kids
written_back kids i child n s g o e = ap (λ w. set kids i (Own (with_value n w))) e ∙ ap (set kids i)
    (sym o ∙ g) ∙ set-get_or kids i child

-- what a child is that was indexed
pub child_at : (kids : List OwnChild) (i n : ℕ) (c : OwnChild) → length kids ≡ n → i < n → c ≡ get_or kids i c
    → slice_get kids i ≡ Some c
child_at kids i n c l h e = got kids i c (omega arith) ∙ ap (λ w. Some w) (sym e)

-- the same of an inner node
pub node_down : (p : Contents) (depth : ℕ) (keys : List Bytes) (body : Body) (kids : _) (pieces : List Piece)
    (slice : List Bytes) (key : Bytes) (i : ℕ) (child : OwnChild)
    → body_pieces depth keys body ≡ pieces → body ≡ Inner kids → IsNode depth keys body → slice ≡ keys
    → IsPlace key slice i → child ≡ get_or kids.items i child
    → IsTree (shown p pieces) → Down p depth keys kids.items pieces key i child
node_down p depth keys body kids pieces slice key i child v e inv s q g o =
    let h : IsNode depth keys (Inner kids) = subst (IsNode depth keys) e inv in
    let r : IsPlace key keys i = subst (λ w. IsPlace key w i) s q in
    down p depth keys kids.items pieces key i child h.1.2 h.1.3 (sym v ∙ ap (body_pieces depth keys) e) r
    (child_at kids.items i (length keys) child h.1.2 r.0 g) o

pub inner_depth : (depth : ℕ) (keys : List Bytes) (body : Body) (kids : _) → body ≡ Inner kids
    → IsNode depth keys body → 0 < depth
inner_depth depth keys body kids e inv = let h : IsNode depth keys (Inner kids) = subst
    (IsNode depth keys) e inv in h.1.0

-- a child that is placed, and one that is own
pub down_placed : (p : Contents) (depth : ℕ) (keys : List Bytes) (kids : List OwnChild) (pieces : List Piece)
    (key : Bytes)
    (i : ℕ) (child : OwnChild) (at : Ref)
    → (d : Down p depth keys kids pieces key i child) → child ≡ Placed at → chunk_rows p (stamp_of at) ≡ Some d.way.here
down_placed p depth keys kids pieces key i child at d e = chunk_rows-at p (depth - 1) (stamp_of at) d.way.here
    (ap (child_rows p (depth - 1)) (sym e) ∙ d.way.here_is)

pub down_own : (p : Contents) (depth : ℕ) (keys : List Bytes) (kids : List OwnChild) (pieces : List Piece) (key : Bytes)
    (i : ℕ) (child : OwnChild) (n : Kid)
    → (d : Down p depth keys kids pieces key i child) → child ≡ Own n
    → (shown p n.value.pieces ≡ Some d.way.here) × (n.value.depth ≡ depth - 1) × HeadIs d.first n.value.pieces
down_own p depth keys kids pieces key i child n d e =
    let c : IsChild (depth - 1) d.first (Own n) = subst (IsChild (depth - 1) d.first) e d.all.1 in
    (ap (child_rows p (depth - 1)) (sym e) ∙ d.way.here_is, c.0, c.1)

-- the key's value is that below the child
pub down-find : (p : Contents) (depth : ℕ) (keys : List Bytes) (kids : List OwnChild) (pieces : List Piece)
    (key : Bytes)
    (i : ℕ) (child : OwnChild) (x : Option Rows)
    → (d : Down p depth keys kids pieces key i child) → x ≡ Some d.way.here
    → find (slice_cmp nat_cmp) key (rows_or x) ≡ find (slice_cmp nat_cmp) key (rows_or (shown p pieces))
down-find p depth keys kids pieces key i child x d e =
    ap (λ w. find (slice_cmp nat_cmp) key (rows_or w)) e ∙ find-way key _ _ _ _ d.rows d.way ∙ ap
    (λ w. find (slice_cmp nat_cmp) key (rows_or w)) (sym d.rows_is)

-- an inner chunk by the same keys and children
pub inner_same : (depth : ℕ) (keys2 keys : List Bytes) (kids2 kids : List OwnChild) → keys2 ≡ keys → kids2 ≡ kids
    → inner_seen depth keys2 kids2 ≡ inner_seen depth keys kids
inner_same depth keys2 keys kids2 kids k e = ap (λ ks. inner_seen depth ks kids2) k ∙ ap (inner_seen depth keys) e

-- a leaf shows its rows
pub leaf_rows : (p : Contents) (depth : ℕ) (keys : List Bytes) (body : Body) (values : _) (pieces : List Piece)
    → body_pieces depth keys body ≡ pieces → body ≡ Leaf values
    → shown p pieces ≡ Some (paired keys values.items)
leaf_rows p depth keys body values pieces v e = ap (shown p) (sym v ∙ ap (body_pieces depth keys) e) ∙ shown-rows p
    (paired keys values.items)
