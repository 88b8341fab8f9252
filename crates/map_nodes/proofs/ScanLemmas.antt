-- A scan of the children of a draft's chunk.
use Rattle.std.proofs.Common.{◌≡◌, ◌<◌, ◌≤◌, ◌-◌, ℕ, zero, suc, List, [], ◌∷◌, Option, Some, length, max, get_or, sym}
use Rattle.std.proofs.Common.{ap, ◌∙◌, subst, arith}
use Rattle.group_history.specs.Map.{Bytes}
use Rattle.group_history.specs.Rows.{Rows, paired}
use Rattle.group_history.specs.Spelling.{Contents, joined_rows}
use Rattle.group_history.specs.Refs.{stamp_of}
use mathlib.Core.List.{IsPrefix}
use Rattle.map_chunks.specs.Shown.{IsTree, Piece, rows_or, shown}
use Rattle.map_nodes.specs.Nodes.{kids_pieces, body_pieces, IsNode, child_height, kids_height}
use Rattle.map_nodes.specs.Inside.Nodes.{child_rows}
use Rattle.map_nodes.specs.declared.nodes.OwnChild.{OwnChild}
use Rattle.map_nodes.specs.declared.nodes.OwnChild.TheVariants.{Placed, Own}
use Rattle.map_nodes.specs.declared.nodes.Body.{Body}
use Rattle.map_nodes.specs.declared.nodes.Body.TheVariants.{Leaf, Inner}
use Rattle.map_nodes.proofs.NodeLemmas.{kid_rows, shown-kids, shown-rows}
use Rattle.map_nodes.proofs.ChangeLemmas.{shown-kept}
use Rattle.map_nodes.specs.Inside.Scanning.{kid_shown, kids_shown}
use Rattle.map_chunks.proofs.RowLemmas.{IsStrict-front}
use Rattle.map_chunks.proofs.OpenLemmas.{Known, tree_of, shows_of, chunk_rows-at}
use Rattle.map_chunks.proofs.ScanLemmas.{Turn, chunk_rows-kept, pairs_turn, shown_as, value_of-pair}

-- CHILDREN OF A DRAFT'S CHUNK

-- what a child of a draft's chunk shows
abbrev pub shown_kid : Contents → Bytes × OwnChild → Option Rows
shown_kid contents e = kid_shown contents e.1

pub kid_shown-kept : (old new : Contents) (kid : OwnChild) (rs : Rows) → IsPrefix old new → kid_shown old kid ≡ Some rs
    → kid_shown new kid ≡ Some rs
kid_shown-kept old new (Placed at) rs p h = chunk_rows-kept old new (stamp_of at) rs p h
kid_shown-kept old new (Own n) rs p h = shown-kept old new n.value.pieces rs p h

pub kid_shown-at : (p : Contents) (below : ℕ) (kid : OwnChild) (rs : Rows) → child_rows p below kid ≡ Some rs
    → kid_shown p kid ≡ Some rs
kid_shown-at p below (Placed at) rs h = chunk_rows-at p below (stamp_of at) rs h
kid_shown-at p below (Own n) rs h = h

pub kids_shown-is : (p : Contents) (depth : ℕ) (keys : List Bytes) (body : Body) (kids : _) (pieces : List Piece)
    (rs : Rows) → body_pieces depth keys body ≡ pieces → body ≡ Inner kids
    → IsNode depth keys body → shown p pieces ≡ Some rs → kids_shown p (paired keys kids.items) ≡ Some rs
kids_shown-is p depth keys body kids pieces rs v e inv h =
    let i : IsNode depth keys (Inner kids) = subst (IsNode depth keys) e inv in
    let s : shown p (kids_pieces (depth - 1) (paired keys kids.items))
    ≡ Some rs = ap (shown p) (ap (body_pieces depth keys) (sym e) ∙ v) ∙ h in
    shown_as (kid_rows p (depth - 1)) (shown_kid p) (λ e w q. kid_shown-at p (depth - 1) e.1 w q)
    (paired keys kids.items) rs (sym (shown-kids p (depth - 1) (paired keys kids.items) i.1.3) ∙ s)

-- the keys and the values of a leaf side by side are the rows that it shows
pub leaf_shown : (p : Contents) (depth : ℕ) (keys : List Bytes) (body : Body) (values : _) (pieces : List Piece)
    (ks vs : List Bytes) → body ≡ Leaf values → body_pieces depth keys body ≡ pieces → ks ≡ keys → vs ≡ values.items
    → paired ks vs ≡ rows_or (shown p pieces)
leaf_shown p depth keys body values pieces ks vs e v k q =
    ap (λ w. paired w vs) k ∙ ap (paired keys) q
    ∙ ap rows_or (sym (ap (shown p) (sym v ∙ ap (body_pieces depth keys) e) ∙ shown-rows p (paired keys values.items)))

-- a child at its turn, when more may be placed
pub record KidTurn (old new : Contents) (ks : List Bytes) (xs : List OwnChild) (i : ℕ) (rs : Rows)
    (kid : OwnChild) : Type 0 where
  pub turn : Turn (shown_kid old) (paired ks xs) i rs
  pub rows_are : kid_shown new kid ≡ Some turn.here
  pub tree : IsTree (kid_shown new kid)

pub kid_turn : (old new : Contents) (ks : List Bytes) (xs : List OwnChild) (i : ℕ) (kid : OwnChild) → IsPrefix old new
    → length xs ≡ length ks
    → (n : Known (joined_rows (shows_of (shown_kid old) (paired ks xs)))) → i < length ks → kid ≡ get_or xs i kid
    → KidTurn old new ks xs i n.rows kid
kid_turn old new ks xs i kid p l n b q =
    let t = pairs_turn (shown_kid old) ks xs i n.rows l n.is n.order b in
    let same = value_of-pair ks xs i kid t.entry l b q t.at in
    let r : kid_shown new kid ≡ Some t.here = ap
    (kid_shown new) same ∙ kid_shown-kept old new t.entry.1 t.here p t.here_is in
    record {
      turn = t;
      rows_are = r;
      tree = tree_of (kid_shown new kid) t.here r
          (IsStrict-front t.here t.back t.strict);
    }

pub kid_height : (kids : List OwnChild) (i : ℕ) (kid : OwnChild) → i < length kids → kid ≡ get_or kids i kid
    → child_height kid ≤ kids_height kids
kid_height [] i kid l q = absurd (omega arith)
kid_height (k ∷ kids) zero kid l q = subst (λ w. child_height w ≤ max (child_height k) (kids_height kids))
    (sym q) (omega arith)
kid_height (k ∷ kids) (suc i) kid l q = let r = kid_height kids i kid (omega arith) q in omega arith
