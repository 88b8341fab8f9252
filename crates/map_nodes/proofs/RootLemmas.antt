-- A new root above both halves of a map.
use Rattle.std.proofs.Common.{◌≡◌, ◌<◌, ◌≤◌, ◌+◌, ◌-◌, ◌^◌, ◌&&◌, ℕ, Bool, true, false, cond, T, List, [], ◌∷◌, ◌++◌}
use Rattle.std.proofs.Common.{Option, Some, None, get_or, length, replicate, append-nil, refl, sym, ap, ◌∙◌, subst}
use Rattle.std.proofs.Common.{arith, nat_cmp, Less, is_lt}
use Rattle.std.specs.Cmp.Lexicographic.{slice_cmp}
use Rattle.std.specs.FinMap.{put}
use Rattle.group_history.specs.Map.{Bytes}
use Rattle.group_history.specs.Rows.{Rows, AreKeys, rises, paired}
use Rattle.group_history.specs.Spelling.{Contents, begins_with}
use Rattle.map_nodes.specs.Inside.Counts.{HasKept}
use Rattle.map_nodes.specs.Inside.Halves.{half_pieces, least, AreInOrder, HeadsBoth, IsHalf}
use Rattle.map_nodes.specs.Inside.Rising.{CanRise, IsAboveTaken}
use Rattle.map_nodes.specs.Nodes.{kids_pieces, row_pieces, body_pieces, HeadIs, AllKids, IsNode}
use Rattle.map_nodes.specs.Inside.Nodes.{Kid}
use Rattle.map_chunks.specs.Search.{is_above}
use Rattle.map_chunks.specs.Shown.{Piece, Seen, part_rows, shown}
use Rattle.map_nodes.specs.declared.nodes.Body.{Body}
use Rattle.map_nodes.specs.declared.nodes.Body.TheVariants.{Leaf, Inner}
use Rattle.map_nodes.specs.declared.nodes.OwnChild.{OwnChild}
use Rattle.map_nodes.specs.declared.nodes.OwnChild.TheVariants.{Own}
use Rattle.map_nodes.specs.declared.nodes.putting.Half.{Half}
use Rattle.map_nodes.specs.declared.nodes.putting.roots.Above.{Above}
use Rattle.map_nodes.proofs.ChangeLemmas.{head_from}
use Rattle.map_chunks.proofs.JoinLemmas.{back_begins, halves, begins-with}
use Rattle.map_nodes.proofs.KidLemmas.{repeated, head_kids}
use Rattle.map_nodes.proofs.NodeLemmas.{headed, pieces_shown, shown-append}
use Rattle.map_nodes.proofs.PathLemmas.{begins_put}
use Rattle.map_chunks.proofs.RowLemmas.{cmp, both, is_less, IsStrict, AllAbove-back}

-- the pieces of a chunk begin with its first key
head_body : (depth : ℕ) (k : Bytes) (ks : List Bytes) (body : Body) → IsNode depth (k ∷ ks) body
    → HeadIs k (body_pieces depth (k ∷ ks) body)
head_body depth k ks (Leaf values) h = by values.items h.1.1
  where
    by : (vs : List Bytes) → length vs ≡ length (k ∷ ks) → HeadIs k (row_pieces (paired (k ∷ ks) vs))
    by [] l = absurd (omega arith)
    by (v ∷ vs) l = refl
head_body depth k ks (Inner kids) h = by kids.items h.1.2 h.1.3
  where
    by : (cs : List OwnChild) → length cs ≡ length (k ∷ ks) → AllKids (depth - 1) (paired (k ∷ ks) cs)
        → HeadIs k (kids_pieces (depth - 1) (paired (k ∷ ks) cs))
    by [] l a = absurd (omega arith)
    by (c ∷ cs) l a = head_kids (depth - 1) 0 ((k, c) ∷ paired ks cs) (omega arith) a

-- so they do where the chunk has pieces
pub heads : (depth : ℕ) (keys : List Bytes) (body : Body) (d : Bytes) → IsNode depth keys body
    → 0 < length (body_pieces depth keys body) → HeadIs (get_or keys 0 d) (body_pieces depth keys body)
heads depth [] (Leaf values) d h l = absurd (omega arith)
heads depth [] (Inner kids) d h l = absurd (omega (arith, h.1.1))
heads depth (k ∷ ks) body d h l = head_body depth k ks body h

pub head_append : (k : Bytes) (ps qs : List Piece) → HeadIs k ps → HeadIs k (ps ++ qs)
head_append k [] qs h = absurd h
head_append k (p ∷ ps) qs h = h

no_rows : (p : Contents) (depth : ℕ) (body : Body) (rows : Rows) → IsNode depth [] body
    → shown p (body_pieces depth [] body) ≡ Some rows → [] ≡ rows
no_rows p depth (Leaf values) rows h e = cc
no_rows p depth (Inner kids) rows h e = absurd (omega (arith, h.1.1))

-- what a put makes begins with the least key
pub begins_least : (p : Contents) (depth : ℕ) (keys : List Bytes) (body : Body) (rows : Rows) (key v : Bytes)
    → IsNode depth keys body → shown p (body_pieces depth keys body) ≡ Some rows
    → begins_with (least key keys) (put (slice_cmp nat_cmp) key v rows) ≡ true
begins_least p depth [] body rows key v h e = subst (λ w. begins_with key (put (slice_cmp nat_cmp) key v w) ≡ true)
    (no_rows p depth body rows h e) (begins-with key v [])
begins_least p depth (k ∷ ks) body rows key v h e =
    let s = headed p k (body_pieces depth (k ∷ ks) body) rows (head_body depth k ks body h) e in
    by (is_above k key) refl s
  where
    by : (u : Bool) → is_above k key ≡ u → begins_with k rows ≡ true
        → begins_with (cond u key k) (put (slice_cmp nat_cmp) key v rows) ≡ true
    by true q s = begins_put k key v (Some key) rows s (refl, q)
    by false q s = begins_put k key v None rows s q

-- both halves, by what they show together
pub record Two (first : Bytes) (lower upper : List Piece) : Type 0 where
  pub head : HeadIs first lower
  pub order : AreInOrder first upper

pub two : (q : Contents) (first k : Bytes) (lower upper : List Piece) (rows : Rows)
    → shown q (lower ++ upper) ≡ Some rows → IsStrict rows → begins_with first rows ≡ true → 0 < length lower
    → HeadIs k upper → Two first lower upper
two q first k [] upper rows e o b l h = absurd (omega arith)
two q first k (x ∷ lower) [] rows e o b l h = absurd h
two q first k (x ∷ lower) (y ∷ upper) rows e o b l h =
    let f = halves (shown q (x ∷ lower)) (shown q (y ∷ upper)) rows
    (sym (shown-append q (x ∷ lower) (y ∷ upper)) ∙ e) in
    let x1 = back_begins (x.0, part_rows q x.0 x.1) (pieces_shown q lower) f.front f.front_is in
    let y1 = back_begins (y.0, part_rows q y.0 y.1) (pieces_shown q upper) f.back f.back_is in
    let w : rows ≡ ((x.0, x1.value) ∷ x1.rest)
    ++ ((y.0, y1.value) ∷ y1.rest) = f.whole ∙ ap (λ z. z ++ f.back) x1.whole ∙ ap
    (λ z. ((x.0, x1.value) ∷ x1.rest) ++ z) y1.whole in
    let s : IsStrict (((x.0, x1.value) ∷ x1.rest) ++ ((y.0, y1.value) ∷ y1.rest)) = subst IsStrict w o in
    let hd = head_from q first (x ∷ lower) f.front f.front_is
    (subst (λ z. begins_with first z ≡ true) (sym x1.whole)
    (same first x.0 x1.value x1.rest ((y.0, y1.value) ∷ y1.rest) (subst (λ z. begins_with first z ≡ true) w b))) in
    record {
      head = hd;
      order = is_less _ (subst (λ z. cmp z y.0 ≡ Less) hd
          (AllAbove-back x.0 x1.rest ((y.0, y1.value) ∷ y1.rest) s.0).0);
    }
  where
    same : (first k v : Bytes) (rest more : Rows) → begins_with first (((k, v) ∷ rest) ++ more) ≡ true
        → begins_with first ((k, v) ∷ rest) ≡ true
    same first k v rest more h = h

-- what the new root is
pub record Root (depth : ℕ) (first second : Bytes) (lower : Kid) (half : Half) (keys : List Bytes)
    (kids : List OwnChild) : Type 0 where
  pub node : AreKeys keys × ((0 < depth + 1) × (0 < length keys) × (length kids ≡ length keys)
      × AllKids ((depth + 1) - 1) (paired keys kids))
  pub pieces : kids_pieces ((depth + 1) - 1) (paired keys kids) ≡ lower.value.pieces ++ half.node.value.pieces

pub root : (first second : Bytes) (lower : Kid) (half : Half) (keys given : List Bytes) (kids : List OwnChild)
    → HeadIs first lower.value.pieces → IsHalf 1 lower.value.depth (Some half) → AreInOrder first half.node.value.pieces
    → half.firsts.items ≡ given ++ second ∷ [] → keys ≡ first ∷ second ∷ [] → kids ≡ Own lower ∷ Own half.node ∷ []
    → Root lower.value.depth first second lower half keys kids
root first second lower half keys given kids h i o g ek ec =
    let z : replicate (0 + 1) i.1.0 ≡ replicate 1 i.1.0 = refl in
    let r = repeated 0 i.1.0 second given (sym i.1.2 ∙ g) in
    let hd : HeadIs second half.node.value.pieces = subst (λ k. HeadIs k half.node.value.pieces) (sym r.0) i.1.1 in
    let below : (lower.value.depth + 1) - 1 ≡ lower.value.depth = omega arith in
    let all : AllKids ((lower.value.depth + 1) - 1) ((first, Own lower) ∷ (second, Own half.node) ∷ []) =
    ((sym below, h), ((i.0 ∙ sym below, hd), tt)) in
    record {
      node = (
        (
          omega (arith, ap length ek),
          subst (λ w. T (rises w)) (sym ek)
              (both (is_lt (cmp first second) && true) (true && true)
              (both (is_lt (cmp first second)) true (less_of half.node.value.pieces o hd) tt) tt),
        ),
        (
          omega arith,
          omega (arith, ap length ek),
          omega (arith, ap length ek, ap length ec),
          subst (λ w. AllKids ((lower.value.depth + 1) - 1) (paired w kids)) (sym ek)
              (subst (λ w. AllKids ((lower.value.depth + 1) - 1) (paired (first ∷ second ∷ []) w)) (sym ec) all),
        ),
      );
      pieces = ap (λ w. kids_pieces ((lower.value.depth + 1) - 1) (paired w kids)) ek ∙ ap
          (λ w. kids_pieces ((lower.value.depth + 1) - 1) (paired (first ∷ second ∷ []) w)) ec
          ∙ ap (λ w. lower.value.pieces ++ w) (append-nil half.node.value.pieces);
    }
  where
    less_of : (ps : List Piece) → AreInOrder first ps → HeadIs second ps → T (is_lt (cmp first second))
    less_of [] o h = absurd h
    less_of (p ∷ ps) o h = subst (λ k. T (is_lt (cmp first k))) h o

-- A ROOT THAT WAS SPLIT

-- a chunk and its upper half, where what a root above them needs was taken for a full chunk
pub can_rise : (q : Contents) (rows : Rows) (first : Bytes) (n s : Seen) (above : Above) (half : Option Half)
    → n.depth + 1 < 2 ^ 64 → s.depth ≡ n.depth → IsHalf 1 n.depth half
    → shown q (s.pieces ++ half_pieces half) ≡ Some rows → IsStrict rows → begins_with first rows ≡ true
    → 0 < length s.pieces → HasKept n.entries s.entries half → IsAboveTaken n.entries first above → CanRise s above half
can_rise q rows first n s above None deep d h e o b l kept t = tt
can_rise q rows first n s above (Some half) deep d h e o b l kept t =
    let full : 16 ≤ n.entries = omega (arith, kept.0) in
    let is = two q first h.1.0 s.pieces half.node.value.pieces rows e o b l h.1.1 in
    record {
      deep = omega (arith, d, deep);
      half_is = subst (λ w. IsHalf 1 w (Some half)) (sym d) h;
      heads = subst (λ w. HeadsBoth w s.pieces half.node.value.pieces) (sym (t.first full)) (is.head, is.order);
      keys = (t.empty.0, (t.spare full).0);
      kids = (t.empty.1, (t.spare full).1);
      home = t.home full;
    }
