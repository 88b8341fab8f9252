-- Which pieces of a draft's own chunks a put leaves alone, and what it makes of a child.
use Rattle.std.proofs.Common.{◌≡◌, ◌<◌, ◌-◌, ℕ, List, [], ◌∷◌, ◌++◌, Option, Some, None, length, get_or, set, refl, sym}
use Rattle.std.proofs.Common.{ap, ◌∙◌, subst, append-nil, append_assoc, nat_cmp, Ordering, Less, Equal, Greater}
use Rattle.std.specs.Prelude.{IsSome, option_map}
use Rattle.std.specs.Cmp.Lexicographic.{slice_cmp}
use Rattle.std.specs.FinMap.{put}
use Rattle.std.specs.FinMap.Entries.{by_order}
use mathlib.Core.List.{IsPrefix}
use Rattle.group_history.proofs.Pairs.{keys_of-paired}
use Rattle.group_history.specs.declared.refs.Ref.{Ref}
use Rattle.group_history.specs.Map.{Bytes}
use Rattle.group_history.specs.Refs.{stamp_of}
use Rattle.group_history.specs.Rows.{Rows, keys_of, paired}
use Rattle.group_history.specs.Spelling.{Contents, Segment, rows_at}
use Rattle.map_chunks.proofs.OpenLemmas.{chunk_rows-at, key_at, known, rows-kept, spells_at}
use Rattle.map_chunks.proofs.RowLemmas.{cmp}
use Rattle.map_chunks.specs.Seeking.{chunk_depth}
use Rattle.map_chunks.specs.Shown.{value, chunk, Piece, IsTree, chunk_rows, rows_or, shown}
use Rattle.map_nodes.proofs.NodeLemmas.{Down, shown-rows}
use Rattle.map_nodes.proofs.PathLemmas.{first_key, half_kids, lowered_pairs, with_half-is}
use Rattle.map_nodes.specs.Inside.Halves.{half_pieces, lowered, with_half, IsHalf}
use Rattle.map_nodes.specs.Inside.Laying.{IsBuilt}
use Rattle.map_nodes.specs.Inside.Nodes.{Kid}
use Rattle.map_nodes.specs.Inside.Puts.{shown_at, IsChildPut, IsOwnPut}
use Rattle.map_nodes.specs.Levels.{seen_levels, RenewedLater}
use Rattle.map_nodes.specs.Nodes.{Kids, child_pieces, kids_pieces, row_pieces}
use Rattle.map_nodes.specs.Others.{ArePutAmong, option_piece}
use Rattle.map_nodes.specs.declared.nodes.OwnChild.{OwnChild}
use Rattle.map_nodes.specs.declared.nodes.OwnChild.TheVariants.{Placed, Own}
use Rattle.map_nodes.specs.declared.nodes.putting.Half.{Half}

-- OTHER PIECES

regroup : {A : Type 0} (f b g a k : List A) → f ++ ((b ++ (g ++ a)) ++ k) ≡ (f ++ b) ++ (g ++ (a ++ k))
regroup f b g a k = simp append_assoc

-- other pieces in front and behind are the same
among_between : (q : Contents) (key v : Bytes) (front old new back : List Piece) → ArePutAmong q key v old new
    → ArePutAmong q key v (front ++ (old ++ back)) (front ++ (new ++ back))
among_between q key v front old new back m = (
  front ++ m.0,
  m.1,
  m.2,
  m.3 ++ back,
  ap (λ w. front ++ (w ++ back)) m.4 ∙ regroup front m.0 (option_piece m.1) m.3 back,
  ap (λ w. front ++ (w ++ back)) m.5 ∙ regroup front m.0 m.2 m.3 back,
  m.6,
)

-- a piece more in front
among_behind : (q : Contents) (key v : Bytes) (p : Piece) (old new : List Piece) → ArePutAmong q key v old new
    → ArePutAmong q key v (p ∷ old) (p ∷ new)
among_behind q key v p old new m =
    (p ∷ m.0, m.1, m.2, m.3, ap (λ w. p ∷ w) m.4, ap (λ w. p ∷ w) m.5, m.6)

-- a value put among rows
among_rows : (q : Contents) (key v : Bytes) (rows : Rows)
    → ArePutAmong q key v (row_pieces rows) (row_pieces (put (slice_cmp nat_cmp) key v rows))
among_rows q key v [] = ([], None, (key, value v) ∷ [], [], refl, refl, shown-rows q ((key, v) ∷ []))
among_rows q key v (r ∷ rows) = by (cmp key r.0) refl (among_rows q key v rows)
  where
    by : (o : Ordering) → cmp key r.0 ≡ o
        → ArePutAmong q key v (row_pieces rows) (row_pieces (put (slice_cmp nat_cmp) key v rows))
        → ArePutAmong q key v (row_pieces (r ∷ rows)) (row_pieces (by_order o ((key, v) ∷ r ∷ rows)
        ((r.0, v) ∷ rows) (r ∷ put (slice_cmp nat_cmp) key v rows)))
    by Less e m =
        ([], None, (key, value v) ∷ [], row_pieces (r ∷ rows), refl, refl, shown-rows q ((key, v) ∷ []))
    by Equal e m = (
      [],
      Some (r.0, value r.1),
      (r.0, value v) ∷ [],
      row_pieces rows,
      refl,
      refl,
      shown-rows q ((r.0, v) ∷ []) ∙ ap (λ o. Some (by_order o ((key, v) ∷ r ∷ []) ((r.0, v) ∷ [])
          (r ∷ put (slice_cmp nat_cmp) key v []))) (sym e),
    )
    by Greater e m = among_behind q key v (r.0, value r.1) _ _ m

kids_pieces-append : (below : ℕ) (xs ys : Kids)
    → kids_pieces below (xs ++ ys) ≡ kids_pieces below xs ++ kids_pieces below ys
kids_pieces-append below [] ys = refl
kids_pieces-append below (x ∷ xs) ys = ap (λ w. child_pieces below x.0 x.1 ++ w) (kids_pieces-append below xs ys) ∙ sym
    (append_assoc (child_pieces below x.0 x.1) (kids_pieces below xs) (kids_pieces below ys))

half_kids-pieces : (below : ℕ) (half : Option Half) → kids_pieces below (half_kids half) ≡ half_pieces half
half_kids-pieces below None = refl
half_kids-pieces below (Some h) = append-nil h.node.value.pieces

-- a put in a child is one among the pieces of all children
among_kids : (q : Contents) (key v : Bytes) (below : ℕ) (before : Kids) (first later : Bytes) (child : OwnChild)
    (n : Kid) (half : Option Half) (behind : Kids)
    → ArePutAmong q key v (child_pieces below first child) (n.value.pieces ++ half_pieces half)
    → ArePutAmong q key v (kids_pieces below (before ++ (first, child) ∷ behind))
    (kids_pieces below (before ++ (((later, Own n) ∷ half_kids half) ++ behind)))
among_kids q key v below before first later child n half behind m =
    let was : kids_pieces below (before ++ (first, child) ∷ behind)
    ≡ kids_pieces below before ++ (child_pieces below first child ++ kids_pieces below behind) =
    kids_pieces-append below before ((first, child) ∷ behind) in
    let made : kids_pieces below ((later, Own n) ∷ half_kids half) ≡ n.value.pieces ++ half_pieces half =
    ap (λ w. n.value.pieces ++ w) (half_kids-pieces below half) in
    let now : kids_pieces below (before ++ (((later, Own n) ∷ half_kids half) ++ behind))
    ≡ kids_pieces below before ++ ((n.value.pieces ++ half_pieces half) ++ kids_pieces below behind) =
    kids_pieces-append below before (((later, Own n) ∷ half_kids half) ++ behind)
    ∙ ap (λ w. kids_pieces below before ++ w) (kids_pieces-append below ((later, Own n) ∷ half_kids half) behind
    ∙ ap (λ w. w ++ kids_pieces below behind) made) in
    subst (λ w. ArePutAmong q key v w (kids_pieces below (before ++ (((later, Own n) ∷ half_kids half) ++ behind))))
    (sym was) (subst (λ w. ArePutAmong q key v (kids_pieces below before
    ++ (child_pieces below first child ++ kids_pieces below behind)) w) (sym now)
    (among_between q key v (kids_pieces below before) (child_pieces below first child)
    (n.value.pieces ++ half_pieces half) (kids_pieces below behind) m))

-- a put in the child at a place of an inner chunk
pub inner_among : (p q : Contents) (depth : ℕ) (keys : List Bytes) (kids new : List OwnChild)
    (pieces now : List Piece) (key v : Bytes) (i : ℕ) (child : OwnChild) (lower : Option Bytes) (half : Option Half)
    (n : Kid) → length kids ≡ length keys → (d : Down p depth keys kids pieces key i child)
    → pieces ≡ kids_pieces (depth - 1) (paired keys kids) → new ≡ set kids i (Own n)
    → ArePutAmong q key v (child_pieces (depth - 1) (get_or keys i []) child) (n.value.pieces ++ half_pieces half)
    → now ≡ kids_pieces (depth - 1) (with_half i half (paired (lowered i lower keys) new))
    → ArePutAmong q key v pieces now
inner_among p q depth keys kids new pieces now key v i child lower half n l d was made m is =
    let below = depth - 1 in
    let first : get_or keys i [] ≡ d.first = ap (λ z. get_or z i []) (sym (keys_of-paired keys kids l)) ∙ ap
    (λ z. get_or (keys_of z) i []) d.whole ∙ key_at d.before (d.first, child) d.behind i d.at in
    let later = first_key d.first lower in
    let es : with_half i half (paired (lowered i lower keys) new)
    ≡ d.before ++ (((later, Own n) ∷ half_kids half) ++ d.behind) =
    ap (λ w. with_half i half (paired (lowered i lower keys) w)) made ∙ ap (with_half i half)
    (lowered_pairs keys kids i lower (Own n) child d.before d.first d.behind l d.whole d.at)
    ∙ with_half-is i half d.before (later, Own n) d.behind d.at in
    subst (λ w. ArePutAmong q key v w now) (sym (was ∙ ap (kids_pieces below) d.whole))
    (subst (λ w. ArePutAmong q key v (kids_pieces below (d.before ++ (d.first, child) ∷ d.behind)) w)
    (sym (is ∙ ap (kids_pieces below) es))
    (among_kids q key v below d.before d.first later child n half d.behind
    (subst (λ f. ArePutAmong q key v (child_pieces below f child) (n.value.pieces ++ half_pieces half)) first m)))

-- in the place of a placed chunk stand pieces that show its rows with the value put
placed_among : (p q : Contents) (below : ℕ) (first key v : Bytes) (at : Ref) (rows : Rows) (made : List Piece)
    → IsPrefix p q → rows_at p below (stamp_of at) ≡ Some rows
    → shown q made ≡ Some (put (slice_cmp nat_cmp) key v rows)
    → ArePutAmong q key v ((first, chunk below at) ∷ []) made
placed_among p q below first key v at rows made pre h s = (
  [],
  Some (first, chunk below at),
  made,
  [],
  refl,
  sym (append-nil made),
  s ∙ ap (λ z. Some (put (slice_cmp nat_cmp) key v (rows_or z))) (sym (rows-kept p q below (stamp_of at) rows pre h)),
)

-- A CHUNK

-- a value put in a leaf
pub rows_put : (p : Contents) (key v : Bytes) (rows : Rows) (old new : List Piece)
    (half : Option Half) → old ≡ row_pieces rows
    → new ++ half_pieces half ≡ row_pieces (put (slice_cmp nat_cmp) key v rows)
    → (shown p (new ++ half_pieces half) ≡ Some (put (slice_cmp nat_cmp) key v (rows_or (shown p old))))
    × ArePutAmong p key v old (new ++ half_pieces half)
rows_put p key v rows old new half e is = (
  ap (shown p) is ∙ shown-rows p (put (slice_cmp nat_cmp) key v rows)
      ∙ ap (λ z. Some (put (slice_cmp nat_cmp) key v (rows_or z))) (sym (ap (shown p) e ∙ shown-rows p rows)),
  subst (λ w. ArePutAmong p key v w (new ++ half_pieces half)) (sym e)
      (subst (λ w. ArePutAmong p key v (row_pieces rows) w) (sym is) (among_rows p key v rows)),
)

-- A CHILD

-- a placed chunk that shows rows in order has them however deep it is asked for
pub rows_alone : (p : Contents) (below k : ℕ) → IsTree (rows_at p below k) → chunk_rows p k ≡ rows_at p below k
rows_alone p below k t =
    let n = known (rows_at p below k) t in chunk_rows-at p below k n.rows n.is ∙ sym n.is

-- and it is so deep
pub depth_at : (p : Contents) (below k : ℕ) → IsTree (rows_at p below k) → chunk_depth p k ≡ Some below
depth_at p below k t =
    let n = known (rows_at p below k) t in
    let f = spells_at p below k n.rows n.is in
    ap (option_map (λ (s : Segment). s.depth)) f.0.is ∙ ap (λ w. Some w) f.1

-- a value put in an own child
pub own_put : (q : Contents) (copies below i : ℕ) (first key v : Bytes) (rows : Option Rows) (kids : List OwnChild)
    (m n : Kid) (half : Option Half) → m.value.depth ≡ below → n.value.depth ≡ below → 0 < length n.value.pieces
    → IsHalf copies below half
    → IsOwnPut q key v rows m.value.pieces n.value.pieces m.value.depth
    (seen_levels m.value) (seen_levels n.value) half
    → IsChildPut q copies below i first key v rows kids (set kids i (Own n)) (Own m) half
own_put q copies below i first key v rows kids m n half was now filled is u = record {
  done = (n, refl, now, filled, u.shown_is, is);
  others = u.others;
  renewed = (
    n,
    refl,
    λ there. let r = u.renewed there in
        (r.0, r.1, subst (λ w. RenewedLater q w (seen_levels m.value) (seen_levels n.value)) was r.2),
  );
}

-- a value put in a placed child, in whose place own chunks stand
pub placed_put : (p q : Contents) (may : Ref → Type 0) (copies below i : ℕ) (first key v : Bytes)
    (kids new : List OwnChild) (at : Ref) (n : Kid) (half : Option Half) → IsPrefix p q
    → IsTree (rows_at p below (stamp_of at)) → new ≡ set kids i (Own n)
    → (shown_at (chunk_rows p (stamp_of at)) key ≡ Some v → ⊥)
    → IsBuilt q may copies (stamp_of at) below (rows_or (chunk_rows p (stamp_of at))) key v n.value half
    → IsChildPut q copies below i first key v (rows_at p below (stamp_of at)) kids new (Placed at) half
placed_put p q may copies below i first key v kids new at n half pre t is other u =
    let k = stamp_of at in
    let same = rows_alone p below k t in
    let known_rows = known (rows_at p below k) t in
    let s : shown q (n.value.pieces ++ half_pieces half)
    ≡ Some (put (slice_cmp nat_cmp) key v (rows_or (rows_at p below k))) =
    u.shown_is ∙ ap (λ z. Some (put (slice_cmp nat_cmp) key v (rows_or z))) same in
    record {
      done = (n, is, u.depth_is, u.filled, s, u.half_is);
      others = placed_among p q below first key v at known_rows.rows (n.value.pieces ++ half_pieces half) pre
          known_rows.is
          (s ∙ ap (λ z. Some (put (slice_cmp nat_cmp) key v (rows_or z))) known_rows.is);
      renewed = (
        n,
        is,
        λ there.
            let r = u.replaced (subst (λ z. IsSome (shown_at z key)) (sym same) there) in (
              λ here. other (ap (λ z. shown_at z key) same ∙ here),
              r.0,
              r.1,
            ),
      );
    }
