-- A put below a child of an inner chunk.
use Rattle.std.proofs.Common.{◌≡◌, ◌<◌, ◌+◌, ◌-◌, ℕ, zero, suc, Bool, true, false, T, List, [], ◌∷◌, ◌++◌, Option, Some}
use Rattle.std.proofs.Common.{None, Result, Ok, Err, IfOk, OnOk, slice_get, length, get_or, set, insert, replicate}
use Rattle.std.proofs.Common.{append-nil, length-set, refl, sym, ap, ◌∙◌, subst, arith, nat_cmp, Less}
use Rattle.std.proofs.lemmas.List.Edits.{get_or-insert_above}
use Rattle.std.specs.Cmp.Lexicographic.{slice_cmp}
use Rattle.std.specs.FinMap.{put}
use Rattle.std.specs.FinMap.Entries.{by_order}
use mathlib.Core.List.{IsPrefix}
use Rattle.group_history.specs.Map.{Bytes}
use Rattle.group_history.specs.Rows.{Rows, keys_of, paired, rises, is_below_all}
use Rattle.group_history.specs.Spelling.{Contents, begins_with, joined_rows}
use Rattle.group_history.proofs.Pairs.{keys_of-paired}
use Rattle.map_nodes.specs.Inside.Halves.{HasDepth, half_pieces, IsHalf, with_half, lowered, IsLower, ChildPut}
use Rattle.map_nodes.specs.Inside.Halves.{AreNinth}
use Rattle.map_nodes.specs.Inside.Ready.{AreNinthIn, HasRoom, HasRoomIn, IsRoomTaken, TakenRoom}
use Rattle.map_nodes.specs.declared.nodes.putting.splits.SplitBuffers.{SplitBuffers}
use Rattle.map_nodes.specs.Nodes.{body_pieces, IsNode, Kids, child_pieces, kids_pieces, row_pieces, HeadIs, IsChild}
use Rattle.map_nodes.specs.Nodes.{AllKids}
use Rattle.map_nodes.specs.Inside.Nodes.{Kid, child_rows}
use Rattle.map_chunks.specs.Search.{is_above, IsPlace}
use Rattle.map_chunks.specs.Shown.{Piece, part_rows, shown, rows_or, IsTree}
use Rattle.map_nodes.specs.declared.nodes.Body.{Body}
use Rattle.map_nodes.specs.declared.nodes.Body.TheVariants.{Inner}
use Rattle.map_nodes.specs.declared.nodes.OwnChild.{OwnChild}
use Rattle.map_nodes.specs.declared.nodes.OwnChild.TheVariants.{Placed, Own}
use Rattle.map_nodes.specs.declared.nodes.putting.Half.{Half}
use Rattle.map_chunks.proofs.RowLemmas.{cmp, greater_less, both, is_less, IsStrict, AllAbove, AllAbove-back}
use Rattle.map_chunks.proofs.RowLemmas.{IsStrict-back}
use Rattle.map_chunks.proofs.JoinLemmas.{split_of, begins, back_begins, begins-with, halves, some_is}
use Rattle.map_chunks.proofs.OpenLemmas.{shows_of, key_at, tree_of}
use Rattle.map_nodes.proofs.NodeLemmas.{down, Down, kid_rows, pieces_shown, shown-append, shown-kids}
use Rattle.map_nodes.proofs.ChangeLemmas.{changed, put-local, put-begins, head_from, replaced, set-at}
use Rattle.map_nodes.proofs.LeafLemmas.{put-strict}
use Rattle.map_chunks.proofs.SearchLemmas.{less_above, got}

-- the upper half as a child
abbrev pub half_kids : Option Half → Kids
half_kids None = []
half_kids (Some h) = (get_or h.firsts.items 0 [], Own h.node) ∷ []

begins_front : (k : Bytes) (a b : Rows) → 0 < length a → begins_with k (a ++ b) ≡ true → begins_with k a ≡ true
begins_front k [] b l h = absurd (omega arith)
begins_front k (r ∷ a) b l h = h

filled_rows : (q : Contents) (ps : List Piece) (rs : Rows) → 0 < length ps → shown q ps ≡ Some rs → 0 < length rs
filled_rows q [] rs l e = absurd (omega arith)
filled_rows q (p ∷ ps) rs l e = let b = back_begins (p.0, part_rows q p.0 p.1) (pieces_shown q ps) rs e in
    omega (arith, ap length b.whole)

half_first : (copies below : ℕ) (h : Half) → IsHalf (copies + 1) below (Some h)
    → HeadIs (get_or h.firsts.items 0 []) h.node.value.pieces
half_first copies below h i =
    let s : copies + 1 ≡ suc copies = omega arith in
    subst (λ k. HeadIs k h.node.value.pieces)
    (sym (ap (λ z. get_or z 0 []) (i.1.2 ∙ ap (λ n. replicate n i.1.0) s))) i.1.1

-- the child and its upper half show its rows
child_news : (q : Contents) (below copies : ℕ) (k : Bytes) (n : Kid) (half : Option Half) (rs : Rows)
    → n.value.depth ≡ below → 0 < length n.value.pieces
    → shown q (n.value.pieces ++ half_pieces half) ≡ Some rs → IsHalf (copies + 1) below half → begins_with k rs ≡ true
    → AllKids below ((k, Own n) ∷ half_kids half)
    × (joined_rows (shows_of (kid_rows q below) ((k, Own n) ∷ half_kids half)) ≡ Some rs)
child_news q below copies k n half rs d l e i b =
    let f = halves (shown q n.value.pieces) (shown q (half_pieces half)) rs
    (sym (shown-append q n.value.pieces (half_pieces half)) ∙ e) in
    let z = filled_rows q n.value.pieces f.front l f.front_is in
    let h = head_from q k n.value.pieces f.front f.front_is
    (begins_front k f.front f.back z (subst (λ w. begins_with k w ≡ true) f.whole b)) in
    by half e i h
  where
    by : (half : Option Half) → shown q (n.value.pieces ++ half_pieces half) ≡ Some rs → IsHalf (copies + 1) below half
        → HeadIs k n.value.pieces
        → AllKids below ((k, Own n) ∷ half_kids half)
        × (joined_rows (shows_of (kid_rows q below) ((k, Own n) ∷ half_kids half)) ≡ Some rs)
    by None e i h = (((d, h), tt), sym (shown-kids q below ((k, Own n) ∷ []) ((d, h), tt)) ∙ e)
    by (Some m) e i h =
        let first = half_first copies below m i in
        let all : AllKids below ((k, Own n) ∷ half_kids (Some m)) = ((d, h), ((i.0, first), tt)) in (
          all,
          sym (shown-kids q below ((k, Own n) ∷ half_kids (Some m)) all) ∙ ap (λ w. shown q (n.value.pieces ++ w))
              (append-nil m.node.value.pieces) ∙ e,
        )

below_joined : (q : Contents) (below : ℕ) (k : Bytes) (es : Kids) (rs : Rows)
    → joined_rows (shows_of (kid_rows q below) es) ≡ Some rs → AllAbove k rs → T (is_below_all k (keys_of es))
below_joined q below k [] rs h a = tt
below_joined q below k (e ∷ es) rs h a =
    let s = split_of (e.0, child_rows q below e.1) (shows_of (kid_rows q below) es) rs h in
    let b = begins e.0 s.front s.starts in
    let a2 : AllAbove k (s.front ++ s.back) = subst (AllAbove k) s.whole a in
    let a3 : AllAbove k (((e.0, b.value) ∷ b.rest) ++ s.back) = subst (λ w. AllAbove k (w ++ s.back)) b.whole a2 in
    both _ _ (is_less _ a3.0) (below_joined q below k es s.back s.back_is (AllAbove-back k s.front s.back a2))

-- first keys rise where the rows below them do
pub rises_joined : (q : Contents) (below : ℕ) (es : Kids) (rs : Rows)
    → joined_rows (shows_of (kid_rows q below) es) ≡ Some rs → IsStrict rs → T (rises (keys_of es))
rises_joined q below [] rs h o = tt
rises_joined q below (e ∷ es) rs h o =
    let s = split_of (e.0, child_rows q below e.1) (shows_of (kid_rows q below) es) rs h in
    let b = begins e.0 s.front s.starts in
    let o2 : IsStrict (s.front ++ s.back) = subst IsStrict s.whole o in
    let o3 : IsStrict (((e.0, b.value) ∷ b.rest) ++ s.back) = subst (λ w. IsStrict (w ++ s.back)) b.whole o2 in
    both _ _ (below_joined q below e.0 es s.back s.back_is (AllAbove-back e.0 b.rest s.back o3.0))
    (rises_joined q below es s.back s.back_is (IsStrict-back s.front s.back o2))

-- the first key after a put
abbrev pub first_key : Bytes → Option Bytes → Bytes
first_key first None = first
first_key first (Some k) = k

put-least : (k key v : Bytes) (rs : Rows) → begins_with k rs ≡ true → cmp key k ≡ Less
    → begins_with key (put (slice_cmp nat_cmp) key v rs) ≡ true
put-least k key v rs h l =
    let b = begins k rs h in
    subst (λ w. begins_with key (put (slice_cmp nat_cmp) key v w) ≡ true) (sym b.whole)
    (subst (λ o. begins_with key (by_order o ((key, v) ∷ (k, b.value) ∷ b.rest) ((k, v) ∷ b.rest)
    ((k, b.value) ∷ put (slice_cmp nat_cmp) key v b.rest)) ≡ true) (sym l)
    (begins-with key v ((k, b.value) ∷ b.rest)))

pub begins_put : (first key v : Bytes) (lower : Option Bytes) (here : Rows) → begins_with first here ≡ true
    → IsLower key first lower
    → begins_with (first_key first lower) (put (slice_cmp nat_cmp) key v here) ≡ true
begins_put first key v None here s i = put-begins first key v here s
    (λ l. let u = less_above key first l in bad (is_above first key) i u)
  where
    bad : (b : Bool) → b ≡ false → b ≡ true → ⊥
    bad true e f = cc
    bad false e f = cc
begins_put first key v (Some k) here s i =
    subst (λ w. begins_with w (put (slice_cmp nat_cmp) key v here) ≡ true) (sym i.0)
    (put-least first key v here s (greater_less first key i.1))

insert_behind : {A : Type 0} (before : List A) (e : A) (behind : List A) (i : ℕ) (x : A) → length before ≡ i
    → insert (before ++ e ∷ behind) (i + 1) x ≡ before ++ e ∷ x ∷ behind
insert_behind before e behind i x l = let s : i + 1 ≡ suc i = omega arith in
    ap (λ n. insert (before ++ e ∷ behind) n x) s ∙ go before i l
  where
    go : (before : List _) (i : ℕ) → length before ≡ i
        → insert (before ++ e ∷ behind) (suc i) x ≡ before ++ e ∷ x ∷ behind
    go [] zero l = refl
    go [] (suc i) l = absurd (omega arith)
    go (b ∷ bs) zero l = absurd (omega arith)
    go (b ∷ bs) (suc i) l = ap (λ w. b ∷ w) (go bs i (omega arith))

paired-both : {A : Type 0} (ks : List Bytes) (xs : List A) (i : ℕ) (k : Bytes) (y : A)
    → paired (set ks i k) (set xs i y) ≡ set (paired ks xs) i (k, y)
paired-both [] xs i k y = refl
paired-both (j ∷ ks) [] zero k y = refl
paired-both (j ∷ ks) [] (suc i) k y = refl
paired-both (j ∷ ks) (x ∷ xs) zero k y = refl
paired-both (j ∷ ks) (x ∷ xs) (suc i) k y = ap (λ w. (j, x) ∷ w) (paired-both ks xs i k y)

pub lowered_pairs : (keys : List Bytes) (kids : List OwnChild) (i : ℕ) (lower : Option Bytes) (y c : OwnChild)
    (before : Kids)
    (first : Bytes) (behind : Kids) → length kids ≡ length keys
    → paired keys kids ≡ before ++ (first, c) ∷ behind → length before ≡ i
    → paired (lowered i lower keys) (set kids i y) ≡ before ++ (first_key first lower, y) ∷ behind
lowered_pairs keys kids i None y c before first behind l w a = replaced keys kids i y c before first behind l w a
lowered_pairs keys kids i (Some k) y c before first behind l w a =
    paired-both keys kids i k y ∙ ap (λ z. set z i (k, y)) w ∙ set-at before (first, c) behind i (k, y) a

pub with_half-is : (i : ℕ) (half : Option Half) (before : Kids) (e : Bytes × OwnChild) (behind : Kids)
    → length before ≡ i → with_half i half (before ++ e ∷ behind) ≡ before ++ ((e ∷ half_kids half) ++ behind)
with_half-is i None before e behind l = refl
with_half-is i (Some h) before e behind l = insert_behind before e behind i (get_or h.firsts.items 0 [], Own h.node) l

-- children and keys once the child at the place is put into
pub record Put (q : Contents) (below : ℕ) (es : Kids) (rows : Rows) : Type 0 where
  pub all : AllKids below es
  pub order : T (rises (keys_of es))
  pub shown_is : shown q (kids_pieces below es) ≡ Some rows

pub put_path : (p q : Contents) (depth copies : ℕ) (keys : List Bytes) (kids new : List OwnChild) (pieces : List Piece)
    (key v : Bytes) (i : ℕ) (child : OwnChild) (lower : Option Bytes) (half : Option Half)
    → IsPrefix p q → length kids ≡ length keys → (d : Down p depth keys kids pieces key i child)
    → IsLower key (get_or keys i []) lower
    → ChildPut q (copies + 1) (depth - 1) i kids new half
    (Some (put (slice_cmp nat_cmp) key v (rows_or (child_rows p (depth - 1) child))))
    → Put q (depth - 1) (with_half i half (paired (lowered i lower keys) new)) (put (slice_cmp nat_cmp) key v d.rows)
put_path p q depth copies keys kids new pieces key v i child lower half pre l d low c =
    let below = depth - 1 in
    let first : get_or keys i [] ≡ d.first = ap (λ z. get_or z i []) (sym (keys_of-paired keys kids l)) ∙ ap
    (λ z. get_or (keys_of z) i []) d.whole ∙ key_at d.before (d.first, child) d.behind i d.at in
    let low2 : IsLower key d.first lower = subst (λ f. IsLower key f lower) first low in
    let n = c.0 in
    let rows : shown q (n.value.pieces ++ half_pieces half)
    ≡ Some (put (slice_cmp nat_cmp) key v d.way.here) = c.4 ∙ ap
    (λ z. Some (put (slice_cmp nat_cmp) key v (rows_or z))) d.way.here_is in
    let k = first_key d.first lower in
    let news = child_news q below copies k n half (put (slice_cmp nat_cmp) key v d.way.here) c.2 c.3 rows c.5
    (begins_put d.first key v lower d.way.here d.way.starts low2) in
    let ch = changed p q depth keys kids pieces key i child (put (slice_cmp nat_cmp) key v)
    ((k, Own n) ∷ half_kids half) pre d (put-local key v) news.0 news.1 in
    let es : with_half i half (paired (lowered i lower keys) new)
    ≡ d.before ++ (((k, Own n) ∷ half_kids half) ++ d.behind) =
    ap (λ w. with_half i half (paired (lowered i lower keys) w)) c.1 ∙ ap (with_half i half)
    (lowered_pairs keys kids i lower (Own n) child d.before d.first d.behind l d.whole d.at)
    ∙ with_half-is i half d.before (k, Own n) d.behind d.at in
    let o = put-strict key v d.rows d.order in
    record {
      all = subst (AllKids below) (sym es) ch.all;
      order = subst (λ w. T (rises (keys_of w))) (sym es)
          (rises_joined q below (d.before ++ (((k, Own n) ∷ half_kids half) ++ d.behind))
          (put (slice_cmp nat_cmp) key v d.rows) ch.joined_is o);
      shown_is = ap (λ w. shown q (kids_pieces below w)) es ∙ ch.shown_is;
    }

pub length-lowered : (i : ℕ) (lower : Option Bytes) (keys : List Bytes) → length (lowered i lower keys) ≡ length keys
length-lowered i None keys = refl
length-lowered i (Some k) keys = length-set keys i k

get_or-set_below : (ks : List Bytes) (j : ℕ) (k : Bytes) → get_or (set ks 0 k) (suc j) [] ≡ get_or ks (suc j) []
get_or-set_below [] j k = refl
get_or-set_below (x ∷ ks) j k = refl

-- a lower first key stands at the place 0, and changes nothing behind it
pub ninth_lowered : (copies : ℕ) (keys : List Bytes) (i : ℕ) (key : Bytes) (lower : Option Bytes) (texts : List Bytes)
    → IsPlace key keys i → IsLower key (get_or keys i []) lower
    → AreNinth copies keys (i + 1) key texts → (k : Bytes) → (i + 1 ≡ 8 → ⊥)
    → AreNinth copies (lowered i lower keys) (i + 1) k texts
ninth_lowered copies keys i key None texts p low n k z full j e = n full j (λ y. absurd (z y))
ninth_lowered copies keys i key (Some m) texts p low n k z full j e =
    let full2 : length keys ≡ 16 = sym (length-set keys i m) ∙ full in
    let nil : i ≡ 0 = none i p.1 low.1 in
    let one : i + 1 ≡ 1 = omega (arith, nil) in
    let was = n full2 j (λ y. absurd (z y)) in
    let a = subst (λ s. texts ≡ replicate copies (get_or (insert keys s j) 8 [])) one was in
    let same : get_or (insert (set keys 0 m) 1 j) 8 [] ≡ get_or (insert keys 1 j) 8 [] =
    get_or-insert_above (set keys 0 m) 1 j [] 7 (omega arith)
    (omega (arith, full2, length-set keys 0 m)) ∙ get_or-set_below keys 6 m
    ∙ sym (get_or-insert_above keys 1 j [] 7 (omega arith) (omega (arith, full2))) in
    let b : texts ≡ replicate copies (get_or (insert (set keys 0 m) 1 j) 8 []) = a ∙ ap (replicate copies) (sym same) in
    let c : texts ≡ replicate copies (get_or (insert (set keys 0 m) (i + 1) j) 8 []) = subst
    (λ s. texts ≡ replicate copies (get_or (insert (set keys 0 m) s j) 8 [])) (sym one) b in
    subst (λ s. texts ≡ replicate copies (get_or (insert (set keys s m) (i + 1) j) 8 [])) (sym nil) c
  where
    clash : (b : Bool) → b ≡ false → b ≡ true → ⊥
    clash true e f = cc
    clash false e f = cc

    none : (i : ℕ) → ((d : Bytes) → 0 < i → is_above (get_or keys i d) key ≡ false)
        → is_above (get_or keys i []) key ≡ true → i ≡ 0
    none zero f g = refl
    none (suc i) f g = absurd (clash (is_above (get_or keys (suc i) []) key) (f [] (omega arith)) g)

pub filled_kids : (below : ℕ) (es : Kids) → 0 < length es → AllKids below es → 0 < length (kids_pieces below es)
filled_kids below [] l h = absurd (omega arith)
filled_kids below (e ∷ es) l h = by e.1 h.0
  where
    some : (k : Bytes) (ps qs : List Piece) → HeadIs k ps → 0 < length (ps ++ qs)
    some k [] qs h = absurd h
    some k (p ∷ ps) qs h = omega arith

    by : (c : OwnChild) → IsChild below e.0 c → 0 < length (child_pieces below e.0 c ++ kids_pieces below es)
    by (Placed at) i = omega arith
    by (Own m) i = some e.0 m.value.pieces (kids_pieces below es) i.1

pub filled_pairs : (ks vs : List Bytes) → length vs ≡ length ks → 0 < length ks → 0 < length (row_pieces (paired ks vs))
filled_pairs [] vs l z = z
filled_pairs (k ∷ ks) [] l z = absurd (omega arith)
filled_pairs (k ∷ ks) (v ∷ vs) l z = omega arith

pub length-pairs : (keys : List Bytes) (kids : List OwnChild) → length kids ≡ length keys → 0 < length keys
    → 0 < length (paired keys kids)
length-pairs [] kids l z = z
length-pairs (k ∷ ks) [] l z = absurd (omega arith)
length-pairs (k ∷ ks) (x ∷ xs) l z = omega arith

-- the child at a place of an inner chunk
pub node_at : (p : Contents) (depth : ℕ) (keys : List Bytes) (body : Body) (kids : _) (pieces : List Piece)
    (slice : List Bytes) (key : Bytes) (i : ℕ) (d : OwnChild)
    → body_pieces depth keys body ≡ pieces → body ≡ Inner kids → IsNode depth keys body → slice ≡ keys
    → IsPlace key slice i
    → IsTree (shown p pieces) → (x : Down p depth keys kids.items pieces key i (get_or kids.items i d))
    × (slice_get kids.items i ≡ Some (get_or kids.items i d)) × IsNode depth keys (Inner kids) × IsPlace key keys i
node_at p depth keys body kids pieces slice key i d v e inv s q o =
    let h : IsNode depth keys (Inner kids) = subst (IsNode depth keys) e inv in
    let r : IsPlace key keys i = subst (λ w. IsPlace key w i) s q in
    let g = got kids.items i d (omega (arith, r.0, h.1.2)) in (
      down p depth keys kids.items pieces key i (get_or kids.items i d) h.1.2 h.1.3
          (sym v ∙ ap (body_pieces depth keys) e) r g o,
      g,
      h,
      r,
    )

has_depth : (below : ℕ) (first : Bytes) (c : OwnChild) → IsChild below first c → HasDepth below c
has_depth below first (Placed at) h = tt
has_depth below first (Own n) h = h.0

pub child_requires : (p : Contents) (depth : ℕ) (keys : List Bytes) (kids kids2 : List OwnChild) (pieces : List Piece)
    (key : Bytes) (i : ℕ) (child : OwnChild)
    → (d : Down p depth keys kids pieces key i child) → slice_get kids i ≡ Some child → kids2 ≡ kids → (c : OwnChild)
    → slice_get kids2 i ≡ Some c
    → IsTree (child_rows p (depth - 1) c) × HasDepth (depth - 1) c
child_requires p depth keys kids kids2 pieces key i child d g e c h =
    let same : child ≡ c = some_is (sym g ∙ ap (λ w. slice_get w i) (sym e) ∙ h) in
    subst (λ x. IsTree (child_rows p (depth - 1) x) × HasDepth (depth - 1) x) same (
      tree_of (child_rows p (depth - 1) child) d.way.here d.way.here_is d.way.strict,
      has_depth (depth - 1) d.first child d.all.1,
    )

-- one answer from what is known of it
pub if_ok : {A E F : Type 0} {P Q S : A → Type 0} (r : Result A E) → IfOk r P → IfOk r Q → OnOk r F
    → ((x : A) → P x → Q x → F → S x) → IfOk r S
if_ok (Ok x) p q f g = g x p q f
if_ok (Err e) p q f g = tt

pub indexed_child : (kids : List OwnChild) (i : ℕ) (child c : OwnChild) → i < length kids → child ≡ get_or kids i child
    → slice_get kids i ≡ Some c → c ≡ child
indexed_child kids i child c l e h = some_is (sym h ∙ got kids i child l) ∙ sym e

pub done_at : (q : Contents) (below : ℕ) (es : Kids) (x : Option Rows) (rows : Rows) (key v : Bytes) (ps : List Piece)
    → x ≡ Some rows → ps ≡ kids_pieces below es
    → shown q (kids_pieces below es) ≡ Some (put (slice_cmp nat_cmp) key v rows)
    → shown q ps ≡ Some (put (slice_cmp nat_cmp) key v (rows_or x))
done_at q below es x rows key v ps e f h = ap (shown q) f ∙ h ∙ ap
    (λ z. Some (put (slice_cmp nat_cmp) key v (rows_or z))) (sym e)

-- WHAT WAS TAKEN FOR A SPLIT

pub ninth_lowered_in : (copies : ℕ) (keys : List Bytes) (i : ℕ) (key : Bytes) (lower : Option Bytes) (room : TakenRoom)
    → IsPlace key keys i → IsLower key (get_or keys i []) lower → AreNinthIn copies keys (i + 1) key room → (k : Bytes)
    → (i + 1 ≡ 8 → ⊥) → AreNinthIn copies (lowered i lower keys) (i + 1) k room
ninth_lowered_in copies keys i key lower None p low n k z = tt
ninth_lowered_in copies keys i key lower (Some room) p low n k z =
    ninth_lowered copies keys i key lower room.value.firsts.items p low n k z

pub room_opened : (entries : ℕ) (taken : TakenRoom) (room : SplitBuffers OwnChild) → HasRoomIn entries taken
    → IsRoomTaken taken room → HasRoom entries room
room_opened entries None room h is = record {
  empty = is;
  spare = λ full. absurd (h full);
  home = λ full. absurd (h full);
}
room_opened entries (Some taken) room h is = subst (HasRoom entries) (sym is) h

pub ninth_opened : (copies : ℕ) (keys : List Bytes) (place : ℕ) (key : Bytes) (taken : TakenRoom)
    (room : SplitBuffers OwnChild) → HasRoomIn (length keys) taken → IsRoomTaken taken room
    → AreNinthIn copies keys place key taken → AreNinth copies keys place key room.firsts.items
ninth_opened copies keys place key None room h is n = λ full. absurd (h (omega (arith, full)))
ninth_opened copies keys place key (Some taken) room h is n =
    subst (λ w. AreNinth copies keys place key w.firsts.items) (sym is) n
