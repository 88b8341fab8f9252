-- What a removal makes of the chunks of each level.
use Rattle.std.proofs.Common.{◌≡◌, ◌+◌, ◌-◌, ◌<◌, ◌≤◌, ℕ, zero, suc, List, [], ◌∷◌, ◌++◌, Option, Some, None, length}
use Rattle.std.proofs.Common.{append-nil, arith, drop, length-append, get_or, inl, inr, refl, remove, set, slice_get}
use Rattle.std.proofs.Common.{subst, sym, ap, ◌∙◌}
use Rattle.std.specs.Option.{option_or}
use Rattle.std.specs.Prelude.{IsSome}
use mathlib.Core.List.{IsPrefix}
use Rattle.group_history.specs.declared.nodes.Chunk.TheVariants as chunked
use Rattle.group_history.specs.declared.nodes.Node.TheVariants as node
use Rattle.group_history.specs.declared.refs.Ref.{Ref}
use Rattle.group_history.specs.Map.{Bytes}
use Rattle.group_history.specs.Refs.{stamp_of}
use Rattle.group_history.specs.Rows.{Rows, keys_of}
use Rattle.group_history.specs.Spelling.{Contents, rows_at}
use Rattle.group_history.proofs.Lists.{prefix_self, prefix_trans}
use Rattle.map_chunks.proofs.JoinLemmas.{some_is}
use Rattle.map_chunks.proofs.LineLemmas.{one_row, segment-deep}
use Rattle.map_chunks.proofs.OpenLemmas.{chunk_rows-at, known, rows-kept, spells_at}
use Rattle.map_chunks.proofs.SearchLemmas.{length-keys_of}
use Rattle.map_chunks.proofs.Shelves.{some_of}
use Rattle.map_chunks.specs.SecondKeys.{second_key}
use Rattle.map_chunks.specs.Shown.{own, child_keys, chunk_rows, leaf_keys, rows_or, IsTree, Seen, Shape}
use Rattle.map_nodes.proofs.LevelLemmas.{changed_as, changed_beside, changed_copy, changed_may, inner-levels}
use Rattle.map_nodes.proofs.LevelLemmas.{leaf-levels}
use Rattle.map_nodes.proofs.KeptLevels.{levels-set}
use Rattle.map_nodes.specs.Inside.Halves.{lowered}
use Rattle.map_nodes.specs.Inside.Nodes.{child_rows}
use Rattle.map_nodes.specs.Inside.Ends.{Narrows, NarrowsLater}
use Rattle.map_nodes.specs.Inside.Removing.{AreThin, HeirNarrows, IsLeafLeft, IsRootLeft, IsThin, IsThinLater}
use Rattle.map_nodes.specs.Levels.{as_new, levels_of, nothing, parting, topped, AreChanged, AreShrunk, HasOneMore}
use Rattle.map_nodes.specs.Levels.{IsGone, AreRemovedIn, IsCopied, RemovedLater, ShrunkLater, IsShrunk, Levels, Member}
use Rattle.map_nodes.specs.Levels.{node_levels, placed_levels, seen_levels}
use Rattle.map_nodes.specs.Nodes.{body_levels, body_marks, child_levels, kids_levels, kids_marks, sunk}
use Rattle.map_nodes.specs.declared.nodes.Body.{Body}
use Rattle.map_nodes.specs.declared.nodes.Body.TheVariants.{Inner}
use Rattle.map_nodes.specs.declared.nodes.OwnChild.{OwnChild}
use Rattle.map_nodes.specs.declared.nodes.OwnChild.TheVariants.{Placed}
use Rattle.map_nodes.specs.declared.nodes.removing.NewRoot.{NewRoot}
use Rattle.map_nodes.specs.declared.nodes.removing.NewRoot.TheVariants as heir

-- LEVELS

pub shrunk_as : (deep : ℕ) (a b c d : Levels) → ((i : ℕ) → c i ≡ a i) → ((i : ℕ) → d i ≡ b i) → AreShrunk deep a b
    → AreShrunk deep c d
shrunk_as deep a b c d e f h i = changed_as (i < deep) IsShrunk (a i) (b i) (c i) (d i) (e i) (f i) (h i)

-- a chunk alone, and what it became
own_shrunk : (M : Type 0) (old : Member) (made : List Shape) → M → IsShrunk old.1 made
    → AreChanged M IsShrunk (old ∷ []) (as_new made)
own_shrunk M old made may g = inr (may, ([], old, [], made, refl, sym (append-nil (as_new made)), g))

pub thin_as : (n : ℕ) (f g : Levels) → ((i : ℕ) → g i ≡ f i) → AreThin n f → AreThin n g
thin_as zero f g e h = λ i. e i ∙ h i
thin_as (suc n) f g e h = (h.0, e 0 ∙ h.1, h.2, thin_as n (λ i. f (suc i)) (λ i. g (suc i)) (λ i. e (suc i)) h.3)

-- a chunk with at most one entry goes
thin-gone : (n : ℕ) (keys : Shape) → IsThin n keys → IsGone keys []
thin-gone zero (leaf_keys keys) h = (h, refl)
thin-gone zero (child_keys keys) h = absurd h
thin-gone (suc n) (leaf_keys keys) h = absurd h
thin-gone (suc n) (child_keys keys) h = (h, refl)

-- such chunks, one on each level, go
pub thin_shrunk : (n : ℕ) (levels : Levels) → AreThin n levels → AreShrunk n levels nothing
thin_shrunk zero levels h i = inl (sym (h i))
thin_shrunk (suc n) levels h zero =
    changed_as (0 < suc n) IsShrunk (h.0 ∷ []) [] (levels 0) [] h.1 refl
    (own_shrunk (0 < suc n) h.0 [] (omega arith) (inr (inr (inr (thin-gone n h.0.1 h.2)))))
thin_shrunk (suc n) levels h (suc i) =
    changed_may (i < n) (suc i < suc n) IsShrunk (levels (suc i)) [] (λ (l : i < n). omega (arith, l))
    (thin_shrunk n (λ j. levels (suc j)) h.3 i)

-- CHILDREN

-- the chunks of the child at a place are gone
pub kids_gone : (M : Type 0) (q : Contents) (b : ℕ) (xs : List OwnChild) (i : ℕ) (x : OwnChild) (level : ℕ)
    → slice_get xs i ≡ Some x → AreChanged M IsShrunk (child_levels b x q level) []
    → AreChanged M IsShrunk (kids_levels b xs q level) (kids_levels b (remove xs i) q level)
kids_gone M q b [] i x j g h = absurd cc
kids_gone M q b (z ∷ zs) zero x j g h =
    let more = kids_levels b zs q j in
    changed_as M IsShrunk (child_levels b x q j ++ more) more (child_levels b z q j ++ more) more
    (ap (λ w. child_levels b w q j ++ more) (some_is g)) refl
    (changed_beside M IsShrunk [] (child_levels b x q j) [] more h)
kids_gone M q b (z ∷ zs) (suc i) x j g h =
    let first = child_levels b z q j in
    let old = kids_levels b zs q j in
    let new = kids_levels b (remove zs i) q j in
    changed_as M IsShrunk (first ++ (old ++ [])) (first ++ (new ++ [])) (first ++ old) (first ++ new)
    (ap (λ w. first ++ w) (sym (append-nil old))) (ap (λ w. first ++ w) (sym (append-nil new)))
    (changed_beside M IsShrunk first old new [] (kids_gone M q b zs i x j g h))

-- KEYS

-- a key at a place is one more
pub one_less : (keys : List Bytes) (i : ℕ) → i < length keys → HasOneMore (remove keys i) keys
one_less [] i l = absurd (omega (arith, l))
one_less (k ∷ keys) zero l = ([], k, keys, refl, refl)
one_less (k ∷ keys) (suc i) l =
    let r = one_less keys i (omega (arith, l)) in
    (k ∷ r.0, r.1, r.2, ap (λ w. k ∷ w) r.3, ap (λ w. k ∷ w) r.4)

-- a child left
parting_less : (keys : List Bytes) (i : ℕ) → i < length keys → 1 < length keys
    → HasOneMore (drop 1 (remove keys i)) (drop 1 keys)
parting_less [] i l o = absurd (omega (arith, l))
parting_less (k ∷ []) i l o = absurd (omega (arith, o))
parting_less (k ∷ m ∷ keys) zero l o = ([], m, keys, refl, refl)
parting_less (k ∷ m ∷ keys) (suc i) l o = one_less (m ∷ keys) i (omega (arith, l))

-- another key at a place
abbrev HasOther : List Bytes → Bytes → List Bytes → Type 0
HasOther keys next new = (low : List Bytes) × (key : Bytes) × (high : List Bytes) × (keys ≡ low ++ key ∷ high)
    × (new ≡ low ++ next ∷ high)

other_at : (keys : List Bytes) (i : ℕ) (next : Bytes) → i < length keys → HasOther keys next (set keys i next)
other_at [] i next l = absurd (omega (arith, l))
other_at (k ∷ keys) zero next l = ([], k, keys, refl, refl)
other_at (k ∷ keys) (suc i) next l =
    let r = other_at keys i next (omega (arith, l)) in
    (k ∷ r.0, r.1, r.2, ap (λ w. k ∷ w) r.3, ap (λ w. k ∷ w) r.4)

-- CHUNKS

-- a chunk one of whose children left
pub over_gone : (q : Contents) (deep : ℕ) → 0 < deep → (keys nk : List Bytes) (kids ne : List OwnChild) (i : ℕ)
    (x : OwnChild) → i < length keys → 1 < length keys → nk ≡ remove keys i → ne ≡ remove kids i
    → slice_get kids i ≡ Some x → AreThin (deep - 1) (child_levels (deep - 1) x q)
    → AreShrunk deep (topped (None, parting keys) (kids_levels (deep - 1) kids q))
    (topped (None, parting nk) (kids_levels (deep - 1) ne q))
over_gone q deep z keys nk kids ne i x l o ek ee g h zero =
    own_shrunk (0 < deep) (None, parting keys) (parting nk ∷ []) z (inr (inl (
      drop 1 (remove keys i),
      parting_less keys i l o,
      ap (λ w. parting w ∷ []) ek,
    )))
over_gone q deep z keys nk kids ne i x l o ek ee g h (suc level) =
    let b = deep - 1 in
    subst (λ w. AreChanged (suc level < deep) IsShrunk (kids_levels b kids q level) (kids_levels b w q level)) (sym ee)
    (changed_may (level < b) (suc level < deep) IsShrunk (kids_levels b kids q level) _
    (λ (m : level < b). omega (arith, m, z))
    (kids_gone (level < b) q b kids i x level g (thin_shrunk b (child_levels b x q) h level)))

-- a chunk one of whose children stays, under another first key where there is one
stays_top : (M : Type 0) → M → (keys : List Bytes) (i : ℕ) (other : Option Bytes) → i < length keys
    → AreChanged M IsShrunk ((None, parting keys) ∷ []) ((None, parting (lowered i other keys)) ∷ [])
stays_top M may keys i None l = inl refl
stays_top M may [] i (Some next) l = absurd (omega (arith, l))
stays_top M may (k ∷ keys) zero (Some next) l = inl refl
stays_top M may (k ∷ keys) (suc i) (Some next) l =
    let r = other_at keys i next (omega (arith, l)) in
    own_shrunk M (None, parting (k ∷ keys)) (child_keys (set keys i next) ∷ []) may
    (inr (inr (inl (r.0, r.1, next, r.2, r.3, ap (λ w. child_keys w ∷ []) r.4))))

pub over_stays : (q : Contents) (deep : ℕ) → 0 < deep → (keys nk : List Bytes) (kids ne : List OwnChild) (i : ℕ)
    (x y : OwnChild) (other : Option Bytes) → i < length keys → nk ≡ lowered i other keys → ne ≡ set kids i y
    → slice_get kids i ≡ Some x → AreShrunk (deep - 1) (child_levels (deep - 1) x q) (child_levels (deep - 1) y q)
    → AreShrunk deep (topped (None, parting keys) (kids_levels (deep - 1) kids q))
    (topped (None, parting nk) (kids_levels (deep - 1) ne q))
over_stays q deep z keys nk kids ne i x y other l ek ee g h zero =
    subst (λ w. AreChanged (0 < deep) IsShrunk ((None, parting keys) ∷ []) ((None, parting w) ∷ [])) (sym ek)
    (stays_top (0 < deep) z keys i other l)
over_stays q deep z keys nk kids ne i x y other l ek ee g h (suc level) =
    let b = deep - 1 in
    subst (λ w. AreChanged (suc level < deep) IsShrunk (kids_levels b kids q level) (kids_levels b w q level)) (sym ee)
    (changed_may (level < b) (suc level < deep) IsShrunk (kids_levels b kids q level) _
    (λ (m : level < b). omega (arith, m, z))
    (levels-set (level < b) IsShrunk q b kids i x y level g (h level)))

-- a leaf that lost a row, if it had it
leaf_shrunk : (old new : List Bytes) → IsLeafLeft old new
    → AreShrunk 1 (topped (None, leaf_keys old) nothing) (topped (None, leaf_keys new) nothing)
leaf_shrunk old new (inl e) zero = inl (ap (λ w. (None, leaf_keys w) ∷ []) e)
leaf_shrunk old new (inr m) zero =
    own_shrunk (0 < 1) (None, leaf_keys old) (leaf_keys new ∷ []) (omega arith) (inr (inl (new, m, refl)))
leaf_shrunk old new m (suc i) = inl refl

pub leaf_left : (q : Contents) (old new : List Bytes) → IsLeafLeft old new
    → AreShrunk 1 (levels_of q (own 0 (leaf_keys old) ∷ [])) (levels_of q (own 0 (leaf_keys new) ∷ []))
leaf_left q old new m =
    shrunk_as 1 (topped (None, leaf_keys old) nothing) (topped (None, leaf_keys new) nothing)
    (levels_of q (own 0 (leaf_keys old) ∷ [])) (levels_of q (own 0 (leaf_keys new) ∷ []))
    (leaf-levels q (leaf_keys old)) (leaf-levels q (leaf_keys new)) (leaf_shrunk old new m)

-- CHUNKS WITH ONE ROW

few_keys : (keys : List Bytes) → slice_get keys 1 ≡ None → length keys ≤ 1
few_keys [] h = omega arith
few_keys (k ∷ []) h = omega arith
few_keys (k ∷ m ∷ keys) h = absurd cc

-- an own leaf
pub leaf_thin : (p : Contents) (n : Seen) (keys : List Bytes) → n.depth ≡ 1 → n.marks ≡ own 0 (leaf_keys keys) ∷ []
    → slice_get keys 1 ≡ None → IsThinLater p n.depth (seen_levels n)
leaf_thin p n keys d m h =
    subst (λ w. IsThinLater p w (seen_levels n)) (sym d) (
      omega arith,
      λ later pre. thin_as 1 (topped (None, leaf_keys keys) nothing) (seen_levels n later)
          (λ i. ap (λ w. levels_of later w i) m ∙ leaf-levels later (leaf_keys keys) i)
          ((None, leaf_keys keys), refl, few_keys keys h, λ i. refl),
    )

-- a chunk over one child
one_thin : (q : Contents) (b : ℕ) (keys : List Bytes) (kids : List OwnChild) (kid : OwnChild) (levels : Levels)
    → length kids ≡ length keys → 0 < length keys → slice_get keys 1 ≡ None → kid ≡ get_or kids 0 kid → 0 < b
    → ((i : ℕ) → levels i ≡ topped (None, parting keys) (kids_levels b kids q) i) → AreThin b (child_levels b kid q)
    → AreThin (suc b) levels
one_thin q b [] kids kid levels l z h g o v t = absurd (omega (arith, z))
one_thin q b (k ∷ m ∷ keys) kids kid levels l z h g o v t = absurd cc
one_thin q b (k ∷ []) [] kid levels l z h g o v t = absurd (omega (arith, l))
one_thin q b (k ∷ []) (x ∷ y ∷ xs) kid levels l z h g o v t = absurd (omega (arith, l))
one_thin q b (k ∷ []) (x ∷ []) kid levels l z h g o v t = (
  (None, child_keys []),
  v 0,
  thin b o,
  thin_as b (child_levels b kid q) (λ i. levels (suc i))
      (λ i. v (suc i) ∙ append-nil (child_levels b x q i) ∙ ap (λ w. child_levels b w q i) (sym g)) t,
)
  where
    thin : (b : ℕ) → 0 < b → IsThin b (child_keys [])
    thin zero o = absurd (omega (arith, o))
    thin (suc b) o = refl

pub over_thin : (p : Contents) (depth : ℕ) (keys : List Bytes) (kids : List OwnChild) (kid : OwnChild) (n : Seen)
    → n.depth ≡ depth → n.marks ≡ own 0 (parting keys) ∷ sunk (kids_marks (depth - 1) kids) → 0 < depth
    → length kids ≡ length keys → 0 < length keys → slice_get keys 1 ≡ None → kid ≡ get_or kids 0 kid
    → IsThinLater p (depth - 1) (child_levels (depth - 1) kid) → IsThinLater p n.depth (seen_levels n)
over_thin p depth keys kids kid n d m z l o h g t =
    subst (λ w. IsThinLater p w (seen_levels n)) (let e : suc (depth - 1) ≡ n.depth = omega (arith, d, z) in e) (
      omega arith,
      λ later pre. one_thin later (depth - 1) keys kids kid (seen_levels n later) l o h g t.0
          (λ i. ap (λ w. levels_of later w i) m ∙ inner-levels later (depth - 1) (parting keys) kids i)
          (t.1 later pre),
    )

-- a placed chunk
placed_thin : (q : Contents) (b k : ℕ) (rows : Rows) → rows_at q b k ≡ Some rows → second_key rows ≡ None
    → (0 < b) × AreThin b (placed_levels q b k)
placed_thin q zero k rows h n = elim (one_row q zero k rows h n) [
  | inl r ↦ absurd (omega (arith, r.2))
  | inr r ↦ absurd (omega (arith, r.4))
]
placed_thin q (suc b) k rows h n = elim (one_row q (suc b) k rows h n) [
  | inl r ↦ (omega arith, leaf b r.0 r.1 (omega (arith, r.2)) r.3)
  | inr r ↦ (let t = placed_thin q b r.1 rows
      (subst (λ d. rows_at q d r.1 ≡ Some rows) (let e : r.2 ≡ b = omega (arith, r.4) in e) r.5) n in
      (omega arith, inner b r.0 r.1 r.3 t.0 t.1))
]
  where
    leaf : (b : ℕ) (rs : Rows) → slice_get q k ≡ Some (node.Chunk (chunked.Leaf rs)) → b ≡ 0 → length rs ≤ 1
        → AreThin (suc b) (placed_levels q (suc b) k)
    leaf zero rs g e l = (
      (Some k, leaf_keys (keys_of rs)),
      ap (λ o. node_levels k (placed_levels q 0) o 0) g,
      omega (arith, l, length-keys_of rs),
      λ i. ap (λ o. node_levels k (placed_levels q 0) o (suc i)) g,
    )
    leaf (suc b) rs g e l = absurd (omega (arith, e))

    inner : (b : ℕ) (key : Bytes) (child : ℕ)
        → slice_get q k ≡ Some (node.Chunk (chunked.Inner ((key, child) ∷ []))) → 0 < b
        → AreThin b (placed_levels q b child) → AreThin (suc b) (placed_levels q (suc b) k)
    inner zero key child g o t = absurd (omega (arith, o))
    inner (suc b) key child g o t = (
      (Some k, child_keys []),
      ap (λ o. node_levels k (placed_levels q (suc b)) o 0) g,
      refl,
      thin_as (suc b) (placed_levels q (suc b) child) (λ i. placed_levels q (suc (suc b)) k (suc i))
          (λ i. ap (λ o. node_levels k (placed_levels q (suc b)) o (suc i)) g
          ∙ append-nil (placed_levels q (suc b) child i)) t,
    )

pub kid_thin : (p q : Contents) (below : ℕ) (kid : OwnChild) (at : Ref) (key : Option Bytes) → IsPrefix p q
    → kid ≡ Placed at → IsSome (child_rows p below kid)
    → key ≡ second_key (rows_or (chunk_rows p (stamp_of at))) → key ≡ None
    → IsThinLater q below (child_levels below kid)
kid_thin p q below kid at key pre e s k n =
    let r = some_of (child_rows p below kid) s in
    let here : rows_at p below (stamp_of at) ≡ Some r.0 = ap (child_rows p below) (sym e) ∙ r.1 in
    let none : second_key r.0 ≡ None = ap (λ w. second_key (rows_or w))
    (sym (chunk_rows-at p below (stamp_of at) r.0 here)) ∙ sym k ∙ n in
    let now = rows-kept p q below (stamp_of at) r.0 pre here in
    subst (λ w. IsThinLater q below (child_levels below w)) (sym e) (
      (placed_thin q below (stamp_of at) r.0 now none).0,
      λ later z. (placed_thin later below (stamp_of at) r.0 (rows-kept q later below (stamp_of at) r.0 z now) none).1,
    )

pub both_none : (x y : Option Bytes) → option_or x y ≡ None → (x ≡ None) × (y ≡ None)
both_none None y h = (refl, h)
both_none (Some v) y h = absurd cc

-- WHAT IS KNOWN OF A CHUNK

-- a chunk that is copied, and then shrunk
pub shrunk_copied : (deep : ℕ) (was now new : Levels) → 0 < deep → IsCopied was now → AreShrunk deep now new
    → AreShrunk deep was new
shrunk_copied deep was now new = changed_copy IsShrunk (λ keys. inl refl) deep was now new

-- a placed chunk that shows rows is at least 1 deep
pub copied_deep : (p : Contents) (depth stamp : ℕ) → IsTree (rows_at p depth stamp) → 0 < depth
copied_deep p depth stamp t =
    let n = known (rows_at p depth stamp) t in
    let f = spells_at p depth stamp n.rows n.is in
    subst (λ d. 0 < d) f.1 (segment-deep p stamp f.0.segment f.0.is)

-- the chunks of an own one by its keys and children
pub inner_seen_levels : (q : Contents) (depth : ℕ) (keys : List Bytes) (body : Body) (kids : _) (n : Seen)
    → body_marks depth keys body ≡ n.marks → body ≡ Inner kids → (i : ℕ)
    → seen_levels n q i ≡ body_levels depth keys (Inner kids) q i
inner_seen_levels q depth keys body kids n v e i =
    ap (λ w. levels_of q w i) (sym v ∙ ap (body_marks depth keys) e)
    ∙ inner-levels q (depth - 1) (parting keys) kids.items i

-- one row at most, once more is placed
pub thin_since : (p q : Contents) (b : ℕ) (levels : Contents → Levels) → IsPrefix p q → IsThinLater p b levels
    → IsThinLater q b levels
thin_since p q b levels pre h = (h.0, λ later z. h.1 later (prefix_trans p q later pre z))

-- ROOTS

-- what was before and is now, told by other words
pub removed_as : (q : Contents) (was deep : ℕ) (a b c d : Contents → Levels)
    → ((p : Contents) → IsPrefix q p → (i : ℕ) → c p i ≡ a p i)
    → ((p : Contents) → IsPrefix q p → (i : ℕ) → d p i ≡ b p i) → RemovedLater was deep q a b
    → RemovedLater was deep q c d
removed_as q was deep a b c d e f h later pre =
    let r = h later pre in (
      r.0,
      r.1,
      λ level. changed_as (level < deep) IsShrunk (a later (level + r.0)) (b later level) (c later (level + r.0))
          (d later level)
          (e later pre (level + r.0)) (f later pre level) (r.2 level),
      λ level l. omega (arith, ap length (e later pre level), r.3 level l),
    )

pub removed_from : (q : Contents) (was deep : ℕ) (a c new : Contents → Levels)
    → ((p : Contents) → IsPrefix q p → (i : ℕ) → c p i ≡ a p i) → RemovedLater was deep q a new
    → RemovedLater was deep q c new
removed_from q was deep a c new e h = removed_as q was deep a new c new e (λ p pre i. refl) h

-- a root that is copied, and then loses a key
pub removed_copied : (was deep : ℕ) (old mid new : Levels) → 0 < was → IsCopied old mid
    → AreRemovedIn was deep mid new → AreRemovedIn was deep old new
removed_copied was deep old mid new some c h =
    (h.0, h.1, by h.0 h.1 h.2, λ level l. few level (h.3 level l))
  where
    by : (gone : ℕ) → gone + deep ≡ was → AreShrunk deep (λ level. mid (level + gone)) new
        → AreShrunk deep (λ level. old (level + gone)) new
    by zero d h level = subst (λ n. AreChanged (level < deep) IsShrunk (old n) (new level))
        (let e : level ≡ level + 0 = omega arith in e)
        (shrunk_copied deep old mid new (omega (arith, some, d)) c
        (λ i. subst (λ n. AreChanged (i < deep) IsShrunk (mid n) (new i))
        (let e : i + 0 ≡ i = omega arith in e) (h i)) level)
    by (suc gone) d h level = subst (λ n. AreChanged (level < deep) IsShrunk (old n) (new level))
        (let e : suc (level + gone) ≡ level + suc gone = omega arith in e)
        (changed_as (level < deep) IsShrunk (mid (suc (level + gone))) (new level) (old (suc (level + gone)))
        (new level)
        (sym (c.1 (level + gone))) refl
        (subst (λ n. AreChanged (level < deep) IsShrunk (mid n) (new level))
        (let e : level + suc gone ≡ suc (level + gone) = omega arith in e) (h level)))

    few : (level : ℕ) → length (mid level) ≤ 2 → length (old level) ≤ 2
    few zero l = omega (arith, ap length c.0.2)
    few (suc level) l = omega (arith, l, ap length (c.1 level))

-- a map is no deeper once a key is removed
pub removed_low : (q : Contents) (was deep : ℕ) (old new : Contents → Levels) → RemovedLater was deep q old new
    → deep ≤ was
removed_low q was deep old new h = let r = h q (prefix_self q) in omega (arith, r.1)

-- a chunk that stays the root
pub still_root : (q : Contents) (depth : ℕ) (old new : Contents → Levels) → ShrunkLater q depth old new
    → RemovedLater depth depth q old new
still_root q depth old new h later pre = (
  0,
  omega arith,
  λ level. subst (λ n. AreChanged (level < depth) IsShrunk (old later n) (new later level))
      (let e : level ≡ level + 0 = omega arith in e) (h later pre level),
  λ level l. absurd (omega (arith, l)),
)

thin_few : (n : ℕ) (levels : Levels) → AreThin n levels → (level : ℕ) → length (levels level) ≤ 1
thin_few zero levels h i = omega (arith, ap length (h i))
thin_few (suc n) levels h zero = omega (arith, ap length h.1)
thin_few (suc n) levels h (suc i) = thin_few n (λ j. levels (suc j)) h.3 i

narrows_few : (many : ℕ) (f g : Levels) → Narrows many f g → (level : ℕ) → level < many → length (f level) ≤ 1
narrows_few zero f g h i l = absurd (omega (arith, l))
narrows_few (suc many) f g h zero l = omega (arith, ap length h.1)
narrows_few (suc many) f g h (suc i) l = narrows_few many (λ j. f (suc j)) g h.2 i (omega (arith, l))

narrows_below : (many : ℕ) (f g : Levels) → Narrows many f g → (level : ℕ) → f (level + many) ≡ g level
narrows_below zero f g h i = ap f (let e : i + 0 ≡ i = omega arith in e) ∙ h i
narrows_below (suc many) f g h i = ap f (let e : i + suc many ≡ suc (i + many) = omega arith in e)
    ∙ narrows_below many (λ j. f (suc j)) g h.2 i

-- the leaf of one row at most, which is emptied
thin_emptied : (b : ℕ) (levels : Levels) → AreThin (suc b) levels
    → AreShrunk 1 (λ level. levels (level + b)) (topped (None, leaf_keys []) nothing)
thin_emptied zero levels h zero = by h.0.1 h.0.0 h.1 h.2
  where
    by : (keys : Shape) (stamp : Option ℕ) → levels 0 ≡ (stamp, keys) ∷ [] → IsThin 0 keys
        → AreChanged (0 < 1) IsShrunk (levels 0) ((None, leaf_keys []) ∷ [])
    by (child_keys keys) stamp e t = absurd t
    by (leaf_keys []) stamp e t = changed_as (0 < 1) IsShrunk ((stamp, leaf_keys []) ∷ []) ((None, leaf_keys []) ∷ [])
        (levels 0) ((None, leaf_keys []) ∷ []) e refl
        (own_shrunk (0 < 1) (stamp, leaf_keys []) (leaf_keys [] ∷ []) (omega arith) (inl refl))
    by (leaf_keys (k ∷ [])) stamp e t = changed_as (0 < 1) IsShrunk ((stamp, leaf_keys (k ∷ [])) ∷ [])
        ((None, leaf_keys []) ∷ []) (levels 0) ((None, leaf_keys []) ∷ []) e refl
        (own_shrunk (0 < 1) (stamp, leaf_keys (k ∷ [])) (leaf_keys [] ∷ []) (omega arith)
        (inr (inl ([], ([], k, [], refl, refl), refl))))
    by (leaf_keys (k ∷ m ∷ keys)) stamp e t = absurd (omega (arith, t))
thin_emptied zero levels h (suc i) =
    inl (sym (ap levels (let e : suc i + 0 ≡ suc i = omega arith in e) ∙ h.3 i))
thin_emptied (suc b) levels h i =
    subst (λ n. AreChanged (i < 1) IsShrunk (levels n) (topped (None, leaf_keys []) nothing i))
    (let e : suc (i + b) ≡ i + suc b = omega arith in e) (thin_emptied b (λ j. levels (suc j)) h.3 i)

-- the chunks of children, with those of the one that leaves
length-gone : (q : Contents) (b : ℕ) (xs : List OwnChild) (i : ℕ) (x : OwnChild) (level : ℕ)
    → slice_get xs i ≡ Some x → length (kids_levels b xs q level)
    ≡ length (kids_levels b (remove xs i) q level) + length (child_levels b x q level)
length-gone q b [] i x j g = absurd cc
length-gone q b (z ∷ zs) zero x j g =
    omega (
      arith,
      length-append (child_levels b z q j) (kids_levels b zs q j),
      ap (λ w. length (child_levels b w q j)) (some_is g),
    )
length-gone q b (z ∷ zs) (suc i) x j g =
    omega (
      arith,
      length-append (child_levels b z q j) (kids_levels b zs q j),
      length-append (child_levels b z q j) (kids_levels b (remove zs i) q j),
      length-gone q b zs i x j g,
    )

-- a root whose one child left gives way to what that has behind chunks with one child each
root_narrowed : (q : Contents) (b deep : ℕ) (keys : List Bytes) (kids : List OwnChild) (i : ℕ) (x y : OwnChild)
    (new : Contents → Levels) → slice_get kids i ≡ Some x → IsThinLater q b (child_levels b x)
    → remove kids i ≡ y ∷ [] → NarrowsLater q b deep (child_levels b y) new
    → RemovedLater (suc b) deep q (λ p. topped (None, parting keys) (kids_levels b kids p)) new
root_narrowed q b deep keys kids i x y new g t r h later pre =
    let many = h.0 in
    let old = topped (None, parting keys) (kids_levels b kids later) in
    let thin = t.1 later pre in
    let narrow = h.2 later pre in
    let left : (level : ℕ) → kids_levels b (remove kids i) later level ≡ child_levels b y later level =
    λ level. ap (λ w. kids_levels b w later level) r ∙ append-nil (child_levels b y later level) in
    let few : (level : ℕ) → level < suc many → length (old level) ≤ 2 = λ level l. by level l thin narrow left in (
      suc many,
      omega (arith, h.1),
      λ level. changed_as (level < deep) IsShrunk (kids_levels b kids later (level + many))
          (kids_levels b (remove kids i) later (level + many)) (old (level + suc many)) (new later level)
          (ap old (let e : level + suc many ≡ suc (level + many) = omega arith in e))
          (sym (left (level + many) ∙ narrows_below many (child_levels b y later) (new later) narrow level))
          (kids_gone (level < deep) later b kids i x (level + many) g
          (changed_may (level + many < b) (level < deep) IsShrunk (child_levels b x later (level + many)) []
          (λ (l : level + many < b). omega (arith, l, h.1))
          (thin_shrunk b (child_levels b x later) thin (level + many)))),
      few,
    )
  where
    by : (level : ℕ) → level < suc h.0 → AreThin b (child_levels b x later)
        → Narrows h.0 (child_levels b y later) (new later)
        → ((level : ℕ) → kids_levels b (remove kids i) later level ≡ child_levels b y later level)
        → length (topped (None, parting keys) (kids_levels b kids later) level) ≤ 2
    by zero l thin narrow left = omega arith
    by (suc j) l thin narrow left =
        omega (
          arith,
          length-gone later b kids i x j g,
          ap length (left j),
          thin_few b (child_levels b x later) thin j,
          narrows_few h.0 (child_levels b y later) (new later) narrow j (omega (arith, l)),
        )

-- a root with one child, which leaves, gives way to an empty leaf
root_emptied : (q : Contents) (b : ℕ) (keys : List Bytes) (kids : List OwnChild) (i : ℕ) (x : OwnChild) (n : Seen)
    → slice_get kids i ≡ Some x → IsThinLater q b (child_levels b x) → remove kids i ≡ [] → n.depth ≡ 1
    → n.marks ≡ own 0 (leaf_keys []) ∷ []
    → RemovedLater (suc b) n.depth q (λ p. topped (None, parting keys) (kids_levels b kids p)) (seen_levels n)
root_emptied q zero keys kids i x n g t r d m later pre = absurd (omega (arith, t.0))
root_emptied q (suc b) keys kids i x n g t r d m later pre =
    let old = topped (None, parting keys) (kids_levels (suc b) kids later) in
    let thin = t.1 later pre in
    let alone : (level : ℕ) → kids_levels (suc b) kids later level ≡ child_levels (suc b) x later level =
    λ level. one kids i g r level in (
      suc b,
      omega (arith, d),
      λ level. subst (λ w. AreChanged (level < w) IsShrunk (old (level + suc b)) (seen_levels n later level)) (sym d)
          (changed_as (level < 1) IsShrunk (child_levels (suc b) x later (level + b))
          (topped (None, leaf_keys []) nothing level) (old (level + suc b)) (seen_levels n later level)
          (ap old (let e : level + suc b ≡ suc (level + b) = omega arith in e) ∙ alone (level + b))
          (ap (λ w. levels_of later w level) m ∙ leaf-levels later (leaf_keys []) level)
          (thin_emptied b (child_levels (suc b) x later) thin level)),
      λ level l. by level thin alone,
    )
  where
    one : (kids : List OwnChild) (i : ℕ) → slice_get kids i ≡ Some x → remove kids i ≡ [] → (level : ℕ)
        → kids_levels (suc b) kids later level ≡ child_levels (suc b) x later level
    one [] i g r level = absurd cc
    one (z ∷ []) zero g r level = append-nil (child_levels (suc b) z later level) ∙ ap
        (λ w. child_levels (suc b) w later level) (some_is g)
    one (z ∷ []) (suc i) g r level = absurd cc
    one (z ∷ w ∷ zs) zero g r level = absurd cc
    one (z ∷ w ∷ zs) (suc i) g r level = absurd cc

    by : (level : ℕ) → AreThin (suc b) (child_levels (suc b) x later)
        → ((level : ℕ) → kids_levels (suc b) kids later level ≡ child_levels (suc b) x later level)
        → length (topped (None, parting keys) (kids_levels (suc b) kids later) level) ≤ 2
    by zero thin alone = omega arith
    by (suc j) thin alone =
        omega (arith, ap length (alone j), thin_few (suc b) (child_levels (suc b) x later) thin j)

-- a root that gives way
pub root_gone : (q : Contents) (depth : ℕ) (keys nk : List Bytes) (kids ne : List OwnChild) (i : ℕ) (x : OwnChild)
    (h : NewRoot) → 0 < depth → i < length kids → length kids ≤ 2 → slice_get kids i ≡ Some x
    → IsThinLater q (depth - 1) (child_levels (depth - 1) x) → HeirNarrows q (depth - 1) (remove kids i) h
    → IsRootLeft q depth (λ p. topped (None, parting keys) (kids_levels (depth - 1) kids p)) nk ne (Some h)
root_gone q zero keys nk kids ne i x h z l few g t n = absurd (omega (arith, z))
root_gone q (suc b) keys nk kids ne i x h z l few g t n =
    subst (λ w. IsRootLeft q (suc b) (λ p. topped (None, parting keys) (kids_levels w kids p)) nk ne (Some h)) e
    (by (remove kids i) refl (length-less kids i l) h (subst (λ w. HeirNarrows q w (remove kids i) h) (sym e) n)
    (subst (λ w. IsThinLater q w (child_levels w x)) (sym e) t))
  where
    e : b ≡ suc b - 1
    e = omega arith

    length-less : (xs : List OwnChild) (i : ℕ) → i < length xs → length (remove xs i) + 1 ≡ length xs
    length-less [] i l = absurd (omega (arith, l))
    length-less (x ∷ xs) zero l = omega arith
    length-less (x ∷ xs) (suc i) l = omega (arith, length-less xs i (omega (arith, l)))

    by : (left : List OwnChild) → remove kids i ≡ left → length (remove kids i) + 1 ≡ length kids → (h : NewRoot)
        → HeirNarrows q b (remove kids i) h → IsThinLater q b (child_levels b x)
        → IsRootLeft q (suc b) (λ p. topped (None, parting keys) (kids_levels b kids p)) nk ne (Some h)
    by [] r w (heir.Placed at) n t = absurd (subst (λ s. HeirNarrows q b s (heir.Placed at)) r n)
    by [] r w (heir.Own m) n t =
        let k = subst (λ s. HeirNarrows q b s (heir.Own m)) r n in
        root_emptied q b keys kids i x m g t r k.0 k.1
    by (y ∷ []) r w (heir.Placed at) n t =
        let k = subst (λ s. HeirNarrows q b s (heir.Placed at)) r n in
        (k.0, k.1, root_narrowed q b k.0 keys kids i x y (λ p. placed_levels p k.0 (stamp_of at)) g t r k.2)
    by (y ∷ []) r w (heir.Own m) n t =
        root_narrowed q b m.depth keys kids i x y (seen_levels m) g t r
        (subst (λ s. HeirNarrows q b s (heir.Own m)) r n)
    by (y ∷ u ∷ left) r w h n t = absurd (omega (arith, ap length r, w, few))
