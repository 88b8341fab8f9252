-- What a put makes of a leaf.
use Rattle.std.proofs.Common.{◌≡◌, ◌∙◌, ◌<◌, ◌++◌, ◌∷◌, ℕ, zero, suc, Bool, List, [], Option, Some, None, append-nil}
use Rattle.std.proofs.Common.{ap, arith, false, inl, inr, length, nat_cmp, not, refl, reverse, slice_get, subst, sym}
use Rattle.std.proofs.Common.{true}
use Rattle.std.proofs.Common.{Result, Ok, Err}
use Rattle.std.specs.Option.{is_some}
use Rattle.std.specs.Result.{OnOk}
use Rattle.std.specs.Arc.{arc_value}
use Rattle.std.specs.Cmp.Lexicographic.{slice_cmp}
use Rattle.std.specs.FinMap.{find, put}
use mathlib.Core.List.{IsPrefix}
use Rattle.group_history.specs.declared.mutators.Update.{Update}
use Rattle.group_history.specs.declared.mutators.Update.TheVariants.{Put}
use Rattle.group_history.specs.declared.nodes.Chunk.TheVariants as chunked
use Rattle.group_history.specs.declared.refs.Ref.{Ref}
use Rattle.group_history.specs.Map.{Bytes}
use Rattle.group_history.specs.Naming.{chunk_content}
use Rattle.group_history.specs.Refs.{stamp_of}
use Rattle.group_history.specs.Rows.{AreKeys, Rows, keys_of, paired}
use Rattle.group_history.specs.Spelling.{Contents}
use Rattle.group_history.proofs.Pairs.{keys_of-paired}
use Rattle.map_chunks.proofs.KeptLemmas.{kept-none}
use Rattle.map_chunks.proofs.ListLemmas.{length-paired}
use Rattle.map_chunks.proofs.SearchLemmas.{length-keys_of}
use Rattle.map_chunks.proofs.WayLemmas.{leaf_is}
use Rattle.map_chunks.specs.Places.{AreKept, places_of}
use Rattle.map_chunks.specs.Search.{IsFound}
use Rattle.map_chunks.specs.Seeking.{chunk_depth}
use Rattle.map_chunks.specs.Shown.{chunk_rows, leaf_keys, own, rows_or, shown, IsTree, Seen, Shape}
use Rattle.map_nodes.proofs.ChangeLemmas.{none_there}
use Rattle.map_nodes.proofs.KeptLevels.{placed_leaf, still}
use Rattle.map_nodes.proofs.LeafRows.{found_among, keys_stay}
use Rattle.map_nodes.proofs.LevelLemmas.{leaf-levels}
use Rattle.map_nodes.proofs.NamedLemmas.{places-rows}
use Rattle.map_nodes.proofs.NodeLemmas.{shown-rows}
use Rattle.map_nodes.proofs.PutLevels.{leaf_put_levels, put_as, put_copied}
use Rattle.map_nodes.specs.Inside.Counts.{HasKept}
use Rattle.map_nodes.specs.Inside.Halves.{half_pieces, IsHalf}
use Rattle.map_nodes.specs.Inside.Nodes.{Kid}
use Rattle.map_nodes.specs.Inside.Laying.{rows_seen, IsLeafEnd, IsBuilt, IsMadeLeaf, IsPutEnd, IsChunkEnd}
use Rattle.map_nodes.specs.Inside.Puts.{half_levels, IsLeafPut}
use Rattle.map_nodes.specs.Levels.{levels_of, nothing, placed_levels, seen_levels, topped, ArePut}
use Rattle.map_nodes.specs.Levels.{RenewedLater}
use Rattle.map_nodes.specs.Nodes.{row_pieces}
use Rattle.map_nodes.specs.Trails.{leaf_seen, trail_seen, IsTrail, IsTrailEnd}
use Rattle.map_nodes.specs.declared.nodes.putting.Half.{Half}
use Rattle.map_nodes.specs.declared.nodes.trails.End.{End}
use Rattle.map_nodes.specs.declared.nodes.trails.laying.Laying.{Laying}
use Rattle.map_nodes.specs.declared.nodes.trails.laying.Reached.{Reached}
use Rattle.map_nodes.specs.declared.nodes.trails.laying.Reached.TheVariants.{Same, Refused, Laid, Grown}

-- A LEAF MADE

length-row_pieces : (rows : Rows) → length (row_pieces rows) ≡ length rows
length-row_pieces [] = refl
length-row_pieces (r ∷ rows) = ap suc (length-row_pieces rows)

-- a leaf with another value at a key that is there
pub made_replaced : (copies : ℕ) (rows : Rows) (key v : Bytes) (i : ℕ) (e : End) → AreKeys (keys_of rows)
    → IsFound key (keys_of rows) i → IsPutEnd rows key v e → IsMadeLeaf copies rows key v (leaf_seen e) None
made_replaced copies rows key v i e o f h =
    let keys = arc_value e.keys in
    let values = e.values.items in
    let same : keys ≡ keys_of rows = sym (keys_of-paired keys values h.0.1) ∙ ap keys_of h.1
    ∙ keys_stay rows key v i (found_among rows key i o f) in
    let long : length keys ≡ length rows = ap length same ∙ length-keys_of rows in
    let some : 0 < length keys = omega (arith, ap length same, f.0) in
    record {
      depth_is = refl;
      pieces_are = append-nil (row_pieces (paired keys values)) ∙ ap row_pieces h.1;
      half_is = tt;
      filled = omega (arith, length-row_pieces (paired keys values), length-paired keys values h.0.1, some);
      keys = (keys, refl, inl long, inl (same, refl));
      renewed = λ there. (refl, ap (λ ks. own 0 (leaf_keys ks) ∷ []) same);
    }

-- a leaf with one row more, and its upper half where it was split
pub made_longer : (copies : ℕ) (rows : Rows) (key v : Bytes) (keys values : List Bytes) (half : Option Half)
    → find (slice_cmp nat_cmp) key rows ≡ None
    → row_pieces (paired keys values) ++ half_pieces half ≡ row_pieces (put (slice_cmp nat_cmp) key v rows)
    → IsHalf copies 1 half → length values ≡ length keys → 0 < length keys
    → HasKept (length rows) (length keys) half → IsLeafPut (keys_of rows) keys half
    → IsMadeLeaf copies rows key v (rows_seen keys values) half
made_longer copies rows key v keys values half none p h l some k m = record {
  depth_is = refl;
  pieces_are = p;
  half_is = h;
  filled = omega (arith, length-row_pieces (paired keys values), length-paired keys values l, some);
  keys = (keys, refl, k, m);
  renewed = λ there. absurd (none_there (find (slice_cmp nat_cmp) key rows) there none);
}

pub no_half : (half : Option Half) (none : Bool) → is_some half ≡ not none → none ≡ true → half ≡ None
no_half None none s e = refl
no_half (Some h) true s e = absurd cc
no_half (Some h) false s e = absurd cc

-- what a way ends in at a leaf, where the new one was laid
pub laid_end : {A E : Type 0} (copies : ℕ) (as_trail : Bool) (rows : Rows) (key v : Bytes) (e : End) (l : Laying)
    (r : Result A E) → (find (slice_cmp nat_cmp) key rows ≡ Some v → ⊥) → as_trail ≡ true → IsTrailEnd e
    → IsMadeLeaf copies rows key v (leaf_seen e) None
    → OnOk r ((l.steps.items ≡ []) × (l.end ≡ Some e) × (l.reached ≡ Laid))
    → OnOk r (IsLeafEnd copies as_trail rows key (Put v) l.reached l)
laid_end copies as_trail rows key v e l (Ok x) other trail o m h =
    subst (λ w. IsLeafEnd copies as_trail rows key (Put v) w l) (sym h.2)
    (v, refl, other, trail, h.0, (e, h.1, o, m))
laid_end copies as_trail rows key v e l (Err x) other trail o m h = tt

-- and where an own one was made
pub grown_end : {A E : Type 0} (copies : ℕ) (as_trail : Bool) (rows : Rows) (key v : Bytes) (n : Seen)
    (half : Option Half) (l : Laying) (r : Result A E) → (find (slice_cmp nat_cmp) key rows ≡ Some v → ⊥)
    → IsMadeLeaf copies rows key v n half
    → OnOk r ((kid : Kid) × (kid.value ≡ n) × (l.reached ≡ Grown kid half))
    → OnOk r (IsLeafEnd copies as_trail rows key (Put v) l.reached l)
grown_end copies as_trail rows key v n half l (Ok x) other m h =
    subst (λ w. IsLeafEnd copies as_trail rows key (Put v) w l) (sym h.2)
    (v, refl, other, subst (λ w. IsMadeLeaf copies rows key v w half) (sym h.1) m)
grown_end copies as_trail rows key v n half l (Err x) other m h = tt

-- A PLACED LEAF

-- what is made of a placed leaf with these rows
made_of_placed : (q : Contents) (places : Ref → Type 0) (copies stamp : ℕ) (rows : Rows) (key v : Bytes) (n : Seen)
    (half : Option Half) → slice_get q stamp ≡ Some (chunk_content (chunked.Leaf rows))
    → IsMadeLeaf copies rows key v n half → IsBuilt q places copies stamp 1 rows key v n half
made_of_placed q places copies stamp rows key v n half g m = record {
  depth_is = m.depth_is;
  shown_is = ap (shown q) m.pieces_are ∙ shown-rows q (put (slice_cmp nat_cmp) key v rows);
  half_is = m.half_is;
  filled = m.filled;
  replaced = λ there. ((m.renewed there).0, renewed_levels (m.renewed there).1);
  levels = put_levels;
  kept = subst (AreKept places []) (sym (ap places_of m.pieces_are ∙ places-rows (put (slice_cmp nat_cmp) key v rows)))
      (kept-none places []);
  wide = λ w. inl m.depth_is;
}
  where
    was : Shape
    was = leaf_keys (keys_of rows)

    placed_is : (later : Contents) → IsPrefix q later → (i : ℕ)
        → placed_levels later 1 stamp i ≡ topped (Some stamp, was) nothing i
    placed_is later pre = placed_leaf later 1 stamp rows refl (still q later stamp (chunked.Leaf rows) pre g)

    renewed_levels : n.marks ≡ own 0 was ∷ [] → RenewedLater q 1 (λ p. placed_levels p 1 stamp) (seen_levels n)
    renewed_levels e later pre zero = inr (
      omega arith,
      (
        [],
        (Some stamp, was),
        [],
        was ∷ [],
        placed_is later pre 0,
        ap (λ w. levels_of later w 0) e ∙ leaf-levels later was 0,
        refl,
      ),
    )
    renewed_levels e later pre (suc i) = inl (ap (λ w. levels_of later w (suc i)) e
        ∙ leaf-levels later was (suc i) ∙ sym (placed_is later pre (suc i)))

    put_levels : (later : Contents) → IsPrefix q later → ArePut 1 (placed_levels later 1 stamp)
        (λ level. seen_levels n later level ++ half_levels half later level)
    put_levels later pre =
        let keys = m.keys.0 in
        let placed = placed_is later pre in
        let kept : HasKept (length (keys_of rows)) (length keys) half = subst (λ w. HasKept w (length keys) half)
        (sym (length-keys_of rows)) m.keys.2 in
        put_copied 1 (placed_levels later 1 stamp) (levels_of later (own 0 was ∷ []))
        (λ i. seen_levels n later i ++ half_levels half later i) (omega arith) (
          (Some stamp, was, placed 0, leaf-levels later was 0),
          λ i. leaf-levels later was (suc i) ∙ sym (placed (suc i)),
        )
        (put_as 1 (levels_of later (own 0 was ∷ []))
        (λ i. levels_of later (own 0 (leaf_keys keys) ∷ []) i ++ half_levels half later i)
        (levels_of later (own 0 was ∷ [])) (λ i. seen_levels n later i ++ half_levels half later i) (λ i. refl)
        (λ i. ap (λ w. levels_of later w i ++ half_levels half later i) m.keys.1)
        (leaf_put_levels later (keys_of rows) keys half kept m.keys.3))

-- a placed leaf is one chunk
pub leaf_reached : (q : Contents) (places : Ref → Type 0) (copies : ℕ) (as_trail : Bool) (key : Bytes)
    (at : Ref) (rows : Rows) (u : Update) (r : Reached) (l : Laying) → IsTree (chunk_rows q (stamp_of at))
    → slice_get q (stamp_of at) ≡ Some (chunk_content (chunked.Leaf rows))
    → IsLeafEnd copies as_trail rows key u r l
    → IsChunkEnd q places copies as_trail (stamp_of at) (chunk_depth q (stamp_of at))
    (rows_or (chunk_rows q (stamp_of at))) key u r l
leaf_reached q places copies as_trail key at rows u r l t g h =
    let k = stamp_of at in
    let is = leaf_is q k rows t g in
    subst (λ w. IsChunkEnd q places copies as_trail k w (rows_or (chunk_rows q k)) key u r l) (sym is.1)
    (subst (λ w. IsChunkEnd q places copies as_trail k (Some 1) (rows_or w) key u r l) (sym is.0) (by r h))
  where
    by : (r : Reached) → IsLeafEnd copies as_trail rows key u r l
        → IsChunkEnd q places copies as_trail (stamp_of at) (Some 1) rows key u r l
    by Same h = h
    by (Refused code) h = h
    by Laid h =
        let e = h.5.0 in
        let none = sym (ap reverse h.4) in (
          h.0,
          h.1,
          h.2,
          h.3,
          (
            1,
            refl,
            (
              e,
              h.5.1,
              subst (λ w. IsTrail w e) none h.5.2,
              subst (λ w. IsBuilt q places copies (stamp_of at) 1 rows key h.0 (trail_seen w e) None) none
                  (made_of_placed q places copies (stamp_of at) rows key h.0 (trail_seen [] e) None g h.5.3),
            ),
          ),
        )
    by (Grown n half) h = (
      h.0,
      h.1,
      h.2,
      (1, refl, (omega arith), made_of_placed q places copies (stamp_of at) rows key h.0 n.value half g h.3),
    )
