-- A value replaced below a chunk, and the map once a value is put.
use Rattle.std.proofs.Common.{◌≡◌, ◌<◌, ◌-◌, ℕ, List, [], ◌∷◌, ◌++◌, Option, Some, None, length, slice_get, set, get_or}
use Rattle.std.proofs.Common.{inl, inr, refl, sym, ap, ◌∙◌, subst, arith, append-nil, length-set, nat_cmp, cond, drop}
use Rattle.std.proofs.Common.{Ordering, Less, Equal, Greater, is_eq}
use Rattle.std.specs.Prelude.{IsSome}
use Rattle.std.specs.Cmp.Lexicographic.{slice_cmp}
use Rattle.std.specs.FinMap.{find, put}
use Rattle.std.specs.FinMap.Entries.{by_order}
use mathlib.Core.List.{IsPrefix}
use Rattle.group_history.proofs.Pairs.{keys_of-paired, values_of-paired}
use Rattle.group_history.specs.declared.refs.Ref.{Ref}
use Rattle.group_history.specs.Map.{Bytes}
use Rattle.group_history.specs.Rows.{Rows, keys_of, paired, values_of}
use Rattle.group_history.specs.Spelling.{Contents}
use Rattle.map_chunks.proofs.JoinLemmas.{some_is}
use Rattle.map_chunks.proofs.KeptLemmas.{kept-same}
use Rattle.map_chunks.proofs.OpenLemmas.{find-way, known}
use Rattle.map_chunks.proofs.RowLemmas.{cmp, find-above, AllAbove-less, IsStrict}
use Rattle.map_chunks.specs.Places.{AreKept, places_of}
use Rattle.map_chunks.specs.Search.{IsPlace}
use Rattle.map_chunks.specs.Shown.{Piece, Seen, IsTree, child_keys, rows_or, shown}
use Rattle.map_nodes.proofs.ChangeLemmas.{none_there, shown-kept}
use Rattle.map_nodes.proofs.CountLemmas.{wide_kept}
use Rattle.map_nodes.proofs.KeptLevels.{levels-set, topped_changed}
use Rattle.map_nodes.proofs.LevelLemmas.{changed_as}
use Rattle.map_nodes.proofs.NamedLemmas.{kept-front}
use Rattle.map_nodes.proofs.NodeLemmas.{Down}
use Rattle.map_nodes.proofs.PathLemmas.{length-lowered}
use Rattle.map_nodes.proofs.PutLevels.{lowered-parting, put_level, put_risen, put_same}
use Rattle.map_nodes.specs.Inside.Counts.{HasKept}
use Rattle.map_nodes.specs.Inside.Halves.{half_pieces, lowered, with_half, IsLower, IsTopped}
use Rattle.map_nodes.specs.Inside.Nodes.{child_rows}
use Rattle.map_nodes.specs.Inside.Puts.{shown_at, ChildReplaced, HalvesPut, HasReplaced, IsHalved, IsOwnPut}
use Rattle.map_nodes.specs.Levels.{parting, seen_levels, topped, IsRenewed, RenewedLater}
use Rattle.map_nodes.specs.Nodes.{kids_levels}
use Rattle.map_nodes.specs.Others.{ArePutAmong}
use Rattle.map_nodes.specs.Updating.{IsPutOn}
use Rattle.map_nodes.specs.declared.nodes.OwnChild.{OwnChild}
use Rattle.map_nodes.specs.declared.nodes.OwnChild.TheVariants.{Own}
use Rattle.map_nodes.specs.declared.nodes.putting.Half.{Half}

-- BELOW A CHUNK

-- the child to which the key belongs has the value at it
pub value_below : (p : Contents) (depth : ℕ) (keys : List Bytes) (kids : List OwnChild) (pieces : List Piece)
    (key : Bytes) (i : ℕ) (child : OwnChild) → (d : Down p depth keys kids pieces key i child)
    → shown_at (child_rows p (depth - 1) child) key ≡ shown_at (shown p pieces) key
value_below p depth keys kids pieces key i child d =
    ap (λ z. shown_at z key) d.way.here_is ∙ find-way key _ _ _ _ d.rows d.way
    ∙ ap (λ z. shown_at z key) (sym d.rows_is)

-- a chunk over chunks, where a value was replaced below one of them
pub inner_replaced : (q : Contents) (depth : ℕ) (keys now : List Bytes) (kids put all : List OwnChild) (key : Bytes)
    (i : ℕ) (child : OwnChild) (lower : Option Bytes) (half made : Option Half) (found : Option Bytes) (v : Bytes)
    → 0 < depth → length kids ≡ length keys → slice_get kids i ≡ Some child → IsPlace key keys i
    → IsLower key (get_or keys i []) lower → ChildReplaced q found v (depth - 1) i kids put child half
    → IsHalved depth now all made (keys_of (with_half i half (paired (lowered i lower keys) put)))
    (values_of (with_half i half (paired (lowered i lower keys) put)))
    → (half ≡ None → made ≡ None)
    → HasReplaced q found v depth
    (λ p. topped (None, parting keys) (kids_levels (depth - 1) kids p))
    (λ p. topped (None, parting now) (kids_levels (depth - 1) all p)) made
inner_replaced q depth keys now kids put all key i child lower half made found v above l g place low c parted whole t =
    let b = depth - 1 in
    let n = c.0 in
    let r = c.2 t in
    let none = whole r.1 in
    let ks = lowered i lower keys in
    let m : length put ≡ length ks =
    ap length c.1 ∙ length-set kids i (Own n) ∙ l ∙ sym (length-lowered i lower keys) in
    let alone : IsHalved depth now all None (keys_of (paired ks put)) (values_of (paired ks put)) =
    subst (λ h. IsHalved depth now all None (keys_of (with_half i h (paired ks put)))
    (values_of (with_half i h (paired ks put)))) r.1
    (subst (λ h. IsHalved depth now all h (keys_of (with_half i half (paired ks put)))
    (values_of (with_half i half (paired ks put)))) none parted) in
    let new = set kids i (Own n) in
    let all_are : all ≡ new = alone.1 ∙ values_of-paired ks put m ∙ c.1 in
    let shape : parting now ≡ parting keys = ap (λ w. child_keys (drop 1 w)) (alone.0 ∙ keys_of-paired ks put m)
    ∙ ap (λ w. child_keys w) (lowered-parting keys key i lower place low) in (
      r.0,
      none,
      λ later pre level.
          let was = kids_levels b kids later in
          let then = kids_levels b new later in
          changed_as (level < depth) IsRenewed (topped (None, parting keys) was level)
          (topped (None, parting keys) then level)
          (topped (None, parting keys) was level) (topped (None, parting now) (kids_levels b all later) level) refl
          (ap (λ w. topped (None, w) (kids_levels b all later) level) shape
          ∙ ap (λ w. topped (None, parting keys) (kids_levels b w later) level) all_are)
          (topped_changed IsRenewed b depth (None, parting keys) was then (omega (arith, above))
          (λ k. levels-set (k < b) IsRenewed later b kids i child (Own n) k g (r.2 later pre k)) level),
    )

-- A WHOLE MAP

-- a value that is there is put in vain
pub put-same : (key v : Bytes) (rows : Rows) → IsStrict rows → find (slice_cmp nat_cmp) key rows ≡ Some v
    → put (slice_cmp nat_cmp) key v rows ≡ rows
put-same key v [] o f = absurd cc
put-same key v (r ∷ rs) o f = by (cmp key r.0) refl f (put-same key v rs o.1)
  where
    by : (c : Ordering) → cmp key r.0 ≡ c → cond (is_eq c) (Some r.1) (find (slice_cmp nat_cmp) key rs) ≡ Some v
        → (find (slice_cmp nat_cmp) key rs ≡ Some v → put (slice_cmp nat_cmp) key v rs ≡ rs)
        → by_order c ((key, v) ∷ r ∷ rs) ((r.0, v) ∷ rs) (r ∷ put (slice_cmp nat_cmp) key v rs) ≡ r ∷ rs
    by Less e f g =
        let none = find-above key rs (AllAbove-less key r.0 rs e o.0) in
        absurd (none_there (find (slice_cmp nat_cmp) key rs) (subst IsSome (sym f) refl) none)
    by Equal e f g = ap (λ w. (r.0, w) ∷ rs) (sym (some_is f))
    by Greater e f g = ap (λ w. r ∷ w) (g f)

-- a map that has the value already
pub put_unchanged : (p q : Contents) (may : Ref → Type 0) (key v : Bytes) (n o : Seen) → IsPrefix p q
    → IsTree (shown p n.pieces) → shown_at (shown p n.pieces) key ≡ Some v → o ≡ n
    → IsPutOn p q may key v n o
put_unchanged p q may key v n o pre tree found e = subst (IsPutOn p q may key v n) (sym e) (record {
  same = λ f. refl;
  shown_is = let k = known (shown p n.pieces) tree in
      shown-kept p q n.pieces k.rows pre k.is
      ∙ ap (λ w. Some w) (sym (put-same key v k.rows k.order
      (ap (λ z. shown_at z key) (sym k.is) ∙ found)))
      ∙ ap (λ z. Some (put (slice_cmp nat_cmp) key v (rows_or z))) (sym k.is);
  levels = put_same q n.depth n.depth (seen_levels n) (seen_levels n) refl (kept n);
  kept = λ t. kept n;
  others = λ other. absurd (other found);
  wide = λ w. w;
  places_are = kept-same may (places_of n.pieces);
})
  where
    kept : (n : Seen) → RenewedLater q n.depth (seen_levels n) (seen_levels n)
    kept n later pre level = inl refl

-- a root that isn't split
pub put_whole : (p q : Contents) (may : Ref → Type 0) (key v : Bytes) (n o : Seen) (half : Option Half) → half ≡ None
    → o.depth ≡ n.depth
    → IsOwnPut q key v (shown p n.pieces) n.pieces o.pieces n.depth (seen_levels n) (seen_levels o) half
    → AreKept may (places_of n.pieces) (places_of (o.pieces ++ half_pieces half))
    → HasKept n.entries o.entries half → HalvesPut q n o half → IsPutOn p q may key v n o
put_whole p q may key v n o half e d made kept entries levels = record {
  same = λ f. absurd ((made.renewed (subst IsSome (sym f) refl)).0 f);
  shown_is = ap (shown q) (sym whole) ∙ made.shown_is;
  levels = put_level q n.depth (seen_levels n) o half e d levels;
  kept = λ t. (made.renewed t).2;
  others = λ other. subst (ArePutAmong q key v n.pieces) whole made.others;
  wide = wide_kept n o half e d entries;
  places_are = kept-front may (places_of n.pieces) o.pieces (half_pieces half) kept;
}
  where
    whole : o.pieces ++ half_pieces half ≡ o.pieces
    whole = ap (λ h. o.pieces ++ half_pieces h) e ∙ append-nil o.pieces

-- a root, or the one above its halves
pub put_topped : (p q : Contents) (may : Ref → Type 0) (key v : Bytes) (n s o : Seen) (half : Option Half)
    → s.depth ≡ n.depth
    → IsOwnPut q key v (shown p n.pieces) n.pieces s.pieces n.depth (seen_levels n) (seen_levels s) half
    → AreKept may (places_of n.pieces) (places_of (s.pieces ++ half_pieces half))
    → HasKept n.entries s.entries half → HalvesPut q n s half → IsTopped s half o → IsPutOn p q may key v n o
put_topped p q may key v n s o None d made kept entries levels top = subst (IsPutOn p q may key v n) (sym top)
    (put_whole p q may key v n s None refl d made kept entries levels)
put_topped p q may key v n s o (Some h) d made kept entries levels top =
    let split : IsSome (shown_at (shown p n.pieces) key) → ⊥ =
    λ there. (let e : Some h ≡ None = (made.renewed there).1 in absurd cc) in
    record {
      same = λ found. absurd (split (subst IsSome (sym found) refl));
      shown_is = ap (shown q) top.0 ∙ made.shown_is;
      levels = put_risen q n.depth (seen_levels n) s o h d top.1 top.3 levels;
      kept = λ there. absurd (split there);
      others = λ other. subst (ArePutAmong q key v n.pieces) (sym top.0) made.others;
      wide = λ w. inr (omega (arith, top.2));
      places_are = subst (λ ps. AreKept may (places_of n.pieces) (places_of ps)) (sym top.0) kept;
    }
