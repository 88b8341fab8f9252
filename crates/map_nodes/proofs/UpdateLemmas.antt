-- What a way down ends in, as what an update makes of a map.
use Rattle.std.proofs.Common.{◌≡◌, ◌++◌, ℕ, [], Option, Some, None, append-nil, inr, refl, sym, ap, ◌∙◌, subst, arith}
use Rattle.std.specs.Prelude.{IsSome}
use Rattle.std.specs.Ordering.{nat_cmp}
use Rattle.std.specs.Cmp.Lexicographic.{slice_cmp}
use Rattle.std.specs.FinMap.{find, put}
use mathlib.Core.List.{IsPrefix}
use Rattle.group_history.specs.declared.mutators.Update.{Update}
use Rattle.group_history.specs.declared.mutators.Update.TheVariants.{Put, Refuse}
use Rattle.group_history.specs.declared.refs.Ref.{Ref}
use Rattle.group_history.specs.Map.{Bytes}
use Rattle.group_history.specs.Rows.{Rows}
use Rattle.group_history.specs.Spelling.{Contents}
use Rattle.map_chunks.proofs.OpenLemmas.{known, tree_of}
use Rattle.map_chunks.proofs.RowLemmas.{IsStrict}
use Rattle.map_chunks.proofs.WayLemmas.{deep_rows, depth_later, rows_later}
use Rattle.map_chunks.specs.Places.{AreKept, places_of}
use Rattle.map_chunks.specs.Seeking.{chunk_depth}
use Rattle.map_chunks.specs.Shown.{Seen, chunk_rows, rows_or, shown, IsTree}
use Rattle.map_nodes.proofs.LeafLemmas.{put-strict}
use Rattle.map_nodes.proofs.PutLevels.{put_level, put_risen}
use Rattle.map_nodes.proofs.WideLemmas.{wide_later}
use Rattle.map_nodes.specs.Inside.Halves.{half_pieces, IsTopped}
use Rattle.map_nodes.specs.Inside.Laying.{IsBuilt}
use Rattle.map_nodes.specs.Levels.{placed_levels}
use Rattle.map_nodes.specs.Updating.{IsPutIn, IsPutRoot, IsUpdated}
use Rattle.map_nodes.specs.declared.nodes.putting.Half.{Half}
use Rattle.map_nodes.specs.declared.roots.Updated.{Updated}

-- what is made of a placed root: a chunk that wasn't split, or a root above both halves
pub made_root : (q : Contents) (may : Ref → Type 0) (k d : ℕ) (key v : Bytes) (rows : Rows) (n root : Seen)
    (half : Option Half) → (find (slice_cmp nat_cmp) key rows ≡ Some v → ⊥) → IsBuilt q may 1 k d rows key v n half
    → IsTopped n half root → IsPutRoot q q may k d rows key v root
made_root q may k d key v rows n root None a m t =
    subst (IsPutRoot q q may k d rows key v) (sym t) (record {
      other = a;
      shown_is = ap (shown q) (sym (append-nil n.pieces)) ∙ m.shown_is;
      levels = put_level q d (λ p. placed_levels p d k) n None refl m.depth_is m.levels;
      kept = λ s. (m.replaced s).1;
      wide = m.wide;
      places_are = subst (λ ps. AreKept may [] (places_of ps)) (append-nil n.pieces) m.kept;
    })
made_root q may k d key v rows n root (Some h) a m t =
    let whole = λ (s : IsSome (find (slice_cmp nat_cmp) key rows)). split_none h (m.replaced s).0 in
    record {
      other = a;
      shown_is = ap (shown q) t.0 ∙ m.shown_is;
      levels = put_risen q d (λ p. placed_levels p d k) n root h m.depth_is t.1 t.3 m.levels;
      kept = λ s. absurd (whole s);
      wide = λ w. inr (omega (arith, t.2));
      places_are = subst (λ ps. AreKept may [] (places_of ps)) (sym t.0) m.kept;
    }
  where
    split_none : (h : Half) → Some h ≡ None → ⊥
    split_none h e = cc

-- what is made shows rows in order
pub made_order : (q : Contents) (may : Ref → Type 0) (copies k d : ℕ) (key v : Bytes) (o : Option Rows) (n : Seen)
    (half : Option Half) → IsTree o → IsBuilt q may copies k d (rows_or o) key v n half
    → IsTree (shown q (n.pieces ++ half_pieces half))
made_order q may copies k d key v o n half t m =
    let r = known o t in
    tree_of (shown q (n.pieces ++ half_pieces half)) (put (slice_cmp nat_cmp) key v (rows_or o)) m.shown_is
    (put-strict key v (rows_or o) (subst (λ w. IsStrict (rows_or w)) (sym r.is) r.order))

-- what was learnt before of what is placed changes nothing
pub updated_since : (p q r : Contents) (may : Ref → Type 0) (k : ℕ) (key : Bytes) (u : Update) (x : Updated)
    → IsPrefix p q → IsTree (chunk_rows p k) → IsUpdated q r may k key u x → IsUpdated p r may k key u x
updated_since p q r may k key (Refuse code) x g t h = h
updated_since p q r may k key (Put v) x g t h = (h.0, by x.root h.1)
  where
    rows : chunk_rows q k ≡ chunk_rows p k
    rows = rows_later p q k g t

    depth : chunk_depth q k ≡ chunk_depth p k
    depth = depth_later p q k g t

    by : (o : Option Seen) → IsPutIn q r may k key v o → IsPutIn p r may k key v o
    by None e = subst (λ w. find (slice_cmp nat_cmp) key (rows_or w) ≡ Some v) rows e
    by (Some n) e =
        let d = e.0 in
        let deep : chunk_depth p k ≡ Some d = sym depth ∙ e.1 in
        let was = deep_rows p k d t deep in
        let s = subst (λ w. IsPutRoot q r may k d (rows_or w) key v n) rows e.2 in (
          d,
          deep,
          record {
            other = s.other;
            shown_is = s.shown_is;
            levels = s.levels;
            kept = s.kept;
            wide = λ w. s.wide (wide_later p q d k (subst IsTree (tree_is p k t ∙ sym was) t) g w);
            places_are = s.places_are;
          },
        )
      where
        tree_is : (p : Contents) (k : ℕ) → IsTree (chunk_rows p k) → chunk_rows p k ≡ Some (rows_or (chunk_rows p k))
        tree_is p k t = let n = known (chunk_rows p k) t in n.is ∙ ap (λ w. Some (rows_or w)) (sym n.is)
