-- The way from a placed inner chunk to the child to which a key belongs.
use Rattle.std.proofs.Common.{◌≡◌, ◌<◌, ◌+◌, ℕ, List, Some, length, slice_get, get_or, sym, ap, ◌∙◌, subst, arith}
use Rattle.std.specs.Prelude.{option_map}
use Rattle.std.specs.Ordering.{nat_cmp}
use Rattle.std.specs.Cmp.Lexicographic.{slice_cmp}
use Rattle.std.specs.FinMap.{find}
use mathlib.Core.List.{IsPrefix}
use Rattle.group_history.specs.declared.nodes.Chunk.TheVariants as chunked
use Rattle.group_history.specs.declared.refs.Ref.{Ref}
use Rattle.group_history.specs.Map.{Bytes}
use Rattle.group_history.specs.Naming.{chunk_content}
use Rattle.group_history.specs.Refs.{stamp_of}
use Rattle.group_history.specs.Rows.{Rows, keys_of, values_of}
use Rattle.group_history.specs.Spelling.{Contents, Segment, rows_at}
use Rattle.map_chunks.proofs.JoinLemmas.{some_is}
use Rattle.map_chunks.proofs.OpenLemmas.{known, opened, rows_at-segment, segment-kept, spells_rows}
use Rattle.map_chunks.proofs.RowLemmas.{IsStrict}
use Rattle.map_chunks.proofs.SearchLemmas.{got, length-keys_of, length-values_of}
use Rattle.map_chunks.proofs.SeekLemmas.{Hints, hints}
use Rattle.map_chunks.specs.Search.{IsPlace}
use Rattle.map_chunks.specs.Seeking.{chunk_depth}
use Rattle.map_chunks.specs.Shown.{chunk_rows, rows_or, IsTree}
use Rattle.map_chunks.specs.declared.looks.Hint.TheVariants.{On}

-- the child of an inner chunk to which a key belongs
pub record Way (q : Contents) (key : Bytes) (at below : Ref) : Type 0 where
  pub low : stamp_of below < stamp_of at
  pub tree : IsTree (chunk_rows q (stamp_of below))
  pub same : find (slice_cmp nat_cmp) key (rows_or (chunk_rows q (stamp_of below)))
      ≡ find (slice_cmp nat_cmp) key (rows_or (chunk_rows q (stamp_of at)))
  pub depth : ℕ
  pub depth_is : chunk_depth q (stamp_of below) ≡ Some depth
  pub deeper : chunk_depth q (stamp_of at) ≡ Some (depth + 1)

-- an inner chunk has children
pub filled : (q : Contents) (k : ℕ) (kids : List (Bytes × Ref)) → IsTree (chunk_rows q k)
    → slice_get q k ≡ Some (chunk_content (chunked.Inner kids)) → 0 < length kids
filled q k kids t g =
    let n = known (chunk_rows q k) t in
    let s = spells_rows q k n.rows n.is in
    (opened q k s.segment (chunked.Inner kids) s.is g).filled

pub way : (q : Contents) (key : Bytes) (at below : Ref) (kids : List (Bytes × Ref)) (i : ℕ)
    → IsTree (chunk_rows q (stamp_of at)) → slice_get q (stamp_of at) ≡ Some (chunk_content (chunked.Inner kids))
    → IsPlace key (keys_of kids) i → below ≡ get_or (values_of kids) i below → Way q key at below
way q key at below kids i t g place b =
    let k = stamp_of at in
    let n = known (chunk_rows q k) t in
    let s = spells_rows q k n.rows n.is in
    let order : IsStrict s.segment.rows = subst IsStrict (sym s.rows) n.order in
    let child : slice_get (values_of kids) i ≡ Some below =
    got (values_of kids) i below (omega (arith, length-keys_of kids, length-values_of kids, place.0)) ∙ ap
    (λ w. Some w) (sym b) in
    let l : Hints q key k (Some s.segment.depth) s.segment.rows (On below) = hints q k s.segment (chunked.Inner kids)
    key (On below) s.is g order (i, place, child) in
    record {
      low = l.0;
      tree = l.1;
      same = l.3 ∙ ap (find (slice_cmp nat_cmp) key) (s.rows ∙ ap rows_or (sym n.is));
      depth = l.2.0;
      depth_is = l.2.1;
      deeper = ap (option_map (λ (x : Segment). x.depth)) s.is ∙ l.2.2;
    }

-- the rows of a chunk that is so deep
pub deep_rows : (q : Contents) (k d : ℕ) → IsTree (chunk_rows q k) → chunk_depth q k ≡ Some d
    → rows_at q d k ≡ Some (rows_or (chunk_rows q k))
deep_rows q k d t h =
    let n = known (chunk_rows q k) t in
    let s = spells_rows q k n.rows n.is in
    let e : s.segment.depth ≡ d = some_is (ap (option_map (λ (x : Segment). x.depth)) (sym s.is) ∙ h) in
    ap (λ w. rows_at q w k) (sym e) ∙ rows_at-segment q k s.segment s.is
    ∙ ap (λ w. Some w) (s.rows ∙ ap rows_or (sym n.is))

-- a placed chunk keeps its rows and its depth
pub rows_later : (p q : Contents) (k : ℕ) → IsPrefix p q → IsTree (chunk_rows p k) → chunk_rows q k ≡ chunk_rows p k
rows_later p q k g t =
    let n = known (chunk_rows p k) t in
    let s = spells_rows p k n.rows n.is in
    ap (option_map (λ (x : Segment). x.rows)) (segment-kept p q k s.segment g s.is ∙ sym s.is)

pub depth_later : (p q : Contents) (k : ℕ) → IsPrefix p q → IsTree (chunk_rows p k) → chunk_depth q k ≡ chunk_depth p k
depth_later p q k g t =
    let n = known (chunk_rows p k) t in
    let s = spells_rows p k n.rows n.is in
    ap (option_map (λ (x : Segment). x.depth)) (segment-kept p q k s.segment g s.is ∙ sym s.is)

-- a leaf's rows, and its depth
pub leaf_is : (q : Contents) (k : ℕ) (rows : Rows) → IsTree (chunk_rows q k)
    → slice_get q k ≡ Some (chunk_content (chunked.Leaf rows))
    → (chunk_rows q k ≡ Some rows) × (chunk_depth q k ≡ Some 1)
leaf_is q k rows t g =
    let n = known (chunk_rows q k) t in
    let s = spells_rows q k n.rows n.is in
    let o = opened q k s.segment (chunked.Leaf rows) s.is g in (
      ap (option_map (λ (x : Segment). x.rows)) s.is ∙ ap (λ w. Some w) o.is,
      ap (option_map (λ (x : Segment). x.depth)) s.is ∙ ap (λ w. Some w) o.depth,
    )
