-- A placed chunk with one row.
use Rattle.std.proofs.Common.{◌≡◌, ◌⊎◌, ◌<◌, ◌≤◌, ◌+◌, ℕ, List, [], ◌∷◌, ◌++◌, length, map, Option, Some, None}
use Rattle.std.proofs.Common.{slice_get, append-nil, arith, inl, inr, subst, sym, ap, ◌∙◌}
use Rattle.std.specs.Option.{option_or}
use Rattle.std.specs.Prelude.{option_and_then}
use Rattle.group_history.specs.declared.nodes.Chunk.{Chunk}
use Rattle.group_history.specs.declared.nodes.Chunk.TheVariants.{Leaf, Inner}
use Rattle.group_history.specs.declared.nodes.Node.TheVariants as node
use Rattle.group_history.specs.Folds.{answer}
use Rattle.group_history.specs.Map.{Bytes}
use Rattle.group_history.specs.Rows.{Rows}
use Rattle.group_history.specs.Spelling.{Contents, Segment, Spelled, chunk_in, joined_rows, rows_at, rows_in}
use Rattle.group_history.specs.Spelling.{segment_at, segment_in, sized, spelled}
use Rattle.group_history.proofs.Folding.{and_then-some}
use Rattle.group_history.proofs.Spellings.{segment-content}
use Rattle.map_chunks.specs.SecondKeys.{second_key}
use Rattle.map_chunks.proofs.JoinLemmas.{split_of, some_is}
use Rattle.map_chunks.proofs.OpenLemmas.{rows_in-lift, sized-is, spells_at}
use Rattle.map_chunks.proofs.SecondLemmas.{second-joined}

-- a leaf with at most one row, or a chunk over one child that has these rows
abbrev pub HasOneRow : Contents → ℕ → ℕ → Rows → Type 0
HasOneRow ns depth k rows = ((rs : Rows) × (slice_get ns k ≡ Some (node.Chunk (Leaf rs))) × (depth ≡ 1)
    × (length rs ≤ 1)) ⊎ ((key : Bytes) × (child : ℕ) × (below : ℕ)
    × (slice_get ns k ≡ Some (node.Chunk (Inner ((key, child) ∷ [])))) × (depth ≡ below + 1)
    × (rows_at ns below child ≡ Some rows))

few_rows : (rows : Rows) → second_key rows ≡ None → length rows ≤ 1
few_rows [] h = omega arith
few_rows (r ∷ []) h = omega arith
few_rows (r ∷ s ∷ rows) h = absurd cc

no_none : (x : Option Bytes) (k : Bytes) → option_or x (Some k) ≡ None → ⊥
no_none None k h = cc
no_none (Some v) k h = cc

-- what a chunk is whose rows have no second key
pub one_row : (ns : Contents) (depth k : ℕ) (rows : Rows) → rows_at ns depth k ≡ Some rows → second_key rows ≡ None
    → HasOneRow ns depth k rows
one_row ns depth k rows h n =
    let f = spells_at ns depth k rows h in
    let m = segment-content ns k f.0.segment f.0.is in
    subst (λ d. HasOneRow ns d k rows) f.1
    (by f.0.segment m.0 m.1 m.2 f.0.rows m.3 m.4)
  where
    by : (s : Segment) (c : Chunk ℕ) (pre : Contents) → slice_get ns k ≡ Some (node.Chunk c) → s.rows ≡ rows
        → chunk_in (spelled pre) c ≡ Some s
        → ((j : ℕ) (y : Spelled) → answer (spelled pre) j ≡ Some y → (j < k) × (answer (spelled ns) j ≡ Some y))
        → HasOneRow ns s.depth k rows
    by s (Leaf rs) pre g r is t =
        let z = sized-is (length rs) 1 rs s is in
        inl (rs, g, z.depth_is, few_rows rs (ap second_key (sym z.rows_is ∙ r) ∙ n))
    by s (Inner []) pre g r is t = absurd cc
    by s (Inner (e ∷ es)) pre g r is t =
        let a = and_then-some (segment_in (spelled pre) e.1) (λ (p : Segment).
        option_and_then (sized (length (e ∷ es)) (p.depth + 1))
        (joined_rows (map (λ x. (x.0, rows_in (spelled pre) p.depth x.1)) (e ∷ es)))) s is in
        let d = a.0.depth in
        let b = and_then-some (joined_rows (map (λ x. (x.0, rows_in (spelled pre) d x.1)) (e ∷ es)))
        (sized (length (e ∷ es)) (d + 1)) s a.2 in
        let z = sized-is (length (e ∷ es)) (d + 1) b.0 s b.2 in
        to es d b.0 g b.1 z.depth_is (sym z.rows_is ∙ r)
      where
        to : (es : List (Bytes × ℕ)) (d : ℕ) (rs : Rows) → slice_get ns k ≡ Some (node.Chunk (Inner (e ∷ es)))
            → joined_rows (map (λ x. (x.0, rows_in (spelled pre) d x.1)) (e ∷ es)) ≡ Some rs → s.depth ≡ d + 1
            → rs ≡ rows → HasOneRow ns s.depth k rows
        to [] d rs g j deep same =
            let p = split_of (e.0, rows_in (spelled pre) d e.1) [] rs j in
            let nil : p.back ≡ [] = sym (some_is p.back_is) in
            let whole : p.front ≡ rows = sym (append-nil p.front) ∙ ap (λ w. p.front ++ w) (sym nil) ∙ sym p.whole
            ∙ same in
            inr (
              e.0,
              e.1,
              d,
              g,
              deep,
              (rows_in-lift (spelled pre) (spelled ns) k d e.1 p.front t p.front_is).1 ∙ ap (λ w. Some w) whole,
            )
        to (f ∷ es) d rs g j deep same =
            let p = split_of (e.0, rows_in (spelled pre) d e.1)
            (map (λ x. (x.0, rows_in (spelled pre) d x.1)) (f ∷ es)) rs j in
            absurd (no_none (second_key p.front) f.0 (second-joined (e.0, rows_in (spelled pre) d e.1)
            (map (λ x. (x.0, rows_in (spelled pre) d x.1)) (f ∷ es)) rs p ∙ ap second_key same ∙ n))

-- what spells rows is at least 1 deep
pub segment-deep : (ns : Contents) (k : ℕ) (s : Segment) → segment_at ns k ≡ Some s → 0 < s.depth
segment-deep ns k s h = let m = segment-content ns k s h in by m.0 m.1 m.3
  where
    by : (c : Chunk ℕ) (pre : Contents) → chunk_in (spelled pre) c ≡ Some s → 0 < s.depth
    by (Leaf rs) pre is = omega (arith, (sized-is (length rs) 1 rs s is).depth_is)
    by (Inner []) pre is = absurd cc
    by (Inner (e ∷ es)) pre is =
        let a = and_then-some (segment_in (spelled pre) e.1) (λ (p : Segment).
        option_and_then (sized (length (e ∷ es)) (p.depth + 1))
        (joined_rows (map (λ x. (x.0, rows_in (spelled pre) p.depth x.1)) (e ∷ es)))) s is in
        let d = a.0.depth in
        let b = and_then-some (joined_rows (map (λ x. (x.0, rows_in (spelled pre) d x.1)) (e ∷ es)))
        (sized (length (e ∷ es)) (d + 1)) s a.2 in
        omega (arith, (sized-is (length (e ∷ es)) (d + 1) b.0 s b.2).depth_is)
