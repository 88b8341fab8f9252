-- How deep a placed chunk may be.
use Rattle.std.proofs.Common.{◌≡◌, ◌<◌, ◌≤◌, ◌+◌, ℕ, zero, suc, Bool, true, false, cond, [], ◌∷◌, Option, Some, None}
use Rattle.std.proofs.Common.{length, map, nat_le, refl, sym, ap, ◌∙◌, arith}
use Rattle.std.specs.Prelude.{option_and_then, option_map}
use Rattle.group_history.specs.declared.nodes.Chunk.{Chunk}
use Rattle.group_history.specs.declared.nodes.Chunk.TheVariants.{Leaf, Inner}
use Rattle.group_history.specs.Folds.{answer}
use Rattle.group_history.specs.Rows.{Rows}
use Rattle.group_history.specs.Spelling.{Contents, Spelled, Segment, as_segment, spelled, sized, chunk_in, segment_in}
use Rattle.group_history.specs.Spelling.{rows_in, segment_at, joined_rows}
use Rattle.group_history.proofs.Folding.{and_then-some}
use Rattle.group_history.proofs.Spellings.{segment-content}
use Rattle.map_chunks.proofs.JoinLemmas.{some_is}
use Rattle.map_chunks.specs.Seeking.{chunk_depth}

-- the depth of a chunk of so many entries
sized-depth : (n depth : ℕ) (rows : Rows) (s : Segment) → sized n depth rows ≡ Some s → s.depth ≡ depth
sized-depth n depth rows s h = by (nat_le n 16) h
  where
    by : (u : Bool) → cond u (Some (record { depth = depth; rows = rows })) None ≡ Some s → s.depth ≡ depth
    by true h = ap (λ (x : Segment). x.depth) (sym (some_is h))
    by false h = absurd cc

-- each chunk is above one with a smaller stamp
segment-low : (ns : Contents) (n k : ℕ) (s : Segment) → k < n → segment_at ns k ≡ Some s → s.depth ≤ k + 1
segment-low ns zero k s l h = absurd (omega (arith, l))
segment-low ns (suc n) k s l h =
    let m = segment-content ns k s h in
    by (λ j r e i. segment-low ns n j r e i) m.0 m.1 m.3 m.4
  where
    by : ((j : ℕ) (r : Segment) → j < n → segment_at ns j ≡ Some r → r.depth ≤ j + 1) → (c : Chunk ℕ) (pre : Contents)
        → chunk_in (spelled pre) c ≡ Some s
        → ((j : ℕ) (y : Spelled) → answer (spelled pre) j ≡ Some y → (j < k) × (answer (spelled ns) j ≡ Some y))
        → s.depth ≤ k + 1
    by more (Leaf rows) pre is t = let d = sized-depth (length rows) 1 rows s is in omega (arith, d)
    by more (Inner []) pre is t = absurd cc
    by more (Inner (e ∷ es)) pre is t =
        let a = and_then-some (segment_in (spelled pre) e.1) (λ (p : Segment). option_and_then
        (sized (length (e ∷ es)) (p.depth + 1))
        (joined_rows (map (λ x. (x.0, rows_in (spelled pre) p.depth x.1)) (e ∷ es)))) s is in
        let b = and_then-some (joined_rows (map (λ x. (x.0, rows_in (spelled pre) a.0.depth x.1)) (e ∷ es)))
        (sized (length (e ∷ es)) (a.0.depth + 1)) s a.2 in
        let d = sized-depth (length (e ∷ es)) (a.0.depth + 1) b.0 s b.2 in
        let x = and_then-some (answer (spelled pre) e.1) as_segment a.0 a.1 in
        let low = t e.1 x.0 x.1 in
        let here : segment_at ns e.1 ≡ Some a.0 = ap (option_and_then as_segment) low.1 ∙ x.2 in
        let below = more e.1 a.0 (omega (arith, low.0, l)) here in
        omega (arith, d, low.0, below)

-- a chunk is at most as deep as there are stamps up to its own
pub depth-low : (ns : Contents) (k d : ℕ) → chunk_depth ns k ≡ Some d → d ≤ k + 1
depth-low ns k d h = by (segment_at ns k) refl h
  where
    by : (o : Option Segment) → segment_at ns k ≡ o → option_map (λ (s : Segment). s.depth) o ≡ Some d → d ≤ k + 1
    by None e h = absurd cc
    by (Some s) e h = let x = some_is h in let y = segment-low ns (suc k) k s (omega arith) e in omega (arith, x, y)
