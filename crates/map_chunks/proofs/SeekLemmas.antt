-- A look for whether a key is there, and for how deep the tree is.
use Rattle.std.proofs.Common.{◌≡◌, ◌<◌, ℕ, ◌+◌, Option, ◌++◌, ◌∷◌, Some, map, slice_get, sym, ap, ◌∙◌, subst, arith}
use Rattle.std.proofs.Common.{nat_cmp}
use Rattle.std.specs.Prelude.{option_map}
use Rattle.std.specs.Cmp.Lexicographic.{slice_cmp}
use Rattle.std.specs.FinMap.{find}
use Rattle.group_history.specs.declared.nodes.Chunk.{Chunk}
use Rattle.group_history.specs.declared.nodes.Chunk.TheVariants.{Leaf, Inner}
use Rattle.group_history.specs.declared.refs.Ref.{Ref}
use Rattle.group_history.specs.Map.{Bytes}
use Rattle.group_history.specs.Naming.{chunk_content}
use Rattle.group_history.specs.Refs.{stamp_of}
use Rattle.group_history.specs.Rows.{Rows, keys_of}
use Rattle.group_history.specs.Spelling.{Contents, Segment, segment_at, rows_at, joined_rows}
use Rattle.map_chunks.specs.Search.{IsPlace}
use Rattle.map_chunks.specs.Seeking.{chunk_depth, is_key_in}
use Rattle.map_chunks.specs.Inside.Seeking.{IsHint}
use Rattle.map_chunks.specs.Shown.{chunk_rows, rows_or, IsTree}
use Rattle.map_chunks.specs.declared.looks.Hint.{Hint}
use Rattle.map_chunks.specs.declared.looks.Hint.TheVariants.{Known, On}
use Rattle.map_chunks.proofs.OpenLemmas.{Opened, opened, spells_at, chunk_rows-at, entry_at, placing, way_by, find-way}
use Rattle.map_chunks.proofs.OpenLemmas.{tree_of, shows_by, AllLow, low_at}
use Rattle.map_chunks.proofs.RowLemmas.{IsStrict}

-- from the chunk of a stamp, so deep, with these rows: it is a leaf, and this is whether the key is there, or a chunk
-- one level below, which was placed before it, has the key's value
abbrev pub Hints : Contents → Bytes → ℕ → Option ℕ → Rows → Hint → Type 0
Hints contents key stamp depth rows (Known there) = (depth ≡ Some 1) × (there ≡ is_key_in rows key)
Hints contents key stamp depth rows (On at) = (stamp_of at < stamp) × IsTree (chunk_rows contents (stamp_of at))
    × ((d : ℕ) × (chunk_depth contents (stamp_of at) ≡ Some d) × (depth ≡ Some (d + 1)))
    × (find (slice_cmp nat_cmp) key (rows_or (chunk_rows contents (stamp_of at)))
    ≡ find (slice_cmp nat_cmp) key rows)

pub hints : (ns : Contents) (k : ℕ) (s : Segment) (c : Chunk Ref) (key : Bytes) (hint : Hint)
    → segment_at ns k ≡ Some s → slice_get ns k ≡ Some (chunk_content c)
    → IsStrict s.rows → IsHint c key hint → Hints ns key k (Some s.depth) s.rows hint
hints ns k s c key hint h g o i = by c (opened ns k s c h g) hint i
  where
    by : (c : Chunk Ref) → Opened ns k s c → (hint : Hint) → IsHint c key hint
        → Hints ns key k (Some s.depth) s.rows hint
    by (Leaf rows) z (Known there) i = (ap (λ n. Some n) z.depth, i ∙ ap (λ w. is_key_in w key) (sym z.is))
    by (Leaf rows) z (On at) i = absurd i
    by (Inner kids) z (Known there) i = absurd (omega (arith, z.filled))
    by (Inner kids) z (On at) i =
        let a = entry_at kids i.0 at i.2 in
        let p = placing key a.before a.first at a.behind i.0 a.at
        (subst (λ w. IsPlace key (keys_of w) i.0) a.whole i.1) in
        let j : joined_rows (map (λ (e : Bytes × Ref). (e.0, rows_at ns z.depth (stamp_of e.1)))
        (a.before ++ (a.first, at) ∷ a.behind)) ≡ Some s.rows =
        ap (λ w. joined_rows (shows_by (rows_at ns z.depth) w)) (sym a.whole) ∙ z.rows in
        let w = way_by (λ (e : Bytes × Ref). rows_at ns z.depth (stamp_of e.1)) key a.before
        (a.first, at) a.behind s.rows j o p in
        let r = chunk_rows-at ns z.depth (stamp_of at) w.here w.here_is in
        let f = spells_at ns z.depth (stamp_of at) w.here w.here_is in
        let deep : s.depth ≡ f.0.segment.depth + 1 = omega (arith, z.deep, f.1) in (
          low_at k a.before (a.first, at) a.behind (subst (AllLow k) a.whole z.low),
          tree_of (chunk_rows ns (stamp_of at)) w.here r w.strict,
          (f.0.segment.depth, ap (option_map (λ (t : Segment). t.depth)) f.0.is, ap (λ n. Some n) deep),
          ap (λ x. find (slice_cmp nat_cmp) key (rows_or x)) r ∙ find-way key _ _ _ _ s.rows w,
        )
