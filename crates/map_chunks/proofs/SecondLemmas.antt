-- The second key of rows.
use Rattle.std.proofs.Common.{◌≡◌, ◌<◌, ℕ, List, [], ◌∷◌, ◌++◌, Option, Some, true, slice_get, refl, sym, ap, ◌∙◌}
use Rattle.std.proofs.Common.{subst, arith}
use Rattle.std.specs.Prelude.{IsSome}
use Rattle.std.specs.Option.{option_or}
use Rattle.group_history.specs.declared.nodes.Chunk.{Chunk}
use Rattle.group_history.specs.declared.nodes.Chunk.TheVariants.{Leaf, Inner}
use Rattle.group_history.specs.declared.refs.Ref.{Ref}
use Rattle.group_history.specs.Map.{Bytes}
use Rattle.group_history.specs.Naming.{chunk_content}
use Rattle.group_history.specs.Refs.{stamp_of}
use Rattle.group_history.specs.Rows.{Rows, keys_of}
use Rattle.group_history.specs.Spelling.{Contents, Segment, segment_at, rows_at, joined_rows, begins_with}
use Rattle.map_chunks.specs.SecondKeys.{second_key}
use Rattle.map_chunks.specs.Inside.SecondKeys.{IsSecondStep}
use Rattle.map_chunks.specs.Shown.{chunk_rows, rows_or}
use Rattle.map_chunks.specs.declared.looks.Second.{Second}
use Rattle.map_chunks.specs.declared.looks.Second.TheVariants.{Known, First}
use Rattle.map_chunks.proofs.JoinLemmas.{Shows, Split, split_of, back_begins, some_is}
use Rattle.map_chunks.proofs.OpenLemmas.{Opened, opened, shows_by, chunk_rows-at}

-- the second key of children's rows is that of the first child's, or else the first key of the child behind it
pub second-joined : (e : Bytes × Option Rows) (es : Shows) (rs : Rows) → (s : Split e es rs)
    → option_or (second_key s.front) (slice_get (keys_of es) 0) ≡ second_key rs
second-joined e es rs s = by s.front s.starts es s.back s.back_is ∙ ap second_key (sym s.whole)
  where
    by : (front : Rows) → begins_with e.0 front ≡ true → (es : Shows) (back : Rows) → joined_rows es ≡ Some back
        → option_or (second_key front) (slice_get (keys_of es) 0) ≡ second_key (front ++ back)
    by [] b es back h = absurd cc
    by (r ∷ t ∷ front) b es back h = refl
    by (r ∷ []) b [] back h = ap (λ w. second_key (r ∷ w)) (some_is h)
    by (r ∷ []) b (f ∷ fs) back h = let c = back_begins f fs back h in ap (λ w. second_key (r ∷ w)) (sym c.whole)

keys-by : (f : ℕ → Option Rows) (kids : List (Bytes × Ref)) → keys_of (shows_by f kids) ≡ keys_of kids
keys-by f [] = refl
keys-by f (e ∷ es) = ap (λ w. e.0 ∷ w) (keys-by f es)

-- from the chunk of a stamp, with these rows: the second key is found, or is that of a chunk placed before it, or else
-- the one given
abbrev pub LeadsToSecond : Contents → ℕ → Rows → Second → Type 0
LeadsToSecond contents stamp rows (Known key) = key ≡ second_key rows
LeadsToSecond contents stamp rows (First at next) = (stamp_of at < stamp) × IsSome (chunk_rows contents (stamp_of at))
    × (option_or (second_key (rows_or (chunk_rows contents (stamp_of at)))) next ≡ second_key rows)

pub leads_second : (ns : Contents) (k : ℕ) (s : Segment) (c : Chunk Ref) (step : Second) → segment_at ns k ≡ Some s
    → slice_get ns k ≡ Some (chunk_content c)
    → IsSecondStep c step → LeadsToSecond ns k s.rows step
leads_second ns k s c step h g i = by c (opened ns k s c h g) step i
  where
    by : (c : Chunk Ref) → Opened ns k s c → (step : Second) → IsSecondStep c step → LeadsToSecond ns k s.rows step
    by (Leaf rows) z (Known v) i = i ∙ ap second_key (sym z.is)
    by (Leaf rows) z (First at v) i = absurd i
    by (Inner kids) z (Known v) i = absurd (omega (arith, z.filled))
    by (Inner []) z (First at v) i = absurd (omega (arith, z.filled))
    by (Inner (e ∷ es)) z (First at v) i =
        let same : e.1 ≡ at = some_is i.0 in
        let p = split_of (e.0, rows_at ns z.depth (stamp_of e.1)) (shows_by (rows_at ns z.depth) es) s.rows z.rows in
        let r : chunk_rows ns (stamp_of at) ≡ Some p.front = ap (λ w. chunk_rows ns (stamp_of w))
        (sym same) ∙ chunk_rows-at ns z.depth (stamp_of e.1) p.front p.front_is in
        let next : v ≡ slice_get (keys_of (shows_by (rows_at ns z.depth) es)) 0 = i.1 ∙ ap (λ w. slice_get w 0)
        (sym (keys-by (rows_at ns z.depth) es)) in (
          subst (λ w. stamp_of w < k) same z.low.0,
          subst IsSome (sym r) refl,
          ap (λ x. option_or (second_key (rows_or x)) v) r ∙ ap (option_or (second_key p.front)) next ∙ second-joined
              (e.0, rows_at ns z.depth (stamp_of e.1)) (shows_by (rows_at ns z.depth) es) s.rows p,
        )
