-- What a look at a placed chunk tells of the rows that its stamp spells.
use Rattle.std.proofs.Common.{◌≡◌, ℕ, Bool, Bor, Result, Ok, IfOk, Option, Some, length, nat_cmp, refl, sym, ap, ◌∙◌}
use Rattle.std.proofs.Common.{subst, arith}
use Rattle.std.proofs.lemmas.Result.{IfOk-at_ok}
use Rattle.std.specs.Prelude.{◌==◌, IsSome, option_map}
use Rattle.std.specs.Cmp.Lexicographic.{slice_cmp}
use Rattle.std.specs.FinMap.{find}
use mathlib.Core.List.{IsPrefix}
use Rattle.group_history.specs.declared.nodes.Chunk.{Chunk}
use Rattle.group_history.specs.declared.nodes.Chunk.TheVariants.{Leaf, Inner}
use Rattle.group_history.specs.declared.refs.Ref.{Ref}
use Rattle.group_history.specs.Map.{Bytes}
use Rattle.group_history.specs.Spelling.{Contents, Segment, segment_at}
use Rattle.map_chunks.specs.Inside.Depths.{IsFirst, has_none}
use Rattle.map_chunks.specs.Inside.Ends.{only_ref}
use Rattle.map_chunks.specs.Inside.SecondKeys.{IsSecondStep}
use Rattle.map_chunks.specs.Inside.Seeking.{IsHint}
use Rattle.map_chunks.specs.Inside.Steps.{Descends}
use Rattle.map_chunks.specs.Places.{IsShown}
use Rattle.map_chunks.proofs.KeptLemmas.{IfAt}
use Rattle.map_chunks.specs.Seeking.{chunk_depth}
use Rattle.map_chunks.specs.Shown.{chunk_rows, IsTree, rows_or}
use Rattle.map_chunks.specs.declared.looks.Descent.{Descent}
use Rattle.map_chunks.specs.declared.looks.Descent.TheVariants.{Found, Below}
use Rattle.map_chunks.specs.declared.looks.Hint.{Hint}
use Rattle.map_chunks.specs.declared.looks.Hint.TheVariants.{On}
use Rattle.map_chunks.specs.declared.looks.Second.{Second}
use Rattle.map_chunks.proofs.ChildLemmas.{IsHintAt, IsSecondAt, first_at, hint_at, only_at, second_at}
use Rattle.map_chunks.proofs.DepthLemmas.{IsAbove, above}
use Rattle.map_chunks.proofs.EmptyLemmas.{none_placed}
use Rattle.map_chunks.proofs.EndLemmas.{IsOnlyChild, only_is}
use Rattle.map_chunks.proofs.OpenLemmas.{known, opened, spells_rows, segment-kept}
use Rattle.map_chunks.proofs.RowLemmas.{IsStrict}
use Rattle.map_chunks.proofs.SecondLemmas.{LeadsToSecond, leads_second}
use Rattle.map_chunks.proofs.SeekLemmas.{Hints, hints}
use Rattle.map_chunks.proofs.Shelves.{some_of}

-- Each speaks of what was known before the look (p), of what is known since (q), and of what was told of the chunk
-- that was seen.
module _ (places : Ref → Type 0) (p q : Contents) (k : ℕ) where
  abbrev Saw : (Chunk Ref → Type 0) → Type 0
  Saw says = (c : Bor (Chunk Ref)) × IsShown places q k c.now × says c.now

  -- the segment, then and now
  record Spelled : Type 0 where
    segment : Segment
    was : segment_at p k ≡ Some segment
    is : segment_at q k ≡ Some segment
    rows : segment.rows ≡ rows_or (chunk_rows p k)
    same : Some segment.rows ≡ chunk_rows p k

  spelled : IsSome (chunk_rows p k) → IsPrefix p q → Spelled
  spelled some grown = let n = some_of (chunk_rows p k) some in let s = spells_rows p k n.0 n.1 in record {
    segment = s.segment;
    was = s.is;
    is = segment-kept p q k s.segment grown s.is;
    rows = s.rows ∙ ap rows_or (sym n.1);
    same = ap (λ w. Some w) s.rows ∙ sym n.1;
  }

  strictly : IsTree (chunk_rows p k) → IsSome (chunk_rows p k) × IsStrict (rows_or (chunk_rows p k))
  strictly tree = let n = known (chunk_rows p k) tree in
      (subst IsSome (sym n.is) refl, subst (λ x. IsStrict (rows_or x)) (sym n.is) n.order)

  pub hint_told : {X : Type 0} (key : Bytes) (told hint : Hint) → IsTree (chunk_rows p k) → IsPrefix p q
      → Saw (λ c. X × IsHint c key told) → told ≡ hint
      → Hints q key k (chunk_depth p k) (rows_or (chunk_rows p k)) hint × IsHintAt places hint
  hint_told key told hint tree grown (c, shown, (x, is)) same =
      let t = strictly tree in
      let s = spelled t.0 grown in
      let so = subst (IsHint c.now key) same is in
      let l = hints q k s.segment c.now key hint s.is shown.1 (subst IsStrict (sym s.rows) t.1) so in (
        subst (λ d. Hints q key k d (rows_or (chunk_rows p k)) hint)
            (ap (option_map (λ (x : Segment). x.depth)) (sym s.was))
            (subst (λ rs. Hints q key k (Some s.segment.depth) rs hint) s.rows l),
        hint_at places c.now key hint shown.0 so,
      )

  pub below_told : {E X : Type 0} (key : Bytes) (told : Result Descent E) (at : Ref) → IsTree (chunk_rows p k)
      → IsPrefix p q → Saw (λ c. X × IfOk told (Descends c key)) → told ≡ Ok (Below at)
      → Hints q key k (chunk_depth p k) (rows_or (chunk_rows p k)) (On at) × places at
  below_told key told at tree grown (c, shown, (x, is)) same =
      hint_told key (On at) (On at) tree grown (c, shown, (x, by c.now (IfOk-at_ok (Descends c.now key) same is))) refl
    where
      by : (c : Chunk Ref) → Descends c key (Below at) → IsHint c key (On at)
      by (Leaf rows) i = i
      by (Inner kids) i = i

  pub found_told : {E X : Type 0} (key : Bytes) (told : Result Descent E) (v : Option Bytes) → IsTree (chunk_rows p k)
      → IsPrefix p q → Saw (λ c. X × IfOk told (Descends c key)) → told ≡ Ok (Found v)
      → v ≡ find (slice_cmp nat_cmp) key (rows_or (chunk_rows p k))
  found_told key told v tree grown (c, shown, (x, is)) same =
      let s = spelled (strictly tree).0 grown in
      by s c.now shown (IfOk-at_ok (Descends c.now key) same is)
    where
      by : (s : Spelled) (c : Chunk Ref) → IsShown places q k c → Descends c key (Found v)
          → v ≡ find (slice_cmp nat_cmp) key (rows_or (chunk_rows p k))
      by s (Leaf rows) shown i = i ∙ ap (find (slice_cmp nat_cmp) key)
          (sym (opened q k s.segment (Leaf rows) s.is shown.1).is ∙ s.rows)
      by s (Inner kids) shown i = absurd (omega (arith, (opened q k s.segment (Inner kids) s.is shown.1).filled))

  pub second_told : {E : Type 0} (told : Result Second E) (step : Second) → IsSome (chunk_rows p k) → IsPrefix p q
      → Saw (λ c. IfOk told (IsSecondStep c)) → told ≡ Ok step
      → LeadsToSecond q k (rows_or (chunk_rows p k)) step × IsSecondAt places step
  second_told told step some grown (c, shown, is) same =
      let s = spelled some grown in
      let so = IfOk-at_ok (IsSecondStep c.now) same is in (
        subst (λ rs. LeadsToSecond q k rs step) s.rows (leads_second q k s.segment c.now step s.is shown.1 so),
        second_at places c.now step shown.0 so,
      )

  pub first_told : (told child : Option Ref) (s : Segment) → IsPrefix p q → Saw (λ c. IsFirst c told) → told ≡ child
      → segment_at p k ≡ Some s → IsAbove q k s child × IfAt places child
  first_told told child s grown (c, shown, is) same h = let so = subst (IsFirst c.now) same is in (
    above q k s c.now child (segment-kept p q k s grown h) shown.1 so,
    first_at places c.now child shown.0 so,
  )

  pub none_told : (none : Bool) → IsSome (chunk_rows p k) → IsPrefix p q → Saw (λ c. none ≡ has_none c)
      → none ≡ (length (rows_or (chunk_rows p k)) == 0)
  none_told none some grown (c, shown, is) = let s = spelled some grown in
      is ∙ none_placed q k s.segment c.now s.is shown.1 ∙ ap (λ w. length w == 0) s.rows

  pub only_told : (told child : Option Ref) → IsSome (chunk_rows p k) → IsPrefix p q → Saw (λ c. told ≡ only_ref c)
      → told ≡ child → IsOnlyChild q k (chunk_rows p k) child × IfAt places child
  only_told told child some grown (c, shown, is) same =
      let so = sym same ∙ is in
      let s = spelled some grown in
      let r = ap (option_map (λ (x : Segment). x.rows)) s.is in (
        subst (λ rs. IsOnlyChild q k rs child) s.same
            (subst (IsOnlyChild q k (Some s.segment.rows)) (sym so) (only_is q k s.segment c.now s.is shown.1 r)),
        only_at places c.now child shown.0 so,
      )
