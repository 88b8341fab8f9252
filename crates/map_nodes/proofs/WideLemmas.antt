-- Roots that are no inner chunks with one child.
use Rattle.std.proofs.Common.{◌≡◌, ◌<◌, ◌+◌, ℕ, zero, suc, Bool, true, false, cond, List, [], ◌∷◌, ◌++◌, Option, Some}
use Rattle.std.proofs.Common.{None, length, map, slice_get, nat_le, refl, sym, ap, ◌∙◌, subst, arith, inl, inr}
use Rattle.std.proofs.Common.{append_assoc, Result, Ok, Err, IfOk}
use Rattle.std.specs.Prelude.{option_and_then}
use Rattle.std.specs.FinMap as finite
use mathlib.Core.List.{IsPrefix}
use Rattle.group_history.specs.declared.nodes.Chunk.{Chunk}
use Rattle.group_history.specs.declared.nodes.Chunk.TheVariants as chunked
use Rattle.group_history.specs.declared.nodes.Node.{Node}
use Rattle.group_history.specs.declared.nodes.Node.TheVariants as node
use Rattle.group_history.specs.declared.refs.Ref.{Ref}
use Rattle.group_history.specs.Map.{Bytes, Entries}
use Rattle.group_history.specs.Naming.{content_of, chunk_content}
use Rattle.group_history.specs.Refs.{stamp_of}
use Rattle.group_history.specs.Rows.{Rows}
use Rattle.group_history.specs.Spelling.{Contents, Segment, Spelled, spelled, sized, chunk_in, inner_in, segment_in}
use Rattle.group_history.specs.Spelling.{segment_at, rows_in, rows_at, joined_rows}
use Rattle.group_history.proofs.Folding.{and_then-some}
use Rattle.group_history.proofs.Spellings.{segment-content}
use Rattle.group_history.proofs.Lists.{get_more}
use Rattle.map_nodes.specs.Inside.Copies.{chunk_entries, MayBeDeep}
use Rattle.map_chunks.specs.Places.{with_nodes}
use Rattle.map_chunks.specs.Shown.{Seen, shown, map_of_rows, IsTree}
use Rattle.map_chunks.specs.Wide.{is_narrow, IsWideAt, IsWideChunk}
use Rattle.map_chunks.proofs.JoinLemmas.{some_is}
use Rattle.map_chunks.proofs.OpenLemmas.{known, spells_at}
use Rattle.map_chunks.proofs.TreeLemmas.{map_is}

-- A NODE BEHIND OTHERS

last_at : {A : Type 0} (xs : List A) (y : A) (n : ℕ) → n ≡ length xs → slice_get (xs ++ y ∷ []) n ≡ Some y
last_at [] y zero e = refl
last_at [] y (suc n) e = absurd (omega arith)
last_at (x ∷ xs) y zero e = absurd (omega arith)
last_at (x ∷ xs) y (suc n) e = last_at xs y n (omega arith)

more_contents : (ns : List (Node Ref)) (x : Node Ref)
    → map content_of (ns ++ x ∷ []) ≡ map content_of ns ++ content_of x ∷ []
more_contents [] x = refl
more_contents (n ∷ ns) x = ap (λ w. content_of n ∷ w) (more_contents ns x)

length-contents : (contents : Contents) (ns : List (Node Ref))
    → length (contents ++ map content_of ns) ≡ length contents + length ns
length-contents [] [] = omega arith
length-contents [] (n ∷ ns) = let r = length-contents [] ns in omega (arith, r)
length-contents (c ∷ contents) ns = let r = length-contents contents ns in omega (arith, r)

-- what was appended last
pub pushed_at : (contents : Contents) (first : ℕ) (old new : List (Node Ref)) (x : Node Ref) (at : Ref)
    → length contents ≡ first → new ≡ old ++ x ∷ [] → stamp_of at ≡ first + length old
    → slice_get (with_nodes contents new) (stamp_of at) ≡ Some (content_of x)
pushed_at contents first old new x at l e s =
    let whole : with_nodes contents new ≡ (contents ++ map content_of old) ++ content_of x ∷ [] =
    ap (with_nodes contents) e ∙ ap (λ w. contents ++ w) (more_contents old x) ∙ sym
    (append_assoc contents (map content_of old) (content_of x ∷ [])) in
    ap (λ w. slice_get w (stamp_of at)) whole ∙ last_at (contents ++ map content_of old) (content_of x) (stamp_of at)
    (omega (arith, s, l, length-contents contents old))

-- the node of a stamp, where it is wide
pub wide_node : (p : Contents) (k : ℕ) (n : Node ℕ) → slice_get p k ≡ Some n → is_narrow n ≡ false → IsWideAt p k
wide_node p k n g w = λ m e. ap is_narrow (some_is (sym e ∙ g)) ∙ w

pub wide_inner : (kids : List (Bytes × Ref)) → 1 < length kids → is_narrow (chunk_content (chunked.Inner kids)) ≡ false
wide_inner [] h = absurd (omega arith)
wide_inner (e ∷ []) h = absurd (omega arith)
wide_inner (e ∷ f ∷ es) h = refl

-- A CHUNK THAT IS ONE DEEP

sized_depth : (n depth : ℕ) (rows : Rows) (s : Segment) → sized n depth rows ≡ Some s → s.depth ≡ depth
sized_depth n depth rows s h = by (nat_le n 16) h
  where
    by : (u : Bool) → cond u (Some (record { depth = depth; rows = rows })) None ≡ Some s → s.depth ≡ depth
    by true h = let e : record { depth = depth; rows = rows } ≡ s = cc h in ap (λ (r : Segment). r.depth) (sym e)
    by false h = absurd cc

-- the children's depth
inner_depth : (done : List (Option Spelled)) (e : Bytes × ℕ) (es : List (Bytes × ℕ)) (s : Segment)
    → inner_in done (e ∷ es) ≡ Some s → (t : Segment) × (segment_in done e.1 ≡ Some t) × (s.depth ≡ t.depth + 1)
inner_depth done e es s h =
    let a = and_then-some (segment_in done e.1)
    (λ (t : Segment). option_and_then (sized (length (e ∷ es)) (t.depth + 1))
    (joined_rows (map (λ x. (x.0, rows_in done t.depth x.1)) (e ∷ es)))) s h in
    let b = and_then-some (joined_rows (map (λ x. (x.0, rows_in done a.0.depth x.1)) (e ∷ es)))
    (sized (length (e ∷ es)) (a.0.depth + 1)) s a.2 in
    (a.0, a.1, sized_depth (length (e ∷ es)) (a.0.depth + 1) b.0 s b.2)

deep : (p : Contents) (k : ℕ) (s : Segment) → segment_at p k ≡ Some s → 0 < s.depth
deep p k s h = let c = segment-content p k s h in by c.0 c.1 c.3
  where
    by : (c : Chunk ℕ) (pre : Contents) → chunk_in (spelled pre) c ≡ Some s → 0 < s.depth
    by (chunked.Leaf rows) pre e = omega (arith, sized_depth (length rows) 1 rows s e)
    by (chunked.Inner []) pre e = absurd cc
    by (chunked.Inner (x ∷ xs)) pre e = let i = inner_depth (spelled pre) x xs s e in omega (arith, i.2)

low_wide : (p : Contents) (k : ℕ) (rows : Rows) → rows_at p 1 k ≡ Some rows → IsWideAt p k
low_wide p k rows h =
    let f = spells_at p 1 k rows h in
    let c = segment-content p k f.0.segment f.0.is in
    wide_node p k (node.Chunk c.0) c.2 (by c.0 c.1 f.0.segment c.3 f.1)
  where
    by : (c : Chunk ℕ) (pre : Contents) (s : Segment) → chunk_in (spelled pre) c ≡ Some s → s.depth ≡ 1
        → is_narrow (node.Chunk c) ≡ false
    by (chunked.Leaf rows) pre s e d = refl
    by (chunked.Inner []) pre s e d = refl
    by (chunked.Inner (x ∷ y ∷ xs)) pre s e d = refl
    by (chunked.Inner (x ∷ [])) pre s e d = let i = inner_depth (spelled pre) x [] s e in
        absurd (omega (arith, i.2, d, deep pre x.1 i.0 i.1))

-- COPIES

-- a copy of a chunk that is wide is wide
pub wide-copy : (ns : Contents) (k depth : ℕ) (c : Chunk Ref) (n : Seen) → slice_get ns k ≡ Some (chunk_content c)
    → MayBeDeep depth c → n.depth ≡ depth → n.entries ≡ chunk_entries c
    → IsWideAt ns k → IsWideChunk n
wide-copy ns k depth c n g m d e w = by c m e (w (chunk_content c) g)
  where
    by : (c : Chunk Ref) → MayBeDeep depth c → n.entries ≡ chunk_entries c
        → is_narrow (chunk_content c) ≡ false → IsWideChunk n
    by (chunked.Leaf rows) m e f = inl (d ∙ m)
    by (chunked.Inner []) m e f = absurd (omega (arith, m.1))
    by (chunked.Inner (x ∷ [])) m e f = absurd cc
    by (chunked.Inner (x ∷ y ∷ es)) m e f = inr (omega (arith, e))

-- more contents
pub wide_grown : (old new : Contents) (k : ℕ) (n : Node ℕ) → IsPrefix old new → slice_get old k ≡ Some n
    → IsWideAt old k → IsWideAt new k
wide_grown old new k n p g w = wide_node new k n
    (subst (λ c. slice_get c k ≡ Some n) p.1 (get_more old p.0 k n g)) (w n g)

-- A WHOLE MAP

pub wide_frozen : {E : Type 0} (r : Result Ref E) (old new : Contents) (n : Seen) (m : Entries)
    → option_and_then map_of_rows (shown old n.pieces) ≡ Some m → IsWideChunk n
    → ((rows : Rows) → shown old n.pieces ≡ Some rows
    → IfOk r (λ root. rows_at new n.depth (stamp_of root) ≡ Some rows))
    → (1 < n.entries → IfOk r (λ root. IsWideAt new (stamp_of root)))
    → IfOk r (λ root. IsWideAt new (stamp_of root))
wide_frozen (Err e) old new n m h w f g = tt
wide_frozen (Ok at) old new n m h (inr w) f g = g w
wide_frozen (Ok at) old new n m h (inl d) f g =
    let x = map_is (shown old n.pieces) m h in
    low_wide new (stamp_of at) (finite.entries m)
    (subst (λ k. rows_at new k (stamp_of at) ≡ Some (finite.entries m)) d (f (finite.entries m) x.is))

-- what is wide stays so
pub wide_later : (old new : Contents) (depth k : ℕ) → IsTree (rows_at old depth k) → IsPrefix old new
    → IsWideAt old k → IsWideAt new k
wide_later old new depth k t p w =
    let n = known (rows_at old depth k) t in
    let f = spells_at old depth k n.rows n.is in
    let c = segment-content old k f.0.segment f.0.is in
    wide_grown old new k (node.Chunk c.0) p c.2 w
