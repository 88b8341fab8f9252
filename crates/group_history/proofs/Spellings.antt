-- What a stamp spells, and longer lists of contents.
use Rattle.std.proofs.Common.{◌≡◌, ◌<◌, ℕ, zero, suc, ◌++◌, [], ◌∷◌, length, slice_get, Some, None, Option, refl, ap}
use Rattle.std.proofs.Common.{sym, ◌∙◌, arith, subst}
use Rattle.std.specs.Prelude.{option_and_then, option_map}
use Rattle.group_history.specs.declared.nodes.Chunk.{Chunk}
use Rattle.group_history.specs.declared.nodes.Commit.{Commit}
use Rattle.group_history.specs.declared.nodes.Node.{Node}
use Rattle.group_history.specs.declared.nodes.Node.TheVariants as node
use Rattle.group_history.specs.Map.{Entries}
use Rattle.group_history.specs.Rows.{Rows}
use Rattle.group_history.specs.Folds.{answer, joined}
use Rattle.group_history.specs.Spelling.{Contents, Spelled, Segment, Version, as_segment, as_version, as_snapshot}
use Rattle.group_history.specs.Spelling.{segment, version, spelled_by, spelled, segment_at, version_at, snapshot_at}
use Rattle.group_history.specs.Spelling.{rows_at, rows_if, map_at, segment_map, chunk_in, commit_in, snapshot_of}
use Rattle.group_history.proofs.Folding.{and_then-some, folded_stays, folded_at, answer_within, length_folded, seam}
use Rattle.group_history.proofs.Folding.{folded_more}

pub segment-stays : (xs ys : Contents) (k : ℕ) (s : Segment) → segment_at xs k ≡ Some s
    → segment_at (xs ++ ys) k ≡ Some s
segment-stays xs ys k s h =
    let m = and_then-some (answer (spelled xs) k) as_segment s h in
    ap (λ o. option_and_then as_segment o) (folded_stays spelled_by xs ys k m.0 m.1) ∙ m.2

pub version-stays : (xs ys : Contents) (k : ℕ) (v : Version) → version_at xs k ≡ Some v
    → version_at (xs ++ ys) k ≡ Some v
version-stays xs ys k v h =
    let m = and_then-some (answer (spelled xs) k) as_version v h in
    ap (λ o. option_and_then as_version o) (folded_stays spelled_by xs ys k m.0 m.1) ∙ m.2

pub snapshot-stays : (xs ys : Contents) (k j : ℕ) → snapshot_at xs k ≡ Some j → snapshot_at (xs ++ ys) k ≡ Some j
snapshot-stays xs ys k j h =
    let m = and_then-some (answer (spelled xs) k) as_snapshot j h in
    ap (λ o. option_and_then as_snapshot o) (folded_stays spelled_by xs ys k m.0 m.1) ∙ m.2

pub rows-stay : (xs ys : Contents) (depth k : ℕ) (rows : Rows) → rows_at xs depth k ≡ Some rows
    → rows_at (xs ++ ys) depth k ≡ Some rows
rows-stay xs ys depth k rows h =
    let m = and_then-some (segment_at xs k) (rows_if depth) rows h in
    ap (λ o. option_and_then (rows_if depth) o) (segment-stays xs ys k m.0 m.1) ∙ m.2

pub map-stays : (xs ys : Contents) (k : ℕ) (m : Entries) → map_at xs k ≡ Some m → map_at (xs ++ ys) k ≡ Some m
map-stays xs ys k m h =
    let s = and_then-some (segment_at xs k) segment_map m h in
    ap (λ o. option_and_then segment_map o) (segment-stays xs ys k s.0 s.1) ∙ s.2

content-within : (ns : Contents) (k : ℕ) → k < length ns → (n : Node ℕ) × (slice_get ns k ≡ Some n)
content-within [] k h = absurd (omega arith)
content-within (n ∷ ns) zero h = (n, refl)
content-within (n ∷ ns) (suc k) h = content-within ns k (omega arith)

-- a stamp that spells something has a content, and is what this spells
spelled-content : (ns : Contents) (k : ℕ) (x : Spelled) → answer (spelled ns) k ≡ Some x
    → (n : Node ℕ) × (pre : Contents) × (slice_get ns k ≡ Some n) × (spelled_by (spelled pre) n ≡ Some x)
    × ((c : ℕ) (y : Spelled) → answer (spelled pre) c ≡ Some y → (c < k) × (answer (spelled ns) c ≡ Some y))
spelled-content ns k x h =
    let within : k < length ns = omega (arith, answer_within (spelled ns) k x h, length_folded spelled_by [] ns) in
    let n = content-within ns k within in
    let f = folded_at spelled_by ns k n.0 n.1 in
    (n.0, f.0, n.1, sym f.1 ∙ h, f.2)

no_commit : (o : Option Version) (k : ℕ) (x : Spelled) (s : Segment) → option_map (λ v. version v k) o ≡ Some x
    → as_segment x ≡ Some s → ⊥
no_commit None k x s h g = cc
no_commit (Some v) k x s h g = let e : x ≡ version v k = cc h in let bad = ap as_segment (sym e) ∙ g in cc bad

no_chunk : (o : Option Segment) (x : Spelled) (v : Version) → option_map segment o ≡ Some x → as_version x ≡ Some v → ⊥
no_chunk None x v h g = cc
no_chunk (Some s) x v h g = let e : x ≡ segment s = cc h in let bad = ap as_version (sym e) ∙ g in cc bad

a_segment : (o : Option Segment) (x : Spelled) (s : Segment) → option_map segment o ≡ Some x
    → as_segment x ≡ Some s → o ≡ Some s
a_segment None x s h g = absurd cc
a_segment (Some r) x s h g = let e : x ≡ segment r = cc h in ap as_segment (sym e) ∙ g

a_version : (o : Option Version) (k : ℕ) (x : Spelled) (v : Version) → option_map (λ v. version v k) o ≡ Some x
    → as_version x ≡ Some v → o ≡ Some v
a_version None k x v h g = absurd cc
a_version (Some r) k x v h g = let e : x ≡ version r k = cc h in ap as_version (sym e) ∙ g

-- what a stamp has that spells rows: a chunk, and what this makes of the stamps before it
pub segment-content : (ns : Contents) (k : ℕ) (s : Segment) → segment_at ns k ≡ Some s
    → (c : Chunk ℕ) × (pre : Contents) × (slice_get ns k ≡ Some (node.Chunk c)) × (chunk_in (spelled pre) c ≡ Some s)
    × ((j : ℕ) (y : Spelled) → answer (spelled pre) j ≡ Some y → (j < k) × (answer (spelled ns) j ≡ Some y))
segment-content ns k s h =
    let m = and_then-some (answer (spelled ns) k) as_segment s h in
    let c = spelled-content ns k m.0 m.1 in
    by c.0 c.1 m.0 m.2 c.2 c.3 c.4
  where
    by : (n : Node ℕ) (pre : Contents) (x : Spelled) → as_segment x ≡ Some s → slice_get ns k ≡ Some n
        → spelled_by (spelled pre) n ≡ Some x
        → ((j : ℕ) (y : Spelled) → answer (spelled pre) j ≡ Some y → (j < k) × (answer (spelled ns) j ≡ Some y))
        → (c : Chunk ℕ) × (pre : Contents) × (slice_get ns k ≡ Some (node.Chunk c))
        × (chunk_in (spelled pre) c ≡ Some s)
        × ((j : ℕ) (y : Spelled) → answer (spelled pre) j ≡ Some y → (j < k) × (answer (spelled ns) j ≡ Some y))
    by (node.Chunk c) pre x g at is below = (c, pre, at, a_segment (chunk_in (spelled pre) c) x s is g, below)
    by (node.Commit c) pre x g at is below = absurd
        (no_commit (commit_in (spelled pre) c) (snapshot_of (length (spelled pre)) c.kind) x s is g)

-- what a stamp has that spells a version: a commit
pub version-content : (ns : Contents) (k : ℕ) (v : Version) → version_at ns k ≡ Some v
    → (c : Commit ℕ) × (pre : Contents) × (slice_get ns k ≡ Some (node.Commit c)) × (commit_in (spelled pre) c ≡ Some v)
    × ((j : ℕ) (y : Spelled) → answer (spelled pre) j ≡ Some y → (j < k) × (answer (spelled ns) j ≡ Some y))
version-content ns k v h =
    let m = and_then-some (answer (spelled ns) k) as_version v h in
    let c = spelled-content ns k m.0 m.1 in
    by c.0 c.1 m.0 m.2 c.2 c.3 c.4
  where
    by : (n : Node ℕ) (pre : Contents) (x : Spelled) → as_version x ≡ Some v → slice_get ns k ≡ Some n
        → spelled_by (spelled pre) n ≡ Some x
        → ((j : ℕ) (y : Spelled) → answer (spelled pre) j ≡ Some y → (j < k) × (answer (spelled ns) j ≡ Some y))
        → (c : Commit ℕ) × (pre : Contents) × (slice_get ns k ≡ Some (node.Commit c))
        × (commit_in (spelled pre) c ≡ Some v)
        × ((j : ℕ) (y : Spelled) → answer (spelled pre) j ≡ Some y → (j < k) × (answer (spelled ns) j ≡ Some y))
    by (node.Commit c) pre x g at is below =
        (c, pre, at, a_version (commit_in (spelled pre) c) (snapshot_of (length (spelled pre)) c.kind) x v is g, below)
    by (node.Chunk c) pre x g at is below = absurd (no_chunk (chunk_in (spelled pre) c) x v is g)

-- there are as many answers as contents
pub length-spelled : (cs : Contents) → length (spelled cs) ≡ length cs
length-spelled cs = let l = length_folded spelled_by [] cs in omega (arith, l)

-- the newest content of a list spells what it makes of those before it
pub spelled-newest : (cs : Contents) (c : Node ℕ)
    → answer (spelled (cs ++ c ∷ [])) (length cs) ≡ spelled_by (spelled cs) c
spelled-newest cs c =
    let done = spelled cs in
    ap (λ w. joined (slice_get w (length cs))) (folded_more spelled_by [] cs (c ∷ []))
    ∙ subst (λ k. joined (slice_get (done ++ spelled_by done c ∷ []) k) ≡ spelled_by done c) (length-spelled cs)
    (ap joined (seam done (spelled_by done c) []))

pub version-newest : (cs : Contents) (c : Node ℕ)
    → version_at (cs ++ c ∷ []) (length cs) ≡ option_and_then as_version (spelled_by (spelled cs) c)
version-newest cs c = ap (λ o. option_and_then as_version o) (spelled-newest cs c)
