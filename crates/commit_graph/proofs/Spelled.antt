-- What the commit or the chunk of a stamp spells, by its children.
use Rattle.std.proofs.Common.{◌≡◌, ℕ, ◌+◌, ◌<◌, inl, inr, Bool, true, false, List, [], ◌∷◌, ◌++◌, map, length, Some}
use Rattle.std.proofs.Common.{None, Option, slice_get, refl, ap, sym, subst, ◌∙◌, arith}
use Rattle.std.specs.Prelude.{option_and_then, option_map, nat_le, ◌==◌, if◌then◌else◌}
use Rattle.std.specs.List.{Contains}
use mathlib.Core.List.{IsPrefix}
use Rattle.std.proofs.lemmas.Bool.{eqb-true}
use Rattle.std.proofs.lemmas.Option.{slice_get_cases}
use Rattle.group_history.specs.declared.nodes.Chunk.{Chunk}
use Rattle.group_history.specs.declared.nodes.Chunk.TheVariants.{Inner}
use Rattle.group_history.specs.declared.nodes.Commit.{Commit}
use Rattle.group_history.specs.declared.nodes.CommitKind.{CommitKind}
use Rattle.group_history.specs.declared.nodes.CommitKind.TheVariants.{Snapshot, Over}
use Rattle.group_history.specs.declared.nodes.Node.{Node}
use Rattle.group_history.specs.declared.nodes.Node.TheVariants as node
use Rattle.group_history.specs.Map.{Bytes, Entries}
use Rattle.group_history.specs.Rows.{Rows, values_of}
use Rattle.group_history.specs.State.{State, pulled_state}
use Rattle.group_history.specs.Folds.{answer}
use Rattle.group_history.specs.Spelling.{Contents, Segment, Version, Spelled, segment, version, as_segment, as_version}
use Rattle.group_history.specs.Spelling.{as_snapshot, segment_in, version_in, snapshot_in, basis_in, stepped}
use Rattle.group_history.specs.Spelling.{state_over, state_in, snapshot_of, rows_if, rows_in, begins_with, joined_one}
use Rattle.group_history.specs.Spelling.{joined_rows, sized, chunk_in, segment_map, map_in, commit_in, spelled_by}
use Rattle.group_history.specs.Spelling.{spelled, tells_right}
use Rattle.group_history.specs.Spelling.{segment_at, version_at, snapshot_at, map_at}
use Rattle.group_history.proofs.Folding.{and_then-some, folded_at, answer_within, length_folded}
use Rattle.group_history.proofs.Spellings.{segment-stays, version-stays, snapshot-stays, map-stays}
use Rattle.group_history.proofs.Lists.{no_element, cons_cases}

-- a value behind a map came from one before it
pub option_map-some : {A B : Type 0} (f : A → B) (o : Option A) (v : B) → option_map f o ≡ Some v
    → (x : A) × (o ≡ Some x) × (f x ≡ v)
option_map-some f None v h = absurd (cc h)
option_map-some f (Some x) v h = (x, refl, cc h)

-- what stays where one list of contents begins another
pub version-grown : (xs ys : Contents) (k : ℕ) (v : Version) → IsPrefix xs ys → version_at xs k ≡ Some v
    → version_at ys k ≡ Some v
version-grown xs ys k v pre h = subst (λ (w : Contents). version_at w k ≡ Some v) pre.1 (version-stays xs pre.0 k v h)

pub snapshot-grown : (xs ys : Contents) (k j : ℕ) → IsPrefix xs ys → snapshot_at xs k ≡ Some j
    → snapshot_at ys k ≡ Some j
snapshot-grown xs ys k j pre h = subst (λ (w : Contents). snapshot_at w k ≡ Some j) pre.1
    (snapshot-stays xs pre.0 k j h)

pub segment-grown : (xs ys : Contents) (k : ℕ) (s : Segment) → IsPrefix xs ys → segment_at xs k ≡ Some s
    → segment_at ys k ≡ Some s
segment-grown xs ys k s pre h = subst (λ (w : Contents). segment_at w k ≡ Some s) pre.1 (segment-stays xs pre.0 k s h)

pub map-grown : (xs ys : Contents) (k : ℕ) (m : Entries) → IsPrefix xs ys → map_at xs k ≡ Some m → map_at ys k ≡ Some m
map-grown xs ys k m pre h = subst (λ (w : Contents). map_at w k ≡ Some m) pre.1 (map-stays xs pre.0 k m h)

only_version : (v : Version) (x : Spelled) → as_version x ≡ Some v → (j : ℕ) × (x ≡ version v j)
only_version v (segment s) e = absurd (cc e)
only_version v (version w j) e = (j, ap (λ (u : Version). version u j) (let f : w ≡ v = cc e in f))

only_segment : (s : Segment) (x : Spelled) → as_segment x ≡ Some s → x ≡ segment s
only_segment s (segment t) e = ap segment (let f : t ≡ s = cc e in f)
only_segment s (version w j) e = absurd (cc e)

pub spelled_version : (ns : Contents) (k : ℕ) (v : Version) → version_at ns k ≡ Some v
    → (j : ℕ) × (answer (spelled ns) k ≡ Some (version v j))
spelled_version ns k v h =
    let m = and_then-some (answer (spelled ns) k) as_version v h in
    let o = only_version v m.0 m.2 in
    (o.0, m.1 ∙ ap Some o.1)

pub spelled_segment : (ns : Contents) (k : ℕ) (s : Segment) → segment_at ns k ≡ Some s
    → answer (spelled ns) k ≡ Some (segment s)
spelled_segment ns k s h = let m = and_then-some (answer (spelled ns) k) as_segment s h in
    m.1 ∙ ap Some (only_segment s m.0 m.2)

-- a stamp spells a chunk's rows or a commit's state, never both
pub not_both : (ns : Contents) (k : ℕ) (s : Segment) (v : Version) → segment_at ns k ≡ Some s
    → version_at ns k ≡ Some v → ⊥
not_both ns k s v p q =
    let w = spelled_version ns k v q in
    let e : Some (segment s) ≡ Some (version v w.0) = sym (spelled_segment ns k s p) ∙ w.1 in cc e

-- What a stamp spells is made of its content and of what the smaller stamps spell.
pub made_of : (ns : Contents) (k : ℕ) (n : Node ℕ) (x : Spelled) → slice_get ns k ≡ Some n
    → answer (spelled ns) k ≡ Some x
    → (done : List (Option Spelled)) × (spelled_by done n ≡ Some x)
    × ((c : ℕ) (y : Spelled) → answer done c ≡ Some y → (c < k) × (answer (spelled ns) c ≡ Some y))
    × (length done ≡ k)
made_of ns k n x is h = let u = folded_at spelled_by ns k n is in (spelled u.0, sym u.1 ∙ h, u.2, u.3)

-- what smaller stamps spell, as commit, as chunk and as map
below_version : (ns : Contents) (k : ℕ) (done : List (Option Spelled)) (c : ℕ) (v : Version)
    → ((c : ℕ) (y : Spelled) → answer done c ≡ Some y → (c < k) × (answer (spelled ns) c ≡ Some y))
    → version_in done c ≡ Some v → (c < k) × (version_at ns c ≡ Some v)
below_version ns k done c v below h =
    let m = and_then-some (answer done c) as_version v h in
    let w = below c m.0 m.1 in
    (w.0, ap (λ o. option_and_then as_version o) w.1 ∙ m.2)

pub below_segment : (ns : Contents) (k : ℕ) (done : List (Option Spelled)) (c : ℕ) (s : Segment)
    → ((c : ℕ) (y : Spelled) → answer done c ≡ Some y → (c < k) × (answer (spelled ns) c ≡ Some y))
    → segment_in done c ≡ Some s → (c < k) × (segment_at ns c ≡ Some s)
below_segment ns k done c s below h =
    let m = and_then-some (answer done c) as_segment s h in
    let w = below c m.0 m.1 in
    (w.0, ap (λ o. option_and_then as_segment o) w.1 ∙ m.2)

below_map : (ns : Contents) (k : ℕ) (done : List (Option Spelled)) (c : ℕ) (m : Entries)
    → ((c : ℕ) (y : Spelled) → answer done c ≡ Some y → (c < k) × (answer (spelled ns) c ≡ Some y))
    → map_in done c ≡ Some m → (c < k) × (map_at ns c ≡ Some m)
below_map ns k done c m below h =
    let s = and_then-some (segment_in done c) segment_map m h in
    let w = below_segment ns k done c s.0 below s.1 in
    (w.0, ap (λ o. option_and_then segment_map o) w.1 ∙ s.2)

below_snapshot : (ns : Contents) (k : ℕ) (done : List (Option Spelled)) (c j : ℕ)
    → ((c : ℕ) (y : Spelled) → answer done c ≡ Some y → (c < k) × (answer (spelled ns) c ≡ Some y))
    → snapshot_in done c ≡ Some j → snapshot_at ns c ≡ Some j
below_snapshot ns k done c j below h =
    let m = and_then-some (answer done c) as_snapshot j h in
    ap (λ o. option_and_then as_snapshot o) (below c m.0 m.1).1 ∙ m.2

-- What makes a commit's state: a snapshot has its own, a commit over a basis has the basis's after its step.
abbrev pub IsMade : Contents → ℕ → CommitKind ℕ → Version → Type 0
IsMade ns k (Snapshot s) v = v.state ≡ pulled_state v.read s.cookie s.confirmed
IsMade ns k (Over o) v =
    (b : Version) × (o.basis < k) × (version_at ns o.basis ≡ Some b) × (snapshot_at ns o.basis ≡ Some o.snapshot)
    × (b.state.closed ≡ false) × (v.state ≡ stepped b.state o.step) × (tells_right o.told b.state ≡ true)

if_there : {A : Type 0} (b : Bool) (o : Option A) (x : A) → (if b then o else None) ≡ Some x → (b ≡ true) × (o ≡ Some x)
if_there true o x h = (refl, h)
if_there false o x h = absurd (cc h)

if_open : {A : Type 0} (b : Bool) (o : Option A) (y : A) → (if b then None else o) ≡ Some y → (b ≡ false) × (o ≡ Some y)
if_open true o y h = absurd (cc h)
if_open false o y h = (refl, h)

made_so : (ns : Contents) (k : ℕ) (done : List (Option Spelled)) (kind : CommitKind ℕ) (m : Entries) (s : State)
    (v : Version)
    → ((c : ℕ) (y : Spelled) → answer done c ≡ Some y → (c < k) × (answer (spelled ns) c ≡ Some y))
    → state_in done kind m ≡ Some s → v.state ≡ s → v.read ≡ m → IsMade ns k kind v
made_so ns k done (Snapshot sn) m s v below is state read =
    let e : pulled_state m sn.cookie sn.confirmed ≡ s = cc is in
    state ∙ sym e ∙ ap (λ (x : Entries). pulled_state x sn.cookie sn.confirmed) (sym read)
made_so ns k done (Over o) m s v below is state read =
    let b = and_then-some (basis_in done o.basis o.snapshot) (state_over o.told o.step) s is in
    let j = and_then-some (snapshot_in done o.basis)
    (λ (i : ℕ). if i == o.snapshot then version_in done o.basis else None) b.0 b.1 in
    let t = if_there (j.0 == o.snapshot) (version_in done o.basis) b.0 j.2 in
    let w = below_version ns k done o.basis b.0 below t.1 in
    let c = if_open b.0.state.closed
    (if tells_right o.told b.0.state then Some (stepped b.0.state o.step) else None) s b.2 in
    let r = if_there (tells_right o.told b.0.state) (Some (stepped b.0.state o.step)) s c.1 in
    let same : stepped b.0.state o.step ≡ s = cc (r.1) in (
      b.0,
      w.0,
      w.1,
      below_snapshot ns k done o.basis j.0 below j.1 ∙ ap Some (eqb-true j.0 o.snapshot t.0),
      c.0,
      state ∙ sym same,
      r.0,
    )

-- A commit: its root has a smaller stamp and spells the map that queries read; its chain begins where it says; and what
-- makes its state.
pub commit-made : (ns : Contents) (k : ℕ) (c : Commit ℕ) (v : Version) → slice_get ns k ≡ Some (node.Commit c)
    → version_at ns k ≡ Some v
    → (c.root < k) × (map_at ns c.root ≡ Some v.read) × (snapshot_at ns k ≡ Some (snapshot_of k c.kind))
    × IsMade ns k c.kind v
commit-made ns k c v is h =
    let w = spelled_version ns k v h in
    let u = made_of ns k (node.Commit c) (version v w.0) is w.1 in
    let o = option_map-some (λ (x : Version). version x (snapshot_of (length u.0) c.kind)) (commit_in u.0 c)
    (version v w.0) u.1 in
    let same : o.0 ≡ v = cc (o.2) in
    let begins : snapshot_of (length u.0) c.kind ≡ w.0 = cc (o.2) in
    let m = and_then-some (map_in u.0 c.root)
    (λ (x : Entries). option_map (λ (s : State). let r : Version = record { state = s; read = x } in r)
    (state_in u.0 c.kind x)) o.0 o.1 in
    let s = option_map-some (λ (s : State). let r : Version = record { state = s; read = m.0 } in r)
    (state_in u.0 c.kind m.0) o.0 m.2 in
    let r = below_map ns k u.0 c.root m.0 u.2 m.1 in
    let made : (let r : Version = record { state = s.0; read = m.0 } in r) ≡ v = s.2 ∙ same in
    let read : v.read ≡ m.0 = ap (λ (x : Version). x.read) (sym made) in (
      r.0,
      r.1 ∙ ap Some (sym read),
      ap (λ o. option_and_then as_snapshot o) w.1 ∙ ap Some (sym begins ∙ ap (λ (n : ℕ). snapshot_of n c.kind) u.3),
      made_so ns k u.0 c.kind m.0 s.0 v u.2 s.1 (ap (λ (x : Version). x.state) (sym made)) read,
    )

-- what spells a version is a commit, and what spells a segment a chunk
pub commit-at : (ns : Contents) (k : ℕ) (n : Node ℕ) (v : Version) → slice_get ns k ≡ Some n → version_at ns k ≡ Some v
    → (c : Commit ℕ) × (n ≡ node.Commit c)
commit-at ns k (node.Commit c) v is h = (c, refl)
commit-at ns k (node.Chunk c) v is h =
    let w = spelled_version ns k v h in
    let u = made_of ns k (node.Chunk c) (version v w.0) is w.1 in
    let o = option_map-some segment (chunk_in u.0 c) (version v w.0) u.1 in
    absurd (cc (o.2))

pub chunk-at : (ns : Contents) (k : ℕ) (n : Node ℕ) (s : Segment) → slice_get ns k ≡ Some n → segment_at ns k ≡ Some s
    → (c : Chunk ℕ) × (n ≡ node.Chunk c)
chunk-at ns k (node.Chunk c) s is h = (c, refl)
chunk-at ns k (node.Commit c) s is h =
    let u = made_of ns k (node.Commit c) (segment s) is (spelled_segment ns k s h) in
    let o = option_map-some (λ (x : Version). version x (snapshot_of (length u.0) c.kind)) (commit_in u.0 c)
    (segment s) u.1 in
    absurd (cc (o.2))

-- what is spelled has a content
pub content-at : (ns : Contents) (k : ℕ) (x : Spelled) → answer (spelled ns) k ≡ Some x
    → (n : Node ℕ) × (slice_get ns k ≡ Some n)
content-at ns k x h =
    let low = answer_within (spelled ns) k x h in
    elim (slice_get_cases ns k).1 [
      | inl p ↦ (p.0, p.2)
      | inr q ↦ absurd
          (omega (arith, low, length_folded spelled_by [] ns, q.0))
    ]

if_some : {A : Type 0} {P : Type 0} (b : Bool) (x y : A) → (if b then Some x else None) ≡ Some y
    → (b ≡ true → P) → P × (x ≡ y)
if_some true x y h f = (f refl, cc h)
if_some false x y h f = absurd (cc h)

rows_if-some : (d : ℕ) (s : Segment) (rows : Rows) → rows_if d s ≡ Some rows → (s.depth ≡ d) × (s.rows ≡ rows)
rows_if-some d s rows h = if_some (s.depth == d) s.rows rows h (λ e. eqb-true s.depth d e)

pub joined_one-some : (k : Bytes) (o more : Option Rows) (rows : Rows) → joined_one k o more ≡ Some rows
    → (rs : Rows) × (ms : Rows) × (o ≡ Some rs) × (more ≡ Some ms) × (rs ++ ms ≡ rows)
joined_one-some k None more rows h = absurd (cc h)
joined_one-some k (Some rs) None rows h = absurd (cc h)
joined_one-some k (Some rs) (Some ms) rows h =
    (rs, ms, refl, refl, (if_some {P = Unit {0}} (begins_with k rs) (rs ++ ms) rows h (λ e. tt)).1)

pub joined_there : (done : List (Option Spelled)) (d : ℕ) (es : List (Bytes × ℕ)) (rows : Rows) (c : ℕ)
    → joined_rows (map (λ x. (x.0, rows_in done d x.1)) es) ≡ Some rows → Contains (values_of es) c
    → (t : Segment) × (segment_in done c ≡ Some t) × (t.depth ≡ d)
joined_there done d [] rows c h has = absurd (no_element c has)
joined_there done d (e ∷ es) rows c h has =
    let r = joined_one-some e.0 (rows_in done d e.1) (joined_rows (map (λ x. (x.0, rows_in done d x.1)) es)) rows h in
    elim (cons_cases e.1 (values_of es) c has) [
      | inl q ↦ (let t = and_then-some (segment_in done e.1) (rows_if d) r.0 r.2 in
          (t.0, ap (segment_in done) (sym q) ∙ t.1, (rows_if-some d t.0 r.0 t.2).0))
      | inr q ↦ joined_there done d es r.1 c r.3 q
    ]

pub sized-some : (n depth : ℕ) (rows : Rows) (s : Segment) → sized n depth rows ≡ Some s
    → (s.depth ≡ depth) × (s.rows ≡ rows)
sized-some n depth rows s h = let e = (if_some {P = Unit {0}} (nat_le n 16)
    (let r : Segment = record { depth = depth; rows = rows } in r) s h (λ e. tt)).1 in
    (ap (λ (x : Segment). x.depth) (sym e), ap (λ (x : Segment). x.rows) (sym e))

-- An inner chunk: all its children are chunks of one depth, one less than its own, by smaller stamps.
pub inner-at : (ns : Contents) (k : ℕ) (kids : List (Bytes × ℕ)) (s : Segment)
    → slice_get ns k ≡ Some (node.Chunk (Inner kids)) → segment_at ns k ≡ Some s
    → (d : ℕ) × (s.depth ≡ d + 1) × ((c : ℕ) → Contains (values_of kids) c
    → (c < k) × ((t : Segment) × (segment_at ns c ≡ Some t) × (t.depth ≡ d)))
inner-at ns k [] s is h =
    let u = made_of ns k (node.Chunk (Inner [])) (segment s) is (spelled_segment ns k s h) in
    let o = option_map-some segment (chunk_in u.0 (Inner [])) (segment s) u.1 in absurd (cc (o.1))
inner-at ns k (e ∷ es) s is h =
    let u = made_of ns k (node.Chunk (Inner (e ∷ es))) (segment s) is (spelled_segment ns k s h) in
    let o = option_map-some segment (chunk_in u.0 (Inner (e ∷ es))) (segment s) u.1 in
    let same : o.0 ≡ s = cc (o.2) in
    let f = and_then-some (segment_in u.0 e.1) _ o.0 o.1 in
    let j = and_then-some (joined_rows (map (λ x. (x.0, rows_in u.0 f.0.depth x.1)) (e ∷ es)))
    (sized (length (e ∷ es)) (f.0.depth + 1)) o.0 f.2 in
    let z = sized-some (length (e ∷ es)) (f.0.depth + 1) j.0 o.0 j.2 in (
      f.0.depth,
      ap (λ (x : Segment). x.depth) (sym same) ∙ z.0,
      λ c has. let t = joined_there u.0 f.0.depth (e ∷ es) j.0 c j.1 has in
          let w = below_segment ns k u.0 c t.0 u.2 t.1 in (w.0, (t.0, w.1, t.2)),
    )
