-- What a root reaches, told by one look at a node.
use Rattle.std.proofs.Common.{◌≡◌, ◌↔◌, ℕ, List, [], ◌∷◌, map, Option, Some, None, refl, sym, ap, ◌∙◌, subst, slice_get}
use Rattle.std.specs.Prelude.{IsSome}
use Rattle.std.specs.List.{Contains}
use mathlib.Core.List.{IsPrefix}
use Rattle.group_history.specs.declared.nodes.Chunk.{Chunk}
use Rattle.group_history.specs.declared.nodes.Chunk.TheVariants.{Leaf, Inner}
use Rattle.group_history.specs.declared.nodes.Commit.{Commit}
use Rattle.group_history.specs.declared.nodes.CommitKind.{CommitKind}
use Rattle.group_history.specs.declared.nodes.CommitKind.TheVariants.{Snapshot, Over}
use Rattle.group_history.specs.declared.nodes.Node.{Node}
use Rattle.group_history.specs.declared.nodes.Node.TheVariants as node
use Rattle.group_history.specs.declared.refs.Ref.{Ref}
use Rattle.group_history.specs.Map.{Bytes, Entries}
use Rattle.group_history.specs.Refs.{stamp_of}
use Rattle.group_history.specs.Rows.{Rows, keys_of, values_of}
use Rattle.group_history.specs.Naming.{children, commits_named}
use Rattle.group_history.specs.Spelling.{Contents, Segment, Version, segment, chunk_in, segment_at, version_at, map_at}
use Rattle.group_history.specs.Spelling.{snapshot_at, snapshot_of}
use Rattle.group_history.proofs.Lists.{no_element, first_here, later_here}
use Rattle.map_chunks.specs.Places.{AreAll}
use Rattle.map_chunks.proofs.KeptLemmas.{IfAt}
use Rattle.commit_graph.specs.declared.chains.Base.{Base}
use Rattle.commit_graph.specs.declared.chains.Link.{Link}
use Rattle.commit_graph.specs.Inside.Chains.{LiesAt, IsShownAt, HasBase, base_in, top_of, snapshot_named, basis_named}
use Rattle.commit_graph.specs.Inside.Chains.{basis_of, link_named, link_of, next_of, next_told, said_named}
use Rattle.group_history.specs.State.{Ids}
use Rattle.commit_graph.specs.Reach.{Reaches, itself, through}
use Rattle.commit_graph.specs.Inside.Meeting.{keys_in, IsFirstKey, HasKeyAt, LiesChunk}
use Rattle.commit_graph.proofs.Spelled.{made_of, spelled_segment, option_map-some, sized-some, chunk-at, inner-at}
use Rattle.commit_graph.proofs.Spelled.{not_both}
use Rattle.commit_graph.proofs.Spelled.{segment-grown, map-grown, commit-made, commit-at, content-at, spelled_version}
use Rattle.commit_graph.proofs.Choosing.{filled, first_part}
use Rattle.commit_graph.proofs.Descending.{inner_parts, map_ordered}
use Rattle.commit_graph.proofs.Reached.{there_segment, reaches_stays, reaches_back, reaches_child}

-- a leaf's rows
leaf_rows : (ns : Contents) (k : ℕ) (rows : Rows) (s : Segment) → segment_at ns k ≡ Some s
    → slice_get ns k ≡ Some (node.Chunk (Leaf rows)) → s.rows ≡ rows
leaf_rows ns k rows s h is =
    let u = made_of ns k (node.Chunk (Leaf rows)) (segment s) is (spelled_segment ns k s h) in
    let o = option_map-some segment (chunk_in u.0 (Leaf rows)) (segment s) u.1 in
    let same : o.0 ≡ s = cc (o.2) in
    ap (λ (x : Segment). x.rows) (sym same) ∙ (sized-some _ 1 rows o.0 o.1).1

first_has : (ns : Contents) (k : ℕ) (s : Segment) (c : Chunk Ref) (key : Bytes) → segment_at ns k ≡ Some s
    → LiesChunk ns k c → IsFirstKey (keys_in c) (Some key) → HasKeyAt ns k key
first_has ns k s (Leaf rows) key h lies f = (
  s,
  h,
  subst (λ (w : Rows). Contains (keys_of w) key) (sym (leaf_rows ns k rows s h lies))
      (subst (λ (w : List Bytes). Contains w key) (sym f.1) (first_here key f.0)),
)
first_has ns k s (Inner []) key h lies f = absurd (cc (f.1))
first_has ns k s (Inner (e ∷ es)) key h lies f =
    let p = inner_parts ns k (map (λ (e : Bytes × Ref). (e.0, stamp_of e.1)) (e ∷ es)) s lies h in
    let same : e.0 ≡ key = cc (f.1) in (
      s,
      h,
      subst (λ (w : Bytes). Contains (keys_of s.rows) w) same
          (first_part p.0 p.1 key (e.0, stamp_of e.1) (map (λ (e : Bytes × Ref). (e.0, stamp_of e.1)) es) s.rows p.2),
    )

-- an inner chunk has a row, and so has each of its children
child_filled : (ns : Contents) (k : ℕ) (kids : List (Bytes × ℕ)) (s t : Segment) (c : ℕ)
    → slice_get ns k ≡ Some (node.Chunk (Inner kids)) → segment_at ns k ≡ Some s → Contains (values_of kids) c
    → segment_at ns c ≡ Some t → t.rows ≡ [] → ⊥
child_filled ns k kids s t c is h has at none = let p = inner_parts ns k kids s is h in
    filled p.0 p.1 [] kids s.rows c t.rows p.2 has (p.3 c t has at) none

-- a chunk reaches chunks alone
pub chunk_reaches : (ns : Contents) (a b : ℕ) (s : Segment) → segment_at ns a ≡ Some s → Reaches ns a b
    → (t : Segment) × (segment_at ns b ≡ Some t)
chunk_reaches ns _ _ s h (itself a) = (s, h)
chunk_reaches ns _ _ s h (through a c b n is child rest) =
    let m = chunk-at ns a n s is h in
    let t = next ns a c s h m.0 (is ∙ ap Some m.1) (subst (λ (w : Node ℕ). Contains (children w) c) m.1 child) in
    chunk_reaches ns c b t.0 t.1 rest
  where
    next : (ns : Contents) (a c : ℕ) (s : Segment) → segment_at ns a ≡ Some s → (n : Chunk ℕ)
        → slice_get ns a ≡ Some (node.Chunk n) → Contains (children (node.Chunk n)) c
        → (t : Segment) × (segment_at ns c ≡ Some t)
    next ns a c s h (Leaf rows) is i = absurd (no_element c i)
    next ns a c s h (Inner kids) is i = let t = ((inner-at ns a kids s is h).2 c i).1 in (t.0, t.1)

pub commit_unreached : (ns : Contents) (a b : ℕ) (s : Segment) (v : Version) → segment_at ns a ≡ Some s
    → version_at ns b ≡ Some v → Reaches ns a b → ⊥
commit_unreached ns a b s v h e r = let t = chunk_reaches ns a b s h r in not_both ns b t.0 v t.1 e

-- a chunk without rows is reached by itself alone
reach_empty : (ns : Contents) (a b : ℕ) (s t : Segment) → segment_at ns a ≡ Some s → segment_at ns b ≡ Some t
    → t.rows ≡ [] → Reaches ns a b → a ≡ b
reach_empty ns _ _ s t h e none (itself a) = refl
reach_empty ns _ _ s t h e none (through a c b n is child rest) =
    let m = chunk-at ns a n s is h in
    absurd (bad ns a b c s t h e none m.0 (is ∙ ap Some m.1) (subst (λ (w : Node ℕ). Contains (children w) c) m.1 child)
    (λ u g. reach_empty ns c b u t g e none rest))
  where
    bad : (ns : Contents) (a b c : ℕ) (s t : Segment) → segment_at ns a ≡ Some s → segment_at ns b ≡ Some t
        → t.rows ≡ [] → (n : Chunk ℕ) → slice_get ns a ≡ Some (node.Chunk n) → Contains (children (node.Chunk n)) c
        → ((u : Segment) → segment_at ns c ≡ Some u → c ≡ b) → ⊥
    bad ns a b c s t h e none (Leaf rows) is i below = no_element c i
    bad ns a b c s t h e none (Inner kids) is i below =
        let u = ((inner-at ns a kids s is h).2 c i).1 in
        child_filled ns a kids s t c is h i (ap (segment_at ns) (below u.0 u.1) ∙ e) none

empty_only : (ns : Contents) (root k : ℕ) (r s : Segment) (c : Chunk Ref) → segment_at ns root ≡ Some r
    → segment_at ns k ≡ Some s → LiesChunk ns k c → IsFirstKey (keys_in c) None → (k ≡ root) ↔ Reaches ns root k
empty_only ns root k r s (Leaf rows) g h lies f = (
  λ e. subst (λ (w : ℕ). Reaches ns root w) (sym e) (itself root),
  λ w. sym (reach_empty ns root k r s g h (leaf_rows ns k rows s h lies ∙ no_keys rows f) w),
)
  where
    no_keys : (rs : Rows) → keys_of rs ≡ [] → rs ≡ []
    no_keys [] h = refl
    no_keys (r ∷ rs) h = absurd (cc h)
empty_only ns root k r s (Inner kids) g h lies f = absurd (none kids f lies)
  where
    none : (es : List (Bytes × Ref)) → keys_of es ≡ [] → LiesChunk ns k (Inner es) → ⊥
    none [] f lies =
        let u = made_of ns k (node.Chunk (Inner [])) (segment s) lies (spelled_segment ns k s h) in
        let o = option_map-some segment (chunk_in u.0 (Inner [])) (segment s) u.1 in cc (o.1)
    none (e ∷ es) f lies = cc f

-- a head reaches the snapshot of its chain, and the root that it names
pub snapshot_reached : (ns : Contents) (k : ℕ) (v : Version) (j : ℕ) → version_at ns k ≡ Some v
    → snapshot_at ns k ≡ Some j → Reaches ns k j
snapshot_reached ns k v j h s =
    let d = content-at ns k _ (spelled_version ns k v h).1 in
    let c = commit-at ns k d.0 v d.1 h in
    let is : slice_get ns k ≡ Some (node.Commit c.0) = d.1 ∙ ap Some c.1 in
    let e : Some j ≡ Some (snapshot_of k c.0.kind) = sym s ∙ (commit-made ns k c.0 v is h).2 in
    let at : j ≡ snapshot_of k c.0.kind = cc e in
    subst (Reaches ns k) (sym at) (by c.0.root c.0.kind is)
  where
    by : (root : ℕ) (kind : CommitKind ℕ) → slice_get ns k ≡ Some (node.Commit (record { root = root; kind = kind }))
        → Reaches ns k (snapshot_of k kind)
    by root (Snapshot s) is = itself k
    by root (Over o) is = reaches_child ns k k o.snapshot _ (itself k) is
        (later_here root (o.basis ∷ o.snapshot ∷ []) o.snapshot
        (later_here o.basis (o.snapshot ∷ []) o.snapshot (first_here o.snapshot [])))

pub root_reached : (ns : Contents) (head k : ℕ) (c : Commit Ref) → Reaches ns head k → LiesAt ns k c
    → Reaches ns head (stamp_of c.root)
root_reached ns head k c reached lies = reaches_child ns head k (stamp_of c.root) _ reached lies
    (first_here (stamp_of c.root) _)

-- what a shown commit names may be looked for: its root
pub root_may : (may : Ref → Type 0) (ns : Contents) (k : ℕ) (c : Commit Ref) → IsShownAt may ns k c → may c.root
root_may may ns k c at = at.0 c.root (first_here c.root (commits_named c.kind))

-- the snapshot of its chain, which is itself where it is one
snapshot_may_be : (may : Ref → Type 0) (head root : Ref) (kind : CommitKind Ref)
    → AreAll may (root ∷ commits_named kind)
    → may head → may (snapshot_named head kind)
snapshot_may_be may head root (Snapshot s) all here = here
snapshot_may_be may head root (Over o) all here = all o.snapshot
    (later_here root (commits_named (Over o)) o.snapshot
    (later_here o.basis (o.snapshot ∷ []) o.snapshot (first_here o.snapshot [])))

pub snapshot_may : (may : Ref → Type 0) (ns : Contents) (head : Ref) (k : ℕ) (c : Commit Ref) → may head
    → IsShownAt may ns k c → may (top_of head c).snapshot
snapshot_may may ns head k c here at = snapshot_may_be may head c.root c.kind at.0 here

-- and its basis
basis_may_be : (may : Ref → Type 0) (root : Ref) (kind : CommitKind Ref) → AreAll may (root ∷ commits_named kind)
    → IfAt may (basis_named kind)
basis_may_be may root (Snapshot s) all = tt
basis_may_be may root (Over o) all = all o.basis
    (later_here root (commits_named (Over o)) o.basis (first_here o.basis (o.snapshot ∷ [])))

pub basis_may : (may : Ref → Type 0) (ns : Contents) (k : ℕ) (c : Commit Ref) → IsShownAt may ns k c
    → IfAt may (basis_of c)
basis_may may ns k c at = basis_may_be may c.root c.kind at.0

next_may_be : (may : Ref → Type 0) (basis : Ref) (told : Option Ids) → may basis → IfAt may (next_told basis told)
next_may_be may basis None h = h
next_may_be may basis (Some ids) h = tt

next_named_may : (may : Ref → Type 0) (root : Ref) (kind : CommitKind Ref) → AreAll may (root ∷ commits_named kind)
    → IfAt may (said_named kind).next
next_named_may may root (Snapshot s) all = tt
next_named_may may root (Over o) all = next_may_be may o.basis o.told (basis_may_be may root (Over o) all)

pub next_may : (may : Ref → Type 0) (ns : Contents) (k : ℕ) (c : Commit Ref) → IsShownAt may ns k c
    → IfAt may (next_of c)
next_may may ns k c at = next_named_may may c.root c.kind at.0

link_may_be : (may : Ref → Type 0) (root : Ref) (kind : CommitKind Ref) (l : Link)
    → AreAll may (root ∷ commits_named kind)
    → link_named kind ≡ Some l → may l.basis
link_may_be may root (Snapshot s) l all e = absurd (cc e)
link_may_be may root (Over o) l all e = let same : o.basis ≡ l.basis = cc e in
    subst may same (basis_may_be may root (Over o) all)

pub link_may : (may : Ref → Type 0) (ns : Contents) (k : ℕ) (c : Commit Ref) (l : Link) → IsShownAt may ns k c
    → link_of c ≡ Some l → may l.basis
link_may may ns k c l at e = link_may_be may c.root c.kind l at.0 e

-- the pulled map's root is that of the snapshot
base_root_named : (root : Ref) (kind : CommitKind Ref) (base : Base) → base_in root kind base → root ≡ base.pulled
base_root_named root (Snapshot s) base h = sym (ap (λ (w : Base). w.pulled) h)
base_root_named root (Over o) base h = absurd h

pub base_named : (c : Commit Ref) (base : Base) → HasBase c base → c.root ≡ base.pulled
base_named c base h = base_root_named c.root c.kind base h

pub some_segment : (ns : Contents) (k : ℕ) → IsSome (segment_at ns k) → (s : Segment) × (segment_at ns k ≡ Some s)
some_segment ns k h = of (segment_at ns k) h
  where
    of : (o : Option Segment) → IsSome o → (s : Segment) × (o ≡ Some s)
    of None h = absurd (cc h)
    of (Some s) h = (s, refl)

pub segment_some_stays : (ns more : Contents) (k : ℕ) → IsPrefix ns more → IsSome (segment_at ns k)
    → IsSome (segment_at more k)
segment_some_stays ns more k pre h = let s = some_segment ns k h in
    subst IsSome (sym (segment-grown ns more k s.0 pre s.1)) refl

pub map_some_stays : (ns more : Contents) (k : ℕ) → IsPrefix ns more → IsSome (map_at ns k) → IsSome (map_at more k)
map_some_stays ns more k pre h = of (map_at ns k) refl h
  where
    of : (o : Option Entries) → map_at ns k ≡ o → IsSome o → IsSome (map_at more k)
    of None e h = absurd (cc h)
    of (Some m) e h = subst (λ (o : Option Entries). IsSome o) (sym (map-grown ns more k m pre e)) refl

-- what a root reaches it reaches in longer contents, and the other way
pub kept_grown : (ns more : Contents) (root k : ℕ) → IsSome (map_at ns root) → IsPrefix ns more
    → Reaches ns root k ↔ Reaches more root k
kept_grown ns more root k h pre = let o = map_ordered ns root h in
    (reaches_stays ns more root k pre, reaches_back ns more root k pre (there_segment ns root o.0 o.1))

pub kept_empty : (ns more : Contents) (root k : ℕ) (c : Chunk Ref) → IsSome (map_at ns root) → IsSome (segment_at ns k)
    → IsPrefix ns more → LiesChunk more k c → IsFirstKey (keys_in c) None → (k ≡ root) ↔ Reaches more root k
kept_empty ns more root k c h s pre lies f =
    let o = map_ordered ns root h in let t = some_segment ns k s in
    empty_only more root k o.0 t.0 c (segment-grown ns more root o.0 pre o.1)
    (segment-grown ns more k t.0 pre t.1) lies f

pub kept_key : (ns more : Contents) (k : ℕ) (c : Chunk Ref) (key : Bytes) → IsSome (segment_at ns k) → IsPrefix ns more
    → LiesChunk more k c → IsFirstKey (keys_in c) (Some key) → HasKeyAt more k key
kept_key ns more k c key s pre lies f = let t = some_segment ns k s in
    first_has more k t.0 c key (segment-grown ns more k t.0 pre t.1) lies f

pub reaches_on : (ns : Contents) (a b c : ℕ) → Reaches ns a b → Reaches ns b c → Reaches ns a c
reaches_on ns _ _ c (itself a) r = r
reaches_on ns _ _ c (through a d b n is child rest) r = through a d c n is child (reaches_on ns d b c rest r)
