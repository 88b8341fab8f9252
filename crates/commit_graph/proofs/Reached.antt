-- How stamps are reached.
use Rattle.std.proofs.Common.{◌≡◌, ℕ, ◌<◌, inl, inr, List, [], ◌∷◌, map, Some, Option, arith, slice_get, refl, ap, sym}
use Rattle.std.proofs.Common.{subst, ◌∙◌}
use Rattle.std.specs.Prelude.{option_and_then, IsSome}
use Rattle.std.specs.List.{Contains}
use mathlib.Core.List.{IsPrefix}
use Rattle.group_history.specs.declared.nodes.Chunk.{Chunk}
use Rattle.group_history.specs.declared.nodes.Chunk.TheVariants.{Leaf, Inner}
use Rattle.group_history.specs.declared.nodes.Commit.{Commit}
use Rattle.group_history.specs.declared.nodes.CommitKind.{CommitKind}
use Rattle.group_history.specs.declared.nodes.CommitKind.TheVariants.{Snapshot, Over}
use Rattle.group_history.specs.declared.nodes.Node.{Node}
use Rattle.group_history.specs.declared.nodes.Node.TheVariants as node
use Rattle.group_history.specs.declared.refs.Ref.{Ref}
use Rattle.group_history.specs.Map.{Bytes, Entries}
use Rattle.group_history.specs.Refs.{stamp_of}
use Rattle.group_history.specs.Rows.{values_of}
use Rattle.group_history.specs.Folds.{answer}
use Rattle.group_history.specs.Naming.{children, commits_named, renamed_kind, content_of, chunk_content, commit_content}
use Rattle.group_history.specs.Spelling.{Contents, Segment, Version, Spelled, segment, version, as_segment, as_version}
use Rattle.group_history.specs.Spelling.{spelled, segment_at, version_at, map_at, segment_map}
use Rattle.group_history.proofs.Folding.{and_then-some}
use Rattle.commit_graph.specs.declared.founds.NamedNode.{NamedNode}
use Rattle.commit_graph.specs.declared.founds.NamedNode.TheVariants as found
use Rattle.commit_graph.specs.Reach.{Reaches, itself, through}
use Rattle.commit_graph.specs.Inside.Reach.{IsSpelled, stamp_in, ref_in, found_in}
use Rattle.commit_graph.proofs.Spelled.{IsMade, commit-made, inner-at, commit-at, chunk-at, content-at, spelled_version}
use Rattle.commit_graph.proofs.Spelled.{spelled_segment, segment-grown, version-grown}
use Rattle.commit_graph.proofs.Snapshots.{begins}
use Rattle.commit_graph.proofs.Chained.{get_stays, some_version}
use Rattle.group_history.proofs.Lists.{only_one, cons_cases, no_element, map_from, map_to}

-- the stamp spells something
abbrev pub IsThere : Contents → ℕ → Type 0
IsThere ns k = (x : Spelled) × (answer (spelled ns) k ≡ Some x)

pub there_segment : (ns : Contents) (k : ℕ) (s : Segment) → segment_at ns k ≡ Some s → IsThere ns k
there_segment ns k s h = (segment s, spelled_segment ns k s h)

pub there_version : (ns : Contents) (k : ℕ) (v : Version) → version_at ns k ≡ Some v → IsThere ns k
there_version ns k v h = let w = spelled_version ns k v h in (version v w.0, w.1)

root_segment : (ns : Contents) (k : ℕ) (m : Entries) → map_at ns k ≡ Some m
    → (s : Segment) × (segment_at ns k ≡ Some s)
root_segment ns k m h = let s = and_then-some (segment_at ns k) segment_map m h in (s.0, s.1)

-- The commits that a commit names have smaller stamps and spell versions.
named_commit : (ns : Contents) (k c : ℕ) (kind : CommitKind ℕ) (v : Version) → IsMade ns k kind v
    → Contains (commits_named kind) c → (c < k) × IsSome (version_at ns c)
named_commit ns k c (Snapshot s) v made has = absurd (no_element c has)
named_commit ns k c (Over o) v made has =
    let b = begins ns o.basis made.0 o.snapshot made.2 made.3 in
    elim (cons_cases o.basis (o.snapshot ∷ []) c has) [
      | inl e ↦ subst (λ (w : ℕ). (w < k) × IsSome (version_at ns w)) e
          (made.1, subst (λ (w : Option Version). IsSome w) (sym made.2) refl)
      | inr q ↦ subst (λ (w : ℕ). (w < k) × IsSome (version_at ns w)) (only_one o.snapshot c q)
          (omega (arith, b.low, made.1), b.lies.0)
    ]

-- The children of what spells something have smaller stamps and spell something.
commit_child : (ns : Contents) (k c : ℕ) (n : Commit ℕ) (v : Version) → slice_get ns k ≡ Some (node.Commit n)
    → version_at ns k ≡ Some v → Contains (children (node.Commit n)) c → (c < k) × IsThere ns c
commit_child ns k c n v is h has =
    let f = commit-made ns k n v is h in
    elim (cons_cases n.root (commits_named n.kind) c has) [
      | inl e ↦ (let r = root_segment ns n.root v.read f.1 in
          subst (λ (w : ℕ). (w < k) × IsThere ns w) e (f.0, there_segment ns n.root r.0 r.1))
      | inr q ↦ (let d = named_commit ns k c n.kind v f.3 q in let w = some_version ns c d.1 in
          (d.0, there_version ns c w.0 w.1))
    ]

chunk_child : (ns : Contents) (k c : ℕ) (n : Chunk ℕ) (s : Segment) → slice_get ns k ≡ Some (node.Chunk n)
    → segment_at ns k ≡ Some s → Contains (children (node.Chunk n)) c → (c < k) × IsThere ns c
chunk_child ns k c (Leaf rows) s is h has = absurd (no_element c has)
chunk_child ns k c (Inner kids) s is h has =
    let f = inner-at ns k kids s is h in let t = f.2 c has in (t.0, there_segment ns c t.1.0 t.1.1)

pub child_there : (ns : Contents) (k c : ℕ) (n : Node ℕ) → IsThere ns k → slice_get ns k ≡ Some n
    → Contains (children n) c → (c < k) × IsThere ns c
child_there ns k c n (version v j, h) is has =
    let at : version_at ns k ≡ Some v = ap (λ o. option_and_then as_version o) h in
    let m = commit-at ns k n v is at in
    commit_child ns k c m.0 v (is ∙ ap Some m.1) at (subst (λ (w : Node ℕ). Contains (children w) c) m.1 has)
child_there ns k c n (segment s, h) is has =
    let at : segment_at ns k ≡ Some s = ap (λ o. option_and_then as_segment o) h in
    let m = chunk-at ns k n s is at in
    chunk_child ns k c m.0 s (is ∙ ap Some m.1) at (subst (λ (w : Node ℕ). Contains (children w) c) m.1 has)

pub reaches_stays : (ns more : Contents) (a b : ℕ) → IsPrefix ns more → Reaches ns a b → Reaches more a b
reaches_stays ns more _ _ pre (itself a) = itself a
reaches_stays ns more _ _ pre (through a c b n is has rest) = through a c b n (get_stays ns more a n pre is) has
    (reaches_stays ns more c b pre rest)

-- what a stamp that spells something reaches in longer contents it reached before
pub reaches_back : (ns more : Contents) (a b : ℕ) → IsPrefix ns more → IsThere ns a → Reaches more a b → Reaches ns a b
reaches_back ns more _ _ pre s (itself a) = itself a
reaches_back ns more _ _ pre s (through a c b n is has rest) =
    let k = content-at ns a s.0 s.1 in
    let same : n ≡ k.0 = (let e : Some n ≡ Some k.0 = sym is ∙ get_stays ns more a k.0 pre k.1 in cc e) in
    let child = subst (λ (m : Node ℕ). Contains (children m) c) same has in
    through a c b k.0 k.1 child (reaches_back ns more c b pre (child_there ns a c k.0 s k.1 child).1 rest)

-- one child further
pub reaches_child : (ns : Contents) (a k c : ℕ) (n : Node ℕ) → Reaches ns a k → slice_get ns k ≡ Some n
    → Contains (children n) c → Reaches ns a c
reaches_child ns _ _ d m (itself a) is has = through a d d m is has (itself d)
reaches_child ns _ _ d m (through a c b n at child rest) is has = through a c d n at child
    (reaches_child ns c b d m rest is has)

-- a set that has the children of each of its stamps has all that these reach
pub closed : (ns : Contents) (P : ℕ → Type 0)
    → ((x : ℕ) → P x → (n : Node ℕ) × (slice_get ns x ≡ Some n) × ((c : ℕ) → Contains (children n) c → P c))
    → (a b : ℕ) → Reaches ns a b → P a → P b
closed ns P h _ _ (itself a) has = has
closed ns P h _ _ (through a c b n is child rest) has =
    let r = h a has in
    let same : n ≡ r.0 = (let e : Some n ≡ Some r.0 = sym is ∙ r.1 in cc e) in
    closed ns P h c b rest (r.2 c (subst (λ (m : Node ℕ). Contains (children m) c) same child))

-- what a node names, by stamp and by reference
kid_stamps : (kids : List (Bytes × Ref))
    → map stamp_in (map found.Chunk (values_of kids)) ≡ values_of (map (λ (e : Bytes × Ref). (e.0, stamp_of e.1)) kids)
kid_stamps [] = refl
kid_stamps (e ∷ es) = ap (λ w. stamp_of e.1 ∷ w) (kid_stamps es)

named_stamps : (kind : CommitKind Ref) → map stamp_in (map found.Commit (commits_named kind))
    ≡ commits_named (renamed_kind stamp_of kind)
named_stamps (Snapshot s) = refl
named_stamps (Over o) = refl

pub found_stamps : (n : Node Ref) → map stamp_in (found_in n) ≡ children (content_of n)
found_stamps (node.Chunk (Leaf rows)) = refl
found_stamps (node.Chunk (Inner kids)) = kid_stamps kids
found_stamps (node.Commit c) = ap (λ w. stamp_of c.root ∷ w) (named_stamps c.kind)

kid_refs : (rs : List Ref) → map ref_in (map found.Chunk rs) ≡ rs
kid_refs [] = refl
kid_refs (r ∷ rs) = ap (λ w. r ∷ w) (kid_refs rs)

named_refs : (kind : CommitKind Ref) → map ref_in (map found.Commit (commits_named kind)) ≡ commits_named kind
named_refs (Snapshot s) = refl
named_refs (Over o) = refl

pub found_refs : (n : Node Ref) → map ref_in (found_in n) ≡ children n
found_refs (node.Chunk (Leaf rows)) = refl
found_refs (node.Chunk (Inner kids)) = kid_refs (values_of kids)
found_refs (node.Commit c) = ap (λ w. c.root ∷ w) (named_refs c.kind)

pub there_found : (ns : Contents) (f : NamedNode) → IsSpelled ns f → IsThere ns (stamp_in f)
there_found ns (found.Chunk r) s = there_segment ns (stamp_of r) s.0 s.1
there_found ns (found.Commit r) s = there_version ns (stamp_of r) s.0 s.1

pub spelled_grown : (ns more : Contents) (f : NamedNode) → IsPrefix ns more → IsSpelled ns f → IsSpelled more f
spelled_grown ns more (found.Chunk r) pre s = (s.0, segment-grown ns more (stamp_of r) s.0 pre s.1)
spelled_grown ns more (found.Commit r) pre s = (s.0, version-grown ns more (stamp_of r) s.0 pre s.1)

-- What a node names is of its kind.
commit_names : (ns : Contents) (k : ℕ) (c : Commit Ref) (v : Version) (f : NamedNode)
    → slice_get ns k ≡ Some (commit_content c) → version_at ns k ≡ Some v → Contains (found_in (node.Commit c)) f
    → IsSpelled ns f
commit_names ns k c v f is h has =
    let a = commit-made ns k _ v is h in
    elim (cons_cases (found.Chunk c.root) (map found.Commit (commits_named c.kind)) f has) [
      | inl e ↦ subst (IsSpelled ns) e (root_segment ns (stamp_of c.root) v.read a.1)
      | inr q ↦
          let r = map_from found.Commit (commits_named c.kind) f q in
          let low = subst (λ (w : List ℕ). Contains w (stamp_in f)) (named_stamps c.kind)
          (map_to stamp_in (map found.Commit (commits_named c.kind)) f q) in
          let d = named_commit ns k (stamp_in f) (renamed_kind stamp_of c.kind) v a.3 low in
          subst (IsSpelled ns) r.2 (some_version ns (stamp_of r.0)
          (subst (λ (w : NamedNode). IsSome (version_at ns (stamp_in w))) (sym r.2) d.1))
    ]

chunk_names : (ns : Contents) (k : ℕ) (c : Chunk Ref) (s : Segment) (f : NamedNode)
    → slice_get ns k ≡ Some (chunk_content c) → segment_at ns k ≡ Some s → Contains (found_in (node.Chunk c)) f
    → IsSpelled ns f
chunk_names ns k (Leaf rows) s f is h has = absurd (no_element f has)
chunk_names ns k (Inner kids) s f is h has =
    let a = inner-at ns k (map (λ (e : Bytes × Ref). (e.0, stamp_of e.1)) kids) s is h in
    let r = map_from found.Chunk (values_of kids) f has in
    let low = subst (λ (w : List ℕ). Contains w (stamp_in f)) (kid_stamps kids)
    (map_to stamp_in (map found.Chunk (values_of kids)) f has) in
    let t = a.2 (stamp_in f) low in
    subst (IsSpelled ns) r.2 (t.1.0, ap (λ (w : NamedNode). segment_at ns (stamp_in w)) r.2 ∙ t.1.1)

pub names_spelled : (ns : Contents) (at f : NamedNode) (n : Node Ref) → IsSpelled ns at
    → slice_get ns (stamp_in at) ≡ Some (content_of n) → Contains (found_in n) f → IsSpelled ns f
names_spelled ns (found.Chunk r) f (node.Chunk c) s is has = chunk_names ns (stamp_of r) c s.0 f is s.1 has
names_spelled ns (found.Chunk r) f (node.Commit c) s is has = let m = chunk-at ns (stamp_of r)
    (content_of (node.Commit c)) s.0 is s.1 in absurd (cc (m.1))
names_spelled ns (found.Commit r) f (node.Commit c) v is has = commit_names ns (stamp_of r) c v.0 f is v.1 has
names_spelled ns (found.Commit r) f (node.Chunk c) v is has = let m = commit-at ns (stamp_of r)
    (content_of (node.Chunk c)) v.0 is v.1 in absurd (cc (m.1))
