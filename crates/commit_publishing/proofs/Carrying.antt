-- A draft spells under the stamps that it drew what it spelled under its own numbers.
use Rattle.std.proofs.Common.{◌≡◌, ℕ, zero, suc, ◌+◌, ◌-◌, ◌<◌, ◌≤◌, ◌==◌, ◌⊎◌, inl, inr, List, [], ◌∷◌, ◌++◌, length}
use Rattle.std.proofs.Common.{map, Some, None, Option, nat_lt, refl, ap, sym, subst, ◌∙◌, arith, length-append}
use Rattle.std.specs.List.{Contains}
use Rattle.std.specs.Prelude.{option_and_then, option_map, if◌then◌else◌}
use Rattle.std.proofs.lemmas.List.{length-map}
use Rattle.std.proofs.lemmas.Bool.{cond-true, cond-false, eq-eqb}
use Rattle.std.proofs.lemmas.Bool.Decides.{nat_tests, eqb_tells}
use mathlib.Core.List.{IsPrefix}
use Rattle.group_history.specs.declared.nodes.Chunk.TheVariants.{Leaf, Inner}
use Rattle.group_history.specs.declared.nodes.Commit.{Commit}
use Rattle.group_history.specs.declared.nodes.CommitKind.{CommitKind}
use Rattle.group_history.specs.declared.nodes.CommitKind.TheVariants.{Snapshot, Over}
use Rattle.group_history.specs.declared.nodes.Node.{Node}
use Rattle.group_history.specs.declared.nodes.Node.TheVariants as node
use Rattle.group_history.specs.declared.refs.Ref.{Ref}
use Rattle.group_history.specs.Folds.{folded, joined, answer}
use Rattle.group_history.specs.Map.{Bytes, Entries}
use Rattle.group_history.specs.Naming.{content_of, placed_ref, renamed, renamed_kind, renamed_commit}
use Rattle.group_history.specs.Refs.{stamp_of}
use Rattle.group_history.specs.Rows.{Rows}
use Rattle.group_history.specs.Spelling.{Contents, Segment, Version, Spelled, as_segment, as_version, as_snapshot}
use Rattle.group_history.specs.Spelling.{segment, version, segment_in, version_in, snapshot_in, rows_if, rows_in}
use Rattle.group_history.specs.Spelling.{joined_one, joined_rows, sized, inner_in, segment_map, map_in, basis_in}
use Rattle.group_history.specs.Spelling.{state_over}
use Rattle.group_history.specs.Spelling.{state_in, commit_in, snapshot_of, spelled_by, spelled, version_at}
use Rattle.group_history.specs.State.{State}
use Rattle.group_history.proofs.Folding.{and_then-some, answer_more, answer_within, seam, folded_more, folded_stays}
use Rattle.group_history.proofs.Lists.{prefix_trans}
use Rattle.group_history.proofs.Spellings.{length-spelled}
use Rattle.map_chunks.specs.Drafts.{Drafted}
use Rattle.map_chunks.specs.Places.{with_nodes}
use Rattle.commit_graph.proofs.Spelled.{option_map-some, joined_one-some, spelled_version, version-grown}
use Rattle.commit_graph.proofs.Snapshots.{begins}
use Rattle.commit_publishing.specs.Stamped.{stamped, restamped, drawn_as}
use Rattle.commit_publishing.specs.Placed.{IsPlaced}
use Rattle.commit_publishing.proofs.Numbers.{ref_among, ref_stamped}
use Rattle.commit_publishing.proofs.Renaming.{renamed-renamed}

-- what is spelled, where stamps are named anew
abbrev carried : (ℕ → ℕ) → Spelled → Spelled
carried h (segment s) = segment s
carried h (version v k) = version v (h k)

segment-kept : (h : ℕ → ℕ) (x : Spelled) → as_segment (carried h x) ≡ as_segment x
segment-kept h (segment s) = refl
segment-kept h (version v k) = refl

version-kept : (h : ℕ → ℕ) (x : Spelled) → as_version (carried h x) ≡ as_version x
version-kept h (segment s) = refl
version-kept h (version v k) = refl

snapshot-named : (h : ℕ → ℕ) (x : Spelled) (k : ℕ) → as_snapshot x ≡ Some k → as_snapshot (carried h x) ≡ Some (h k)
snapshot-named h (segment s) k is = absurd cc
snapshot-named h (version v j) k is = ap (λ i. Some (h i)) (let e : j ≡ k = cc is in e)

-- what `done` answers, `more` answers where stamps are named anew
abbrev Carries : List (Option Spelled) → List (Option Spelled) → (ℕ → ℕ) → Type 0
Carries done more h = (k : ℕ) (x : Spelled) → answer done k ≡ Some x → answer more (h k) ≡ Some (carried h x)

abbrev kids_by : (ℕ → ℕ) → List (Bytes × ℕ) → List (Bytes × ℕ)
kids_by f kids = map (λ e. (e.0, f e.1)) kids

abbrev shows_in : List (Option Spelled) → ℕ → List (Bytes × ℕ) → List (Bytes × Option Rows)
shows_in done d kids = map (λ x. (x.0, rows_in done d x.1)) kids

-- a test that was passed
test-passed : {A : Type 0} (a b : ℕ) (o : Option A) (x : A) → (if a == b then o else None) ≡ Some x
    → (a ≡ b) × (o ≡ Some x)
test-passed a b o x is = elim (eqb_tells a b) [
  | inl same ↦ (same.1, sym (cond-true (a == b) o None (eq-eqb a b same.1)) ∙ is)
  | inr other ↦ absurd (let e : None ≡ Some x = sym (cond-false (a == b) o None other.0) ∙ is in cc e)
]

module _ (done more : List (Option Spelled)) (h : ℕ → ℕ) (go : Carries done more h) where
  segment-carried : (k : ℕ) (s : Segment) → segment_in done k ≡ Some s → segment_in more (h k) ≡ Some s
  segment-carried k s is = let m = and_then-some (answer done k) as_segment s is in
      ap (λ o. option_and_then as_segment o) (go k m.0 m.1) ∙ (segment-kept h m.0 ∙ m.2)

  version-carried : (k : ℕ) (v : Version) → version_in done k ≡ Some v → version_in more (h k) ≡ Some v
  version-carried k v is = let m = and_then-some (answer done k) as_version v is in
      ap (λ o. option_and_then as_version o) (go k m.0 m.1) ∙ (version-kept h m.0 ∙ m.2)

  snapshot-carried : (k j : ℕ) → snapshot_in done k ≡ Some j → snapshot_in more (h k) ≡ Some (h j)
  snapshot-carried k j is = let m = and_then-some (answer done k) as_snapshot j is in
      ap (λ o. option_and_then as_snapshot o) (go k m.0 m.1) ∙ snapshot-named h m.0 j m.2

  rows-carried : (d : ℕ) (k : ℕ) (rows : Rows) → rows_in done d k ≡ Some rows → rows_in more d (h k) ≡ Some rows
  rows-carried d k rows is = let s = and_then-some (segment_in done k) (rows_if d) rows is in
      ap (λ o. option_and_then (rows_if d) o) (segment-carried k s.0 s.1) ∙ s.2

  map-carried : (k : ℕ) (m : Entries) → map_in done k ≡ Some m → map_in more (h k) ≡ Some m
  map-carried k m is = let s = and_then-some (segment_in done k) segment_map m is in
      ap (λ o. option_and_then segment_map o) (segment-carried k s.0 s.1) ∙ s.2

  joined-carried : (d : ℕ) (kids : List (Bytes × ℕ)) (rows : Rows) → joined_rows (shows_in done d kids) ≡ Some rows
      → joined_rows (shows_in more d (kids_by h kids)) ≡ Some rows
  joined-carried d [] rows is = is
  joined-carried d (k ∷ ks) rows is =
      let p = joined_rows (shows_in done d ks) in
      let q = joined_rows (shows_in more d (kids_by h ks)) in
      let j = joined_one-some k.0 (rows_in done d k.1) p rows is in
      let was : joined_one k.0 (rows_in done d k.1) p
      ≡ joined_one k.0 (Some j.0) (Some j.1) = ap (λ o. joined_one k.0 o p) j.2 ∙ ap
      (joined_one k.0 (Some j.0)) j.3 in
      ap (λ o. joined_one k.0 o q) (rows-carried d k.1 j.0 j.2) ∙
      (ap (joined_one k.0 (Some j.0)) (joined-carried d ks j.1 j.3) ∙ (sym was ∙ is))

  inner-carried : (kids : List (Bytes × ℕ)) (s : Segment) → inner_in done kids ≡ Some s
      → inner_in more (kids_by h kids) ≡ Some s
  inner-carried [] s is = absurd cc
  inner-carried (k ∷ ks) s is =
      let here = kids_by h (k ∷ ks) in
      let long : length (k ∷ ks) ≡ length here = sym (length-map (k ∷ ks) (λ e. (e.0, h e.1))) in
      let t = and_then-some (segment_in done k.1)
      (λ t. option_and_then (sized (length (k ∷ ks)) (t.depth + 1))
      (joined_rows (shows_in done t.depth (k ∷ ks)))) s is in
      let r = and_then-some (joined_rows (shows_in done t.0.depth (k ∷ ks)))
      (sized (length (k ∷ ks)) (t.0.depth + 1)) s t.2 in
      ap (λ o. option_and_then (λ t. option_and_then (sized (length here) (t.depth + 1))
      (joined_rows (shows_in more t.depth here))) o) (segment-carried k.1 t.0 t.1)
      ∙ (ap (λ o. option_and_then (sized (length here) (t.0.depth + 1)) o) (joined-carried t.0.depth (k ∷ ks) r.0 r.1) ∙
      (ap (λ n. sized n (t.0.depth + 1) r.0) (sym long) ∙ r.2))

  basis-carried : (basis snapshot : ℕ) (v : Version) → basis_in done basis snapshot ≡ Some v
      → basis_in more (h basis) (h snapshot) ≡ Some v
  basis-carried basis snapshot v is =
      let m = and_then-some (snapshot_in done basis)
      (λ k. if k == snapshot then version_in done basis else None) v is in
      let t = test-passed m.0 snapshot (version_in done basis) v m.2 in
      ap (λ o. option_and_then (λ k. if k == h snapshot then version_in more (h basis) else None) o)
      (snapshot-carried basis m.0 m.1)
      ∙ (cond-true (h m.0 == h snapshot) (version_in more (h basis)) None
      (eq-eqb (h m.0) (h snapshot) (ap h t.0)) ∙ version-carried basis v t.1)

  state-carried : (k : CommitKind ℕ) (m : Entries) (s : State) → state_in done k m ≡ Some s
      → state_in more (renamed_kind h k) m ≡ Some s
  state-carried (Snapshot sn) m s is = is
  state-carried (Over o) m s is =
      let b = and_then-some (basis_in done o.basis o.snapshot) (state_over o.told o.step) s is in
      ap (λ p. option_and_then (state_over o.told o.step) p) (basis-carried o.basis o.snapshot b.0 b.1) ∙ b.2

  commit-carried : (c : Commit ℕ) (v : Version) → commit_in done c ≡ Some v
      → commit_in more (renamed_commit h c) ≡ Some v
  commit-carried c v is =
      let F : Entries → State → Version = λ m s. record { state = s; read = m } in
      let m = and_then-some (map_in done c.root) (λ m. option_map (F m) (state_in done c.kind m)) v is in
      let s = option_map-some (F m.0) (state_in done c.kind m.0) v m.2 in
      ap (λ o. option_and_then (λ m. option_map (F m) (state_in more (renamed_kind h c.kind) m)) o)
      (map-carried c.root m.0 m.1)
      ∙ (ap (λ o. option_map (F m.0) o) (state-carried c.kind m.0 s.0 s.1) ∙ ap Some s.2)

  begin-carried : (k : CommitKind ℕ) → length more ≡ h (length done)
      → snapshot_of (length more) (renamed_kind h k) ≡ h (snapshot_of (length done) k)
  begin-carried (Snapshot sn) at = at
  begin-carried (Over o) at = refl

  spelled-carried : (n : Node ℕ) (x : Spelled) → length more ≡ h (length done) → spelled_by done n ≡ Some x
      → spelled_by more (renamed h n) ≡ Some (carried h x)
  spelled-carried (node.Chunk (Leaf rows)) x at is =
      let s = option_map-some segment (sized (length rows) 1 rows) x is in
      is ∙ ap Some (sym s.2 ∙ ap (carried h) s.2)
  spelled-carried (node.Chunk (Inner kids)) x at is =
      let s = option_map-some segment (inner_in done kids) x is in
      ap (option_map segment) (inner-carried kids s.0 s.1) ∙ ap (λ y. Some (carried h y)) s.2
  spelled-carried (node.Commit c) x at is =
      let v = option_map-some (λ v. version v (snapshot_of (length done) c.kind)) (commit_in done c) x is in
      ap (option_map (λ v. version v (snapshot_of (length more) (renamed_kind h c.kind)))) (commit-carried c v.0 v.1)
      ∙ (ap (λ k. Some (version v.0 k)) (begin-carried c.kind at) ∙ ap (λ y. Some (carried h y)) v.2)

-- an answer at a longer list stands in the shorter one, or is its last
answer-cases : (done : List (Option Spelled)) (o : Option Spelled) (k : ℕ) (x : Spelled)
    → answer (done ++ o ∷ []) k ≡ Some x → (answer done k ≡ Some x) ⊎ ((k ≡ length done) × (o ≡ Some x))
answer-cases [] o zero x h = inr (refl, at_first o h)
  where
    at_first : (o : Option Spelled) → answer (o ∷ []) 0 ≡ Some x → o ≡ Some x
    at_first None h = h
    at_first (Some y) h = h
answer-cases [] o (suc k) x h = absurd cc
answer-cases (d ∷ done) o zero x h = inl h
answer-cases (d ∷ done) o (suc k) x h = elim
    (answer-cases done o k x h) [ inl e ↦ inl e | inr e ↦ inr (ap suc e.0, e.1) ]

answer-last : (done : List (Option Spelled)) (o : Option Spelled) (x : Spelled) → o ≡ Some x
    → answer (done ++ o ∷ []) (length done) ≡ Some x
answer-last done o x h = ap joined (seam done o []) ∙ (ap joined (ap (λ o. Some o) h))

-- DRAFTS

stamped-own : (from first p : ℕ) → stamped from first (from + p) ≡ first + p
stamped-own from first p = cond-false (nat_lt (from + p) from) (from + p) (first + (from + p - from))
    (grind (arith, nat_tests)) ∙ (let e : first + (from + p - from) ≡ first + p = omega arith in e)

stamped-below : (from first k : ℕ) → k < from → stamped from first k ≡ k
stamped-below from first k h = cond-true (nat_lt k from) k (first + (k - from)) (grind (arith, nat_tests, h))

-- the same draft behind contents of other lengths
drafts-carried : (from first p : ℕ) (done more : List (Option Spelled)) (ns : Contents) → length done ≡ from + p
    → length more ≡ first + p → Carries done more (stamped from first)
    → Carries (folded spelled_by done ns) (folded spelled_by more (map (renamed (stamped from first)) ns))
    (stamped from first)
drafts-carried from first p done more [] l m go = go
drafts-carried from first p done more (n ∷ ns) l m go =
    let h = stamped from first in
    let o = spelled_by done n in
    let q = spelled_by more (renamed h n) in
    let at : length more ≡ h (length done) = m ∙ (sym (stamped-own from first p) ∙ ap h (sym l)) in
    let next : Carries (done ++ o ∷ []) (more ++ q ∷ []) h = λ k x is. elim (answer-cases done o k x is) [
      | inl e ↦ answer_more more (q ∷ []) (h k) (carried h x) (go k x e)
      | inr e ↦ subst (λ j. answer (more ++ q ∷ []) j ≡ Some (carried h x)) (at ∙ ap h (sym e.0))
          (answer-last more q (carried h x) (spelled-carried done more h go n x at e.1))
    ] in
    drafts-carried from first (suc p) (done ++ o ∷ []) (more ++ q ∷ []) ns
    (omega (arith, l, length-append done (o ∷ []))) (omega (arith, m, length-append more (q ∷ []))) next

-- the contents of a draft, and the same by the stamps that it drew
drawn-twice : (from first : ℕ) (nodes : List (Node Ref))
    → map (renamed (stamped from first)) (map content_of nodes) ≡ drawn_as from first nodes
drawn-twice from first [] = refl
drawn-twice from first (n ∷ ns) =
    ap (λ c. c ∷ map (renamed (stamped from first)) (map content_of ns))
    (renamed-renamed stamp_of (stamped from first) n) ∙ ap (λ w. renamed (restamped from first) n ∷ w)
    (drawn-twice from first ns)

-- what contents spell names snapshots among them, whose stamps stay
spelled-kept : (cs : Contents) (first k : ℕ) (x : Spelled) → answer (spelled cs) k ≡ Some x
    → carried (stamped (length cs) first) x ≡ x
spelled-kept cs first k (segment s) is = refl
spelled-kept cs first k (version v j) is =
    let low = (begins cs k v j (ap (option_and_then as_version) is) (ap (option_and_then as_snapshot) is)).low in
    ap (version v) (stamped-below (length cs) first j
    (omega (arith, low, answer_within (spelled cs) k (version v j) is, length-spelled cs)))

-- What a draft spells under its own numbers, behind the contents on which it was built, it spells under the stamps that
-- it drew, behind all that was drawn before.
pub draft-carried : (cs ds : Contents) (first : ℕ) (nodes : List (Node Ref)) → IsPrefix cs ds → length ds ≡ first
    → (at : Ref) (v : Version)
    → version_at (with_nodes cs nodes) (stamp_of at) ≡ Some v
    → version_at (ds ++ drawn_as (length cs) first nodes) (restamped (length cs) first at) ≡ Some v
draft-carried cs ds first nodes pre m at v is =
    let from = length cs in
    let h = stamped from first in
    let ns = map content_of nodes in
    let start : Carries (spelled cs) (spelled ds) h = λ k x is.
    let here : answer (spelled ds) k ≡ Some x = subst (λ w. answer (spelled w) k ≡ Some x) pre.1
    (folded_stays spelled_by cs pre.0 k x is) in
    ap (answer (spelled ds)) (stamped-below from first k
    (omega (arith, answer_within (spelled cs) k x is, length-spelled cs))) ∙
    (here ∙ ap Some (sym (spelled-kept cs first k x is))) in
    let whole = drafts-carried from first 0 (spelled cs) (spelled ds) ns (omega (arith, length-spelled cs))
    (omega (arith, length-spelled ds, m)) start in
    let mine = folded spelled_by (spelled cs) ns in
    let book = folded spelled_by (spelled ds) (map (renamed h) ns) in
    let there : version_in mine (stamp_of at)
    ≡ Some v = subst (λ w. version_in w (stamp_of at) ≡ Some v) (folded_more spelled_by [] cs ns) is in
    subst (λ w. version_in w (restamped from first at) ≡ Some v)
    (sym (folded_more spelled_by [] ds (map (renamed h) ns)) ∙ ap (λ w. spelled (ds ++ w))
    (drawn-twice from first nodes))
    (version-carried mine book h whole (stamp_of at) v there)

-- the stamps of a draft end where those of the references end at which it was placed
placed-low : (before after : Contents) (draft : Drafted) (refs : List Ref) → IsPlaced before after draft refs
    → (cs : Contents) → length cs ≡ draft.first → (at : Ref) (v : Version)
    → version_at (with_nodes cs draft.nodes) (stamp_of at) ≡ Some v → stamp_of at < draft.first + length refs
placed-low before after draft refs is cs l at v spells =
    let contents = with_nodes cs draft.nodes in
    let x = spelled_version contents (stamp_of at) v spells in
    omega (
      arith,
      answer_within (spelled contents) (stamp_of at) (version v x.0) x.1,
      length-spelled contents,
      length-append cs (map content_of draft.nodes),
      length-map draft.nodes content_of,
      is.count,
      l,
    )

-- A commit of a draft that was placed is at one of the references, where it is one of the draft's own.
pub placed_among : (before after : Contents) (draft : Drafted) (refs : List Ref) → IsPlaced before after draft refs
    → (cs : Contents) → length cs ≡ draft.first → (at : Ref) (v : Version)
    → version_at (with_nodes cs draft.nodes) (stamp_of at) ≡ Some v → draft.first ≤ stamp_of at
    → Contains refs (placed_ref draft.first refs at)
placed_among before after draft refs is cs l at v spells own =
    ref_among draft.first refs at own (placed-low before after draft refs is cs l at v spells)

-- and it has a greater stamp than each commit that was known before the draft was placed
pub placed-later : (before after : Contents) (draft : Drafted) (refs : List Ref) → IsPlaced before after draft refs
    → (cs : Contents) → length cs ≡ draft.first → (at : Ref) (v : Version)
    → version_at (with_nodes cs draft.nodes) (stamp_of at) ≡ Some v → draft.first ≤ stamp_of at
    → (base : Ref) (w : Version) → version_at before (stamp_of base) ≡ Some w
    → stamp_of base < stamp_of (placed_ref draft.first refs at)
placed-later before after draft refs is cs l at v spells own base w known =
    let low = placed-low before after draft refs is cs l at v spells in
    let k = stamp_of at - draft.first in
    let e : draft.first + k ≡ stamp_of at = omega (arith, own) in
    let stamp : stamp_of (placed_ref draft.first refs at) ≡ is.first + k =
    ref_stamped draft.first is.first refs at is.stamps low
    ∙ ap (stamped draft.first is.first) (sym e) ∙ stamped-own draft.first is.first k in
    let x = spelled_version before (stamp_of base) w known in
    omega (
      arith,
      answer_within (spelled before) (stamp_of base) (version w x.0) x.1,
      length-spelled before,
      ap length is.since.1,
      length-append before is.since.0,
      is.behind,
      stamp,
    )

-- So a commit of a draft that was placed spells, under the reference that it then has, what it spelled in the draft.
pub placed-spelled : (before after : Contents) (draft : Drafted) (refs : List Ref) → IsPlaced before after draft refs
    → (cs : Contents) → IsPrefix cs before → length cs ≡ draft.first → (at : Ref) (v : Version)
    → version_at (with_nodes cs draft.nodes) (stamp_of at) ≡ Some v
    → version_at after (stamp_of (placed_ref draft.first refs at)) ≡ Some v
placed-spelled before after draft refs is cs pre l at v spells =
    let low = placed-low before after draft refs is cs l at v spells in
    let there = draft-carried cs is.earlier is.first draft.nodes
    (prefix_trans cs before is.earlier pre is.since) is.behind at v spells in
    let behind = subst (λ n. version_at (is.earlier ++ drawn_as n is.first draft.nodes) (restamped n is.first at)
    ≡ Some v) l there in
    let grown = version-grown (is.earlier ++ drawn_as draft.first is.first draft.nodes) after
    (restamped draft.first is.first at) v is.until behind in
    subst (λ k. version_at after k ≡ Some v) (sym (ref_stamped draft.first is.first refs at is.stamps low)) grown
