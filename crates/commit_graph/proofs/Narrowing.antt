-- How the stamps that a root reaches are narrowed down, on the way to its newest chunks.
use Rattle.std.proofs.Common.{◌≡◌, ◌⊎◌, ℕ, ◌<◌, ◌≤◌, inl, inr, List, [], ◌∷◌, ◌++◌, map, Option, Some, None, refl}
use Rattle.std.proofs.Common.{ap, sym, subst, ◌∙◌, arith}
use Rattle.std.specs.Prelude.{IsSome}
use Rattle.std.specs.List.{Contains}
use Rattle.std.proofs.lemmas.List.Elements.{Contains-append_cases, Contains-append_left, Contains-append_right}
use mathlib.Core.List.{IsPrefix}
use Rattle.group_history.specs.declared.nodes.Chunk.{Chunk}
use Rattle.group_history.specs.declared.nodes.Node.{Node}
use Rattle.group_history.specs.declared.nodes.Node.TheVariants as node
use Rattle.group_history.specs.declared.refs.Ref.{Ref}
use Rattle.group_history.specs.Refs.{stamp_of}
use Rattle.group_history.specs.Naming.{children, chunk_children, content_of}
use Rattle.group_history.specs.Spelling.{Contents, Segment, segment_at, map_at}
use Rattle.group_history.proofs.Lists.{only_one, one_here, prefix_trans, map_from, map_to}
use Rattle.map_chunks.specs.Places.{AreAll}
use Rattle.map_chunks.proofs.KeptLemmas.{IfAt}
use Rattle.commit_graph.specs.declared.founds.NamedNode.TheVariants as found
use Rattle.commit_graph.specs.declared.gaps.Tops.{Tops}
use Rattle.commit_graph.specs.Reach.{Reaches, itself, through}
use Rattle.commit_graph.specs.Inside.Gaps.{IsTops}
use Rattle.commit_graph.specs.Inside.Meeting.{LiesChunk}
use Rattle.commit_graph.specs.Inside.Reach.{ref_in, stamp_in, found_in}
use Rattle.commit_graph.proofs.Spelled.{segment-grown}
use Rattle.commit_graph.proofs.Descending.{map_ordered, reach_low}
use Rattle.commit_graph.proofs.Reached.{there_segment, reaches_stays, reaches_back, reaches_child, found_stamps}
use Rattle.commit_graph.proofs.Reached.{found_refs, child_there}
use Rattle.commit_graph.proofs.Rooted.{chunk_reaches, map_some_stays}

-- the one that is told may be looked for where each may
pub tops_may : (may : Ref → Type 0) (rs : List Ref) (t : Tops) → AreAll may rs → IsTops rs t → IfAt may t.top
tops_may may rs t all is = by t.top refl
  where
    by : (o : Option Ref) → t.top ≡ o → IfAt may o
    by None e = tt
    by (Some r) e = all r (is.one r e)

-- one more: it is the one that is told, or else stands among the others, as the one that was told before does
pub tops_more : (rs : List Ref) (t u : Tops) (at : Ref) → IsTops rs t → (u.top ≡ Some at) ⊎ (u.top ≡ t.top)
    → t.second ≤ u.second → ((r : Ref) → t.top ≡ Some r → (u.top ≡ Some r) ⊎ (stamp_of r ≤ u.second))
    → (u.top ≡ Some at) ⊎ (stamp_of at ≤ u.second) → IsTops (rs ++ at ∷ []) u
tops_more rs t u at is which more before now = record {
  one = λ r e. elim which [
    | inl p ↦ (let same : at ≡ r = (let x : Some at ≡ Some r = sym p ∙ e in cc x) in
        subst (Contains (rs ++ at ∷ [])) same (Contains-append_right rs (at ∷ []) at (one_here at)))
    | inr p ↦ Contains-append_left rs (at ∷ []) r (is.one r (sym p ∙ e))
  ];
  others = λ r h. elim (Contains-append_cases rs (at ∷ []) r h) [
    | inl p ↦ elim (is.others r p) [ inl e ↦ before r e | inr l ↦ inr (omega (arith, l, more)) ]
    | inr q ↦ subst (λ (w : Ref). (u.top ≡ Some w) ⊎ (stamp_of w ≤ u.second)) (only_one at r q) now
  ];
}

-- While a descent goes down from a root: what the root reaches is no newer than what was passed, or above the limit,
-- or the chunk at hand reaches it.
pub record IsNarrowed (first ns : Contents) (root at low limit : ℕ) : Type 0 where
  pub rooted : IsSome (map_at ns root)
  pub rows : Segment
  pub here : segment_at ns at ≡ Some rows
  pub left : (x : ℕ) → Reaches ns root x → ((x ≤ low) ⊎ (limit < x)) ⊎ Reaches ns at x
  pub grown : IsPrefix first ns

pub narrow_begins : (first : Contents) (root low limit : ℕ) → IsSome (map_at first root) → IsPrefix first first
    → IsNarrowed first first root root low limit
narrow_begins first root low limit h pre = let o = map_ordered first root h in
    record { rooted = h; rows = o.0; here = o.1; left = λ x r. inr r; grown = pre }

-- what a chunk above the limit reaches
below_chunk : (ns : Contents) (at x limit low : ℕ) (rows : Segment) (c : Chunk Ref) (t : Tops)
    → segment_at ns at ≡ Some rows → limit < at → LiesChunk ns at c → IsTops (chunk_children c) t → t.second ≤ low
    → Reaches ns at x → ((x ≤ low) ⊎ (limit < x)) ⊎ ((r : Ref) × (t.top ≡ Some r) × Reaches ns (stamp_of r) x)
below_chunk ns _ _ limit low rows c t here above lies tops more (itself a) = inl (inr above)
below_chunk ns _ _ limit low rows c t here above lies tops more (through a k b n is child rest) =
    let same : n ≡ content_of (node.Chunk c) =
    (let e : Some n ≡ Some (content_of (node.Chunk c)) = sym is ∙ lies in cc e) in
    let stamps : Contains (children (content_of (node.Chunk c))) k =
    subst (λ (m : Node ℕ). Contains (children m) k) same child in
    let f = map_from stamp_in (found_in (node.Chunk c)) k
    (subst (λ (w : List ℕ). Contains w k) (sym (found_stamps (node.Chunk c))) stamps) in
    let has : Contains (chunk_children c) (ref_in f.0) = subst (λ (w : List Ref). Contains w (ref_in f.0))
    (found_refs (node.Chunk c)) (map_to ref_in (found_in (node.Chunk c)) f.0 f.1) in
    elim (tops.others (ref_in f.0) has) [
      | inl e ↦ inr (ref_in f.0, e, subst (λ (w : ℕ). Reaches ns w b) (sym f.2) rest)
      | inr l ↦ (let s = chunk_reaches ns a k rows here (through a k k n is child (itself k)) in
          let w = reach_low ns k b s.0 s.1 rest in inl (inl (omega (arith, w, f.2, l, more))))
    ]

module _ (first ns more : Contents) (root at low limit next : ℕ) (c : Chunk Ref) (t : Tops)
    (is : IsNarrowed first ns root at low limit) (above : limit < at) (pre : IsPrefix ns more)
    (lies : LiesChunk more at c) (tops : IsTops (chunk_children c) t) (raised : low ≤ next)
    (second : t.second ≤ next) where
  narrowed : (x : ℕ) → Reaches more root x
      → ((x ≤ next) ⊎ (limit < x)) ⊎ ((r : Ref) × (t.top ≡ Some r) × Reaches more (stamp_of r) x)
  narrowed x r =
      let o = map_ordered ns root is.rooted in
      elim (is.left x (reaches_back ns more root x pre (there_segment ns root o.0 o.1) r)) [
        | inl p ↦ elim p [ inl l ↦ inl (inl (omega (arith, l, raised))) | inr h ↦ inl (inr h) ]
        | inr q ↦ below_chunk more at x limit next is.rows c t (segment-grown ns more at is.rows pre is.here)
            above lies tops second (reaches_stays ns more at x pre q)
      ]

  pub narrow_step : (top : Ref) → t.top ≡ Some top
      → (stamp_of top < at) × IsNarrowed first more root (stamp_of top) next limit
  narrow_step top e =
      let here = segment-grown ns more at is.rows pre is.here in
      let child : Contains (children (content_of (node.Chunk c))) (stamp_of top) =
      subst (λ (w : List ℕ). Contains w (stamp_of top)) (child_stamps c)
      (map_to stamp_of (chunk_children c) top (tops.one top e)) in
      let down = reaches_child more at at (stamp_of top) (content_of (node.Chunk c)) (itself at) lies child in
      let s = chunk_reaches more at (stamp_of top) is.rows here down in (
        (child_there more at (stamp_of top) (content_of (node.Chunk c))
            (there_segment more at is.rows here) lies child).0,
        record {
          rooted = map_some_stays ns more root pre is.rooted;
          rows = s.0;
          here = s.1;
          left = λ x r. elim (narrowed x r) [
            | inl p ↦ inl p
            | inr q ↦ (let same : q.0 ≡ top = (let w : Some q.0 ≡ Some top = sym q.1 ∙ e in cc w) in
                inr (subst (λ (w : Ref). Reaches more (stamp_of w) x) same q.2))
          ];
          grown = prefix_trans first ns more is.grown pre;
        },
      )
    where
      child_stamps : (c : Chunk Ref) → map stamp_of (chunk_children c) ≡ children (content_of (node.Chunk c))
      child_stamps c = twice (chunk_children c) ∙ found_stamps (node.Chunk c)
        where
          twice : (rs : List Ref) → map stamp_of rs ≡ map stamp_in (map found.Chunk rs)
          twice [] = refl
          twice (r ∷ rs) = ap (λ w. stamp_of r ∷ w) (twice rs)

  pub narrow_stops : t.top ≡ None → (x : ℕ) → Reaches more root x → (x ≤ next) ⊎ (limit < x)
  narrow_stops none x r = elim (narrowed x r) [
    | inl p ↦ p
    | inr q ↦ absurd (let w : None ≡ Some q.0 = sym none ∙ q.1 in cc w)
  ]

pub narrow_ends : (first ns : Contents) (root at low limit next : ℕ) → IsNarrowed first ns root at low limit
    → low ≤ next → at ≤ next → (x : ℕ) → Reaches ns root x → (x ≤ next) ⊎ (limit < x)
narrow_ends first ns root at low limit next is raised last x r = elim (is.left x r) [
  | inl p ↦ elim p [ inl l ↦ inl (omega (arith, l, raised)) | inr h ↦ inr h ]
  | inr q ↦ (let l = reach_low ns at x is.rows is.here q in inl (omega (arith, l, last)))
]
