-- What chunks with one child each end in.
use Rattle.std.proofs.Common.{◌≡◌, ◌<◌, ◌+◌, ℕ, zero, suc, false, [], ◌∷◌, ◌++◌, Option, Some, None, slice_get}
use Rattle.std.proofs.Common.{append-nil, refl, sym, ap, ◌∙◌, subst, inr, arith}
use Rattle.std.specs.Prelude.{option_map}
use mathlib.Core.List.{IsPrefix}
use Rattle.std.specs.List.{Contains}
use Rattle.group_history.specs.declared.nodes.Chunk.{Chunk}
use Rattle.group_history.specs.declared.nodes.Chunk.TheVariants as chunked
use Rattle.group_history.specs.declared.nodes.Node.{Node}
use Rattle.group_history.specs.declared.nodes.Node.TheVariants as node
use Rattle.group_history.specs.declared.refs.Ref.{Ref}
use Rattle.group_history.specs.Map.{Bytes}
use Rattle.group_history.specs.Naming.{chunk_content, chunk_children}
use Rattle.group_history.specs.Refs.{stamp_of}
use Rattle.group_history.specs.Rows.{Rows}
use Rattle.group_history.specs.Spelling.{Contents, Segment, segment_at, rows_at}
use Rattle.group_history.proofs.Lists.{get_more, one_here, only_one}
use Rattle.map_chunks.specs.Ends.{IsEndUnder, LeadsTo}
use Rattle.map_chunks.specs.Inside.Ends.{only_ref}
use Rattle.map_chunks.specs.Places.{AreKept}
use Rattle.map_chunks.specs.Seeking.{chunk_depth}
use Rattle.map_chunks.specs.Shown.{chunk_rows}
use Rattle.map_chunks.specs.Wide.{is_narrow, IsWideAt}
use Rattle.map_chunks.proofs.JoinLemmas.{split_of, some_is}
use Rattle.map_chunks.proofs.OpenLemmas.{Opened, opened, segment-kept, spells_at, chunk_rows-at}

wide-content : (c : Chunk Ref) → only_ref c ≡ None → is_narrow (chunk_content c) ≡ false
wide-content (chunked.Leaf rows) h = refl
wide-content (chunked.Inner []) h = refl
wide-content (chunked.Inner (e ∷ [])) h = absurd cc
wide-content (chunked.Inner (e ∷ f ∷ es)) h = refl

depth_of : (ns : Contents) (k : ℕ) (s : Segment) → segment_at ns k ≡ Some s → chunk_depth ns k ≡ Some s.depth
depth_of ns k s h = ap (option_map (λ (t : Segment). t.depth)) h

-- the segment of a chunk that is so deep
segment_deep : (ns : Contents) (k d : ℕ) → chunk_depth ns k ≡ Some d
    → (s : Segment) × (segment_at ns k ≡ Some s) × (s.depth ≡ d)
segment_deep ns k d h = by (segment_at ns k) refl h
  where
    by : (o : Option Segment) → segment_at ns k ≡ o → option_map (λ (t : Segment). t.depth) o ≡ Some d
        → (s : Segment) × (segment_at ns k ≡ Some s) × (s.depth ≡ d)
    by None e h = absurd cc
    by (Some s) e h = (s, e, some_is h)

-- a chunk with rows at a depth is so deep
pub depth-at : (ns : Contents) (d k : ℕ) (rs : Rows) → rows_at ns d k ≡ Some rs → chunk_depth ns k ≡ Some d
depth-at ns d k rs h = let f = spells_at ns d k rs h in depth_of ns k f.0.segment f.0.is ∙ ap (λ n. Some n) f.1

-- the chunk of the stamp is wide, or its only child was placed before it, one level below; what is wide, or the child,
-- has these rows
abbrev pub IsOnlyChild : Contents → ℕ → Option Rows → Option Ref → Type 0
IsOnlyChild contents stamp rows None = (chunk_rows contents stamp ≡ rows) × IsWideAt contents stamp
IsOnlyChild contents stamp rows (Some child) = (stamp_of child < stamp) × (chunk_rows contents (stamp_of child) ≡ rows)
    × ((d : ℕ) × (chunk_depth contents (stamp_of child) ≡ Some d) × (chunk_depth contents stamp ≡ Some (d + 1)))
    × ((key : Bytes) × (slice_get contents stamp ≡ Some (node.Chunk (chunked.Inner ((key, stamp_of child) ∷ [])))))

pub only_is : (ns : Contents) (k : ℕ) (s : Segment) (c : Chunk Ref) → segment_at ns k ≡ Some s
    → slice_get ns k ≡ Some (chunk_content c) → chunk_rows ns k ≡ Some s.rows
    → IsOnlyChild ns k (Some s.rows) (only_ref c)
only_is ns k s c h g r = by c g (opened ns k s c h g)
  where
    wide : (c : Chunk Ref) → slice_get ns k ≡ Some (chunk_content c) → only_ref c ≡ None → IsWideAt ns k
    wide c g o n e = subst (λ w. is_narrow w ≡ false) (some_is (sym g ∙ e)) (wide-content c o)

    by : (c : Chunk Ref) → slice_get ns k ≡ Some (chunk_content c) → Opened ns k s c
        → IsOnlyChild ns k (Some s.rows) (only_ref c)
    by (chunked.Leaf rows) g o = (r, wide (chunked.Leaf rows) g refl)
    by (chunked.Inner []) g o = (r, wide (chunked.Inner []) g refl)
    by (chunked.Inner (e ∷ [])) g o =
        let p = split_of (e.0, rows_at ns o.depth (stamp_of e.1)) [] s.rows o.rows in
        let nil : p.back ≡ [] = sym (some_is p.back_is) in (
          o.low.0,
          chunk_rows-at ns o.depth (stamp_of e.1) p.front p.front_is ∙ ap (λ w. Some w)
              (sym (p.whole ∙ ap (λ w. p.front ++ w) nil ∙ append-nil p.front)),
          (o.depth, depth-at ns o.depth (stamp_of e.1) p.front p.front_is, depth_of ns k s h ∙ ap (λ n. Some n) o.deep),
          (e.0, g),
        )
    by (chunked.Inner (e ∷ f ∷ es)) g o = (r, wide (chunked.Inner (e ∷ f ∷ es)) g refl)

-- DEPTHS

pub depth-later : (old new : Contents) (k d : ℕ) → IsPrefix old new → chunk_depth old k ≡ Some d
    → chunk_depth new k ≡ Some d
depth-later old new k d p h = let s = segment_deep old k d h in
    depth_of new k s.0 (segment-kept old new k s.0 p s.1) ∙ ap (λ n. Some n) s.2

-- what lies at a stamp lies there later
lies-later : (old new : Contents) (k : ℕ) (n : Node ℕ) → IsPrefix old new → slice_get old k ≡ Some n
    → slice_get new k ≡ Some n
lies-later old new k n p h = subst (λ z. slice_get z k ≡ Some n) p.1 (get_more old p.0 k n h)

-- so does what chunks with one child lead to
pub leads-later : (old new : Contents) (many k : ℕ) (at : Ref) → IsPrefix old new → LeadsTo old many k at
    → LeadsTo new many k at
leads-later old new zero k at p h = h
leads-later old new (suc many) k at p h =
    (h.0, h.1, lies-later old new k _ p h.2, leads-later old new many h.1 at p h.3)

-- the chunk itself
pub end_itself : (old new : Contents) (d : ℕ) (at : Ref) → IsPrefix old new → chunk_depth old (stamp_of at) ≡ Some d
    → IsEndUnder new d (stamp_of at) at
end_itself old new d at p h = (0, d, omega arith, depth-later old new (stamp_of at) d p h, refl)

-- below a chunk with one child is what is below the child
pub end_over : (old new : Contents) (d below k : ℕ) (key : Bytes) (child at : Ref) → IsPrefix old new → below + 1 ≡ d
    → slice_get old k ≡ Some (node.Chunk (chunked.Inner ((key, stamp_of child) ∷ [])))
    → IsEndUnder new below (stamp_of child) at → IsEndUnder new d k at
end_over old new d below k key child at p e g h =
    (suc h.0, h.1, omega (arith, h.2, e), h.3, (key, stamp_of child, lies-later old new k _ p g, h.4))

-- REFERENCES

pub only_ref-child : (c : Chunk Ref) (r : Ref) → only_ref c ≡ Some r → Contains (chunk_children c) r
only_ref-child (chunked.Leaf rows) r h = absurd (cc h)
only_ref-child (chunked.Inner []) r h = absurd (cc h)
only_ref-child (chunked.Inner (e ∷ [])) r h = let s : e.1 ≡ r = cc h in subst (Contains (e.1 ∷ [])) s (one_here e.1)
only_ref-child (chunked.Inner (e ∷ f ∷ es)) r h = absurd (cc h)

pub kept-one : (places : Ref → Type 0) (r : Ref) → places r → AreKept places [] (r ∷ [])
kept-one places r h at i = inr (subst places (only_one r at i) h)
