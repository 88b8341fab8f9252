-- References that were there before, or at which a chunk may be looked for.
use Rattle.std.proofs.Common.{inl, inr, List, [], Option, Some, None}
use Rattle.std.specs.List.{Contains}
use Rattle.group_history.specs.declared.refs.Ref.{Ref}
use Rattle.group_history.specs.Spelling.{Contents}
use Rattle.group_history.proofs.Lists.{no_element, prefix_trans}
use Rattle.map_chunks.specs.Places.{AreAll, AreKept, Grows}

-- WHAT GREW

pub grows_on : {S : Type 0} (contents : S → Contents) (places : S → Ref → Type 0) (a b d : S)
    → Grows contents places a b → Grows contents places b d → Grows contents places a d
grows_on contents places a b d g h = (
  prefix_trans (contents a) (contents b) (contents d) g.0 h.0,
  λ at p. h.1 at (g.1 at p),
)

pub all_on : (places more : Ref → Type 0) (ats : List Ref) → ((at : Ref) → places at → more at) → AreAll places ats
    → AreAll more ats
all_on places more ats g all at i = g at (all at i)

-- REFERENCES OF A CHUNK

-- the reference has the property, if there is one
abbrev pub IfAt : (Ref → Type 0) → Option Ref → Type 0
IfAt places None = Unit {0}
IfAt places (Some at) = places at

-- REFERENCES OF A CHANGED TREE

pub kept-none : (places : Ref → Type 0) (old : List Ref) → AreKept places old []
kept-none places old at i = absurd (no_element at i)

pub kept-same : (places : Ref → Type 0) (old : List Ref) → AreKept places old old
kept-same places old at i = inl i

pub kept-grown : (places more : Ref → Type 0) (old new : List Ref) → ((at : Ref) → places at → more at)
    → AreKept places old new → AreKept more old new
kept-grown places more old new g h at i = elim (h at i) [ inl p ↦ inl p | inr q ↦ inr (g at q) ]

pub kept-trans : (places : Ref → Type 0) (old mid new : List Ref) → AreKept places old mid → AreKept places mid new
    → AreKept places old new
kept-trans places old mid new g h at i = elim (h at i) [ inl p ↦ g at p | inr q ↦ inr q ]

pub kept-within : (places : Ref → Type 0) (old new more : List Ref) → ((at : Ref) → Contains new at → Contains more at)
    → AreKept places old more → AreKept places old new
kept-within places old new more w h at i = h at (w at i)

-- what stands in no chunk of the old ones may be looked for
pub kept-from_none : (places : Ref → Type 0) (old new : List Ref) → AreKept places [] new → AreKept places old new
kept-from_none places old new h at i = elim (h at i) [ inl p ↦ absurd (no_element at p) | inr q ↦ inr q ]

-- where the old ones may be looked for, the new ones may
pub all_kept : (places : Ref → Type 0) (old new : List Ref) → AreAll places old → AreKept places old new
    → AreAll places new
all_kept places old new all h at i = elim (h at i) [ inl p ↦ all at p | inr q ↦ q ]
