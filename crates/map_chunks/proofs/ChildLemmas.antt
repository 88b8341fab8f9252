-- A look at a chunk leads to one of its children.
use Rattle.std.proofs.Common.{◌≡◌, ℕ, List, Option, Some, None, slice_get, subst, sym}
use Rattle.std.proofs.lemmas.Option.{slice_get_within, get_or_from_slice_get}
use Rattle.std.proofs.lemmas.List.Elements.{Contains-get_or}
use Rattle.std.specs.List.{Contains}
use Rattle.group_history.specs.declared.nodes.Chunk.{Chunk}
use Rattle.group_history.specs.declared.nodes.Chunk.TheVariants.{Leaf, Inner}
use Rattle.group_history.specs.declared.refs.Ref.{Ref}
use Rattle.group_history.specs.Map.{Bytes}
use Rattle.group_history.specs.Naming.{chunk_children}
use Rattle.group_history.specs.Rows.{values_of}
use Rattle.map_chunks.specs.Inside.Depths.{IsFirst}
use Rattle.map_chunks.specs.Inside.Ends.{only_ref}
use Rattle.map_chunks.specs.Places.{AreAll}
use Rattle.map_chunks.proofs.KeptLemmas.{IfAt}
use Rattle.map_chunks.specs.Inside.SecondKeys.{IsSecondStep}
use Rattle.map_chunks.specs.Inside.Seeking.{IsHint}
use Rattle.map_chunks.specs.declared.looks.Hint.{Hint}
use Rattle.map_chunks.specs.declared.looks.Hint.TheVariants.{Known, On}
use Rattle.map_chunks.specs.declared.looks.Second.{Second}
use Rattle.map_chunks.specs.declared.looks.Second.TheVariants as second
use Rattle.map_chunks.proofs.EndLemmas.{only_ref-child}

got_here : {A : Type 0} (xs : List A) (i : ℕ) (x : A) → slice_get xs i ≡ Some x → Contains xs x
got_here xs i x h = subst (Contains xs) (get_or_from_slice_get xs i x x h)
    (Contains-get_or xs i x (slice_get_within xs i x h))

-- the child to which the key belongs has the property
abbrev pub IsHintAt : (Ref → Type 0) → Hint → Type 0
IsHintAt places (Known there) = Unit {0}
IsHintAt places (On at) = places at

pub hint_at : (places : Ref → Type 0) (c : Chunk Ref) (key : Bytes) (hint : Hint) → AreAll places (chunk_children c)
    → IsHint c key hint → IsHintAt places hint
hint_at places c key (Known there) all i = tt
hint_at places (Leaf rows) key (On at) all i = absurd i
hint_at places (Inner kids) key (On at) all i = all at (got_here (values_of kids) i.0 at i.2)

-- the first child has the property
abbrev pub IsSecondAt : (Ref → Type 0) → Second → Type 0
IsSecondAt places (second.Known key) = Unit {0}
IsSecondAt places (second.First at next) = places at

pub second_at : (places : Ref → Type 0) (c : Chunk Ref) (step : Second) → AreAll places (chunk_children c)
    → IsSecondStep c step → IsSecondAt places step
second_at places c (second.Known key) all i = tt
second_at places (Leaf rows) (second.First at next) all i = absurd i
second_at places (Inner kids) (second.First at next) all i = all at (got_here (values_of kids) 0 at i.0)

pub first_at : (places : Ref → Type 0) (c : Chunk Ref) (child : Option Ref) → AreAll places (chunk_children c)
    → IsFirst c child → IfAt places child
first_at places c None all i = tt
first_at places (Leaf rows) (Some at) all i = absurd (cc i)
first_at places (Inner kids) (Some at) all i = all at (got_here (values_of kids) 0 at (sym i))

pub only_at : (places : Ref → Type 0) (c : Chunk Ref) (child : Option Ref) → AreAll places (chunk_children c)
    → child ≡ only_ref c → IfAt places child
only_at places c None all i = tt
only_at places c (Some at) all i = all at (only_ref-child c at (sym i))
