-- A key removed below a draft's chunk.
use Rattle.std.specs.Prelude.{◌≡◌, ◌⊎◌, ◌+◌, ◌-◌, ◌<◌, ◌≤◌, ℕ, zero, suc, Bool, false, nat_le, List, [], ◌∷◌, length}
use Rattle.std.specs.Prelude.{Option, Some, None, IsSome, slice_get, slice_index_or}
use mathlib.Core.List.{IsPrefix}
use Rattle.std.specs.declared.alloc.Global.{Global}
use Rattle.std.specs.declared.vec.Vec.{Vec}
use Rattle.group_history.specs.Map.{Bytes, same_text}
use Rattle.group_history.specs.declared.refs.Ref.{Ref}
use Rattle.group_history.specs.Refs.{stamp_of}
use Rattle.group_history.specs.Rows.{Rows, paired}
use Rattle.group_history.specs.Spelling.{Contents}
use Rattle.map_chunks.specs.Ends.{IsEnd}
use Rattle.map_nodes.specs.Inside.Ends.{EndsAtChunk, NarrowsLater}
use Rattle.map_nodes.specs.Inside.Freezing.{kids_places}
use Rattle.map_chunks.specs.Places.{places_of}
use Rattle.map_nodes.specs.Inside.Halves.{HasDepth}
use Rattle.map_nodes.specs.Levels.{HasOneMore, Levels, Member, RemovedLater, parting, placed_levels, seen_levels}
use Rattle.map_nodes.specs.Levels.{topped}
use Rattle.map_nodes.specs.Nodes.{child_levels, kids_levels, kids_pieces, body_pieces, IsNode}
use Rattle.map_nodes.specs.Inside.Nodes.{child_rows}
use Rattle.map_nodes.specs.Inside.Scanning.{kid_shown}
use Rattle.map_chunks.specs.Search.{IsPlace}
use Rattle.map_chunks.specs.SecondKeys.{second_key}
use Rattle.map_chunks.specs.Seeking.{chunk_depth}
use Rattle.map_chunks.specs.Shown.{Shape, child_keys, leaf_keys, own, shown, chunk_rows, rows_or, IsTree}
use Rattle.map_nodes.specs.declared.nodes.Body.TheVariants.{Inner}
use Rattle.map_nodes.specs.declared.nodes.OwnChild.{OwnChild}
use Rattle.map_nodes.specs.declared.nodes.removing.ChildAfter.{ChildAfter}
use Rattle.map_nodes.specs.declared.nodes.removing.ChildAfter.TheVariants.{Leaves, Stays}
use Rattle.map_nodes.specs.declared.nodes.removing.NewRoot.{NewRoot}
use Rattle.map_nodes.specs.declared.nodes.removing.NewRoot.TheVariants as heir
use Rattle.map_chunks.specs.Wide.{IsWideAt, IsWideChunk}
use Rattle.map_nodes.specs.Removing.{without_key}

-- A child with these rows, under its first key, leaves where its one row has the key. Else it stays: under its second
-- key where its first row has the key, and under the key that it has where another row or none has it.
abbrev pub IsFate : Bytes → Bytes → Rows → ChildAfter → Type 0
IsFate key first rows Leaves = (first ≡ key) × (second_key rows ≡ None)
IsFate key first rows (Stays None) = same_text first key ≡ false
IsFate key first rows (Stays (Some next)) = (first ≡ key) × (second_key rows ≡ Some next)

-- a child that leaves has others beside it
abbrev pub HasOthers : ChildAfter → ℕ → Type 0
HasOthers Leaves entries = 1 < entries
HasOthers (Stays first) entries = Unit {0}

-- how many children there are then
abbrev pub AreKidsLeft : ChildAfter → ℕ → ℕ → Type 0
AreKidsLeft Leaves old new = new + 1 ≡ old
AreKidsLeft (Stays first) old new = new ≡ old

-- whether fewer than two children stay
abbrev pub gives_way : ChildAfter → ℕ → Bool
gives_way Leaves entries = nat_le entries 2
gives_way (Stays first) entries = false

-- a child of this depth that shows rows in order, of which some stay
abbrev pub CanRemove : Contents → ℕ → Bytes → OwnChild → Type 0
CanRemove contents below key c = IsTree (child_rows contents below c) × HasDepth below c
    × (0 < length (without_key key (rows_or (child_rows contents below c))))

-- a chunk with one entry at most; so many levels below it is a leaf
abbrev pub IsThin : ℕ → Shape → Type 0
IsThin zero (leaf_keys keys) = length keys ≤ 1
IsThin zero (child_keys keys) = ⊥
IsThin (suc below) (leaf_keys keys) = ⊥
IsThin (suc below) (child_keys keys) = keys ≡ []

-- one such chunk stands on each of so many levels, and none below
abbrev pub AreThin : ℕ → Levels → Type 0
AreThin zero levels = (level : ℕ) → levels level ≡ []
AreThin (suc below) levels = (chunk : Member) × (levels 0 ≡ chunk ∷ []) × IsThin below chunk.1
    × AreThin below (λ level. levels (suc level))

-- whatever is placed later, a child so deep has one row at most
abbrev pub IsThinLater : Contents → ℕ → (Contents → Levels) → Type 0
IsThinLater contents below levels = (0 < below)
    × ((later : Contents) → IsPrefix contents later → AreThin below (levels later))

-- a chunk with these keys and children shows rows in order, and the key belongs to the child at this place, which has
-- this fate
pub record CanRemoveAt (contents : Contents) (depth : ℕ) (keys : List Bytes) (kids : Vec OwnChild Global) (key : Bytes)
    (at : ℕ) (what : ChildAfter) : Type 0 where
  pub node : IsNode depth keys (Inner kids)
  pub tree : IsTree (shown contents (body_pieces depth keys (Inner kids)))
  pub place : IsPlace key keys at
  pub fate : (c : OwnChild) → slice_get kids.items at ≡ Some c
      → IsFate key (slice_index_or keys at []) (rows_or (kid_shown contents c)) what
  pub thin : (c : OwnChild) → slice_get kids.items at ≡ Some c → what ≡ Leaves
      → IsThinLater contents (depth - 1) (child_levels (depth - 1) c)

-- a leaf has the keys that it had, or one fewer
abbrev pub IsLeafLeft : List Bytes → List Bytes → Type 0
IsLeafLeft old new = (new ≡ old) ⊎ HasOneMore new old

-- what children show of which there is at most one
abbrev pub one_shown : Contents → List OwnChild → Option Rows
one_shown contents [] = Some []
one_shown contents (c ∷ cs) = kid_shown contents c

-- what stands in the place of a root with at most this one child: it shows what the child shows, and is wide
abbrev pub IsHeir : Contents → Contents → List OwnChild → NewRoot → Type 0
IsHeir old new kids (heir.Placed at) = IsEnd new (one_shown old kids) at
IsHeir old new kids (heir.Own n) = (shown new n.pieces ≡ one_shown old kids) × IsWideChunk n

-- a placed heir changes no child
abbrev pub KeptBy : List OwnChild → List OwnChild → NewRoot → Type 0
KeptBy old new (heir.Placed at) = new ≡ old
KeptBy old new (heir.Own n) = Unit {0}

-- the placed chunk that stands in a root's place, or those that the draft's own names
abbrev pub heir_places : NewRoot → List Ref
heir_places (heir.Placed at) = at ∷ []
heir_places (heir.Own n) = places_of n.pieces

-- what an inner root shows once a key is removed: what its heir shows, if it has one, else its children
abbrev pub left_rows : Contents → ℕ → List Bytes → List OwnChild → Option NewRoot → Option Rows
left_rows contents depth keys kids None = shown contents (kids_pieces (depth - 1) (paired keys kids))
left_rows contents depth keys kids (Some (heir.Placed at)) = chunk_rows contents (stamp_of at)
left_rows contents depth keys kids (Some (heir.Own n)) = shown contents n.pieces

-- an heir is wide, and a root that has none stays so
abbrev pub IsWideLeft : Contents → ℕ → ℕ → Option NewRoot → Type 0
IsWideLeft contents old new None = 1 < old → 1 < new
IsWideLeft contents old new (Some (heir.Placed at)) = IsWideAt contents (stamp_of at)
IsWideLeft contents old new (Some (heir.Own n)) = IsWideChunk n

-- the placed chunks that are named then
abbrev pub left_places : List OwnChild → Option NewRoot → List Ref
left_places kids None = kids_places kids
left_places kids (Some h) = heir_places h

-- a placed chunk, if there is one
abbrev pub end_places : Option Ref → List Ref
end_places None = []
end_places (Some at) = at ∷ []

-- the first child, if there is one, is so deep, and shows rows
abbrev pub IsFirstShown : Contents → ℕ → List OwnChild → Type 0
IsFirstShown contents below [] = Unit {0}
IsFirstShown contents below (c ∷ cs) = HasDepth below c × IsSome (child_rows contents below c)

-- What stands in a root's place: an empty leaf, where the root has no child left; else what its one child has behind
-- chunks with one child each.
abbrev pub HeirNarrows : Contents → ℕ → List OwnChild → NewRoot → Type 0
HeirNarrows contents below [] (heir.Placed at) = ⊥
HeirNarrows contents below [] (heir.Own n) = (n.depth ≡ 1) × (n.marks ≡ own 0 (leaf_keys []) ∷ [])
HeirNarrows contents below (c ∷ cs) (heir.Placed at) = EndsAtChunk contents below (child_levels below c) at
HeirNarrows contents below (c ∷ cs) (heir.Own n) = NarrowsLater contents below n.depth (child_levels below c)
    (seen_levels n)

-- what a removal makes of the chunks of an inner root that was so deep: its heir, if it has one, else its keys and
-- children
abbrev pub IsRootLeft : Contents → ℕ → (Contents → Levels) → List Bytes → List OwnChild → Option NewRoot → Type 0
IsRootLeft contents depth old keys kids None = RemovedLater depth depth contents old
    (λ p. topped (None, parting keys) (kids_levels (depth - 1) kids p))
IsRootLeft contents depth old keys kids (Some (heir.Placed at)) = (deep : ℕ)
    × (chunk_depth contents (stamp_of at) ≡ Some deep)
    × RemovedLater depth deep contents old (λ p. placed_levels p deep (stamp_of at))
IsRootLeft contents depth old keys kids (Some (heir.Own n)) = RemovedLater depth n.depth contents old (seen_levels n)
