-- Of which chunks a map consists, level by level, and what a put and a removal make of them. A chunk has at most 16
-- entries: a 17th splits it into the first 8 and the last 9. One with no entry goes. This project's own rules.
use Rattle.std.specs.Prelude.{◌≡◌, ◌⊎◌, ◌==◌, ℕ, zero, suc, ◌+◌, ◌-◌, ◌<◌, ◌≤◌, nat_le, if◌then◌else◌, List, [], ◌∷◌}
use Rattle.std.specs.Prelude.{◌++◌, map, length, take, drop, Option, Some, None, slice_get}
use Rattle.std.specs.List.{flat_map}
use mathlib.Core.List.{IsPrefix}
use Rattle.group_history.specs.declared.nodes.Chunk.TheVariants.{Leaf, Inner}
use Rattle.group_history.specs.declared.nodes.Node.{Node}
use Rattle.group_history.specs.declared.nodes.Node.TheVariants.{Chunk, Commit}
use Rattle.group_history.specs.Map.{Bytes}
use Rattle.group_history.specs.Refs.{stamp_of}
use Rattle.group_history.specs.Rows.{keys_of}
use Rattle.group_history.specs.Spelling.{Contents}
use Rattle.map_chunks.specs.Shown.{Mark, own, placed, Seen, Shape, leaf_keys, child_keys}

-- a chunk of a map: its stamp, which a new one has not, and its keys
abbrev pub Member : Type 0
Member = Option ℕ × Shape

-- so many levels below the first chunk, which chunks there are, in their order
abbrev pub Levels : Type 0
Levels = ℕ → List Member

abbrev pub nothing : Levels
nothing level = []

-- a chunk, and what is below it
abbrev pub topped : Member → Levels → Levels
topped chunk below zero = chunk ∷ []
topped chunk below (suc level) = below level

-- the keys that part children with these first keys
abbrev pub parting : List Bytes → Shape
parting keys = child_keys (drop 1 keys)

-- the chunk of a stamp, and what is below it by its children's stamps
abbrev pub node_levels : ℕ → (ℕ → Levels) → Option (Node ℕ) → Levels
node_levels stamp below None = nothing
node_levels stamp below (Some (Commit c)) = nothing
node_levels stamp below (Some (Chunk (Leaf rows))) = topped (Some stamp, leaf_keys (keys_of rows)) nothing
node_levels stamp below (Some (Chunk (Inner kids))) =
    topped (Some stamp, parting (keys_of kids)) (λ level. flat_map (λ e. below e.1 level) kids)

-- the placed chunk of a stamp, which is so deep, and what is below it
abbrev pub placed_levels : Contents → ℕ → ℕ → Levels
placed_levels contents zero stamp = nothing
placed_levels contents (suc below) stamp = node_levels stamp (placed_levels contents below) (slice_get contents stamp)

-- a chunk of a draft; of a placed one what is below it, too
abbrev pub mark_levels : Contents → Mark → Levels
mark_levels contents (own at keys) level = if at == level then (None, keys) ∷ [] else []
mark_levels contents (placed at deep ref) level =
    if nat_le at level then placed_levels contents deep (stamp_of ref) (level - at) else []

abbrev pub levels_of : Contents → List Mark → Levels
levels_of contents [] level = []
levels_of contents (m ∷ ms) level = mark_levels contents m level ++ levels_of contents ms level

abbrev pub seen_levels : Seen → Contents → Levels
seen_levels n contents = levels_of contents n.marks

-- the same chunks on each level
abbrev pub AreAsBefore : Levels → Levels → Type 0
AreAsBefore old new = (level : ℕ) → new level ≡ old level

-- A CHANGE

-- new chunks with these keys
abbrev pub as_new : List Shape → List Member
as_new made = map (λ keys. (None, keys)) made

-- In the place of one chunk stand new ones, and it became these. No other chunk of the level is another one.
abbrev pub HasMade : (Shape → List Shape → Type 0) → List Member → List Member → Type 0
HasMade Became old new = (before : List Member) × (chunk : Member) × (after : List Member) × (made : List Shape)
    × (old ≡ before ++ chunk ∷ after) × (new ≡ before ++ (as_new made ++ after)) × Became chunk.1 made

-- the chunks of a level are the same, or new ones stand in the place of one, where this may be
abbrev pub AreChanged : Type 0 → (Shape → List Shape → Type 0) → List Member → List Member → Type 0
AreChanged May Became old new = (new ≡ old) ⊎ (May × HasMade Became old new)

-- The first chunk is a new one with the keys of the old one, and below it are the same chunks.
abbrev pub IsCopied : Levels → Levels → Type 0
IsCopied old new = ((stamp : Option ℕ) × (keys : Shape) × (old 0 ≡ (stamp, keys) ∷ []) × (new 0 ≡ (None, keys) ∷ []))
    × ((level : ℕ) → new (suc level) ≡ old (suc level))

-- so it is whatever is placed later
abbrev pub CopiedLater : Contents → (Contents → Levels) → (Contents → Levels) → Type 0
CopiedLater contents old new = (later : Contents) → IsPrefix contents later → IsCopied (old later) (new later)

-- A VALUE REPLACED

-- a new chunk with the keys of the old one
abbrev pub IsRenewed : Shape → List Shape → Type 0
IsRenewed keys made = made ≡ keys ∷ []

-- Whatever is placed later: on each of so many levels one chunk at most is new, and it has the keys of the one in whose
-- place it stands.
abbrev pub RenewedLater : Contents → ℕ → (Contents → Levels) → (Contents → Levels) → Type 0
RenewedLater contents deep old new = (later : Contents) → IsPrefix contents later → (level : ℕ)
    → AreChanged (level < deep) IsRenewed (old later level) (new later level)

-- A PUT

-- one key more stands among these
abbrev pub HasOneMore : List Bytes → List Bytes → Type 0
HasOneMore keys more = (low : List Bytes) × (key : Bytes) × (high : List Bytes) × (keys ≡ low ++ high)
    × (more ≡ low ++ key ∷ high)

-- A chunk with room got an entry more: one of at most 16 rows, or 15 keys that part at most 16 children.
abbrev pub IsWider : Shape → List Shape → Type 0
IsWider (leaf_keys keys) made = (more : List Bytes) × (length keys < 16) × HasOneMore keys more
    × (made ≡ leaf_keys more ∷ [])
IsWider (child_keys keys) made = (more : List Bytes) × (length keys < 15) × HasOneMore keys more
    × (made ≡ child_keys more ∷ [])

-- A full chunk got a 17th entry: the first 8 and the last 9 stand in its place. The key that parts the ninth child from
-- the eighth goes to the chunk above.
abbrev pub IsSplit : Shape → List Shape → Type 0
IsSplit (leaf_keys keys) made = (more : List Bytes) × (length keys ≡ 16) × HasOneMore keys more
    × (made ≡ leaf_keys (take 8 more) ∷ leaf_keys (drop 8 more) ∷ [])
IsSplit (child_keys keys) made = (more : List Bytes) × (length keys ≡ 15) × HasOneMore keys more
    × (made ≡ child_keys (take 7 more) ∷ child_keys (drop 8 more) ∷ [])

-- what becomes of a chunk on the way to a key that is put
abbrev pub IsGrown : Shape → List Shape → Type 0
IsGrown keys made = IsRenewed keys made ⊎ IsWider keys made ⊎ IsSplit keys made

-- on each of so many levels one chunk at most is on the way, and all others are the same
abbrev pub ArePut : ℕ → Levels → Levels → Type 0
ArePut deep old new = (level : ℕ) → AreChanged (level < deep) IsGrown (old level) (new level)

-- What a put makes of a map that was so deep, and is so deep then. Where it is deeper, a root of two stands above the
-- halves of the old one.
abbrev pub ArePutIn : ℕ → ℕ → Levels → Levels → Type 0
ArePutIn was deep old new = (was ≤ deep) × (deep ≤ was + 1) × ArePut was old (λ level. new (level + (deep - was)))
    × (was < deep → (key : Bytes) × (new 0 ≡ (None, child_keys (key ∷ [])) ∷ []))

-- whatever is placed later, this is what a put makes of a map
abbrev pub PutLater : ℕ → ℕ → Contents → (Contents → Levels) → (Contents → Levels) → Type 0
PutLater was deep contents old new = (later : Contents) → IsPrefix contents later
    → ArePutIn was deep (old later) (new later)

-- A REMOVAL

-- A chunk has an entry less: a row, or a child.
abbrev pub IsNarrower : Shape → List Shape → Type 0
IsNarrower (leaf_keys keys) made = (fewer : List Bytes) × HasOneMore fewer keys × (made ≡ leaf_keys fewer ∷ [])
IsNarrower (child_keys keys) made = (fewer : List Bytes) × HasOneMore fewer keys × (made ≡ child_keys fewer ∷ [])

-- A child lost its first row, and another key parts it from the child before it.
abbrev pub IsParted : Shape → List Shape → Type 0
IsParted (leaf_keys keys) made = ⊥
IsParted (child_keys keys) made = (low : List Bytes) × (key : Bytes) × (next : Bytes) × (high : List Bytes)
    × (keys ≡ low ++ key ∷ high) × (made ≡ child_keys (low ++ next ∷ high) ∷ [])

-- A chunk of one row, or of one child, at most is gone, and nothing stands in its place.
abbrev pub IsGone : Shape → List Shape → Type 0
IsGone (leaf_keys keys) made = (length keys ≤ 1) × (made ≡ [])
IsGone (child_keys keys) made = (keys ≡ []) × (made ≡ [])

-- What becomes of a chunk on the way to a key that is removed: it keeps its keys, loses one, has another one between
-- two children, or goes.
abbrev pub IsShrunk : Shape → List Shape → Type 0
IsShrunk keys made = IsRenewed keys made ⊎ IsNarrower keys made ⊎ IsParted keys made ⊎ IsGone keys made

-- on each of so many levels one chunk at most is on the way, and all others are the same
abbrev pub AreShrunk : ℕ → Levels → Levels → Type 0
AreShrunk deep old new = (level : ℕ) → AreChanged (level < deep) IsShrunk (old level) (new level)

-- so it is whatever is placed later
abbrev pub ShrunkLater : Contents → ℕ → (Contents → Levels) → (Contents → Levels) → Type 0
ShrunkLater contents deep old new = (later : Contents) → IsPrefix contents later
    → AreShrunk deep (old later) (new later)

-- What a removal makes of a map that was so deep, and is so deep then. Where it is less deep, the topmost levels are
-- gone: a root that would keep one child gives way to it, and so does the child where it has but one. Two chunks at
-- most stood on each of these levels.
abbrev pub AreRemovedIn : ℕ → ℕ → Levels → Levels → Type 0
AreRemovedIn was deep old new = (gone : ℕ) × (gone + deep ≡ was) × AreShrunk deep (λ level. old (level + gone)) new
    × ((level : ℕ) → level < gone → length (old level) ≤ 2)

-- whatever is placed later, this is what a removal makes of a map
abbrev pub RemovedLater : ℕ → ℕ → Contents → (Contents → Levels) → (Contents → Levels) → Type 0
RemovedLater was deep contents old new = (later : Contents) → IsPrefix contents later
    → AreRemovedIn was deep (old later) (new later)

-- A FREEZE

-- the chunk is as it was, or was new, and has a stamp from the first one on
abbrev pub IsNamedNow : ℕ → Member → Member → Type 0
IsNamedNow first old new = (new ≡ old)
    ⊎ ((stamp : ℕ) × (first ≤ stamp) × (old.0 ≡ None) × (new ≡ (Some stamp, old.1)))

abbrev pub AreNamedNow : ℕ → List Member → List Member → Type 0
AreNamedNow first [] [] = Unit {0}
AreNamedNow first [] (n ∷ new) = ⊥
AreNamedNow first (o ∷ old) [] = ⊥
AreNamedNow first (o ∷ old) (n ∷ new) = IsNamedNow first o n × AreNamedNow first old new

-- Whatever is placed later: the chunks that were new have stamps from the first one on, and the others are as they
-- were.
abbrev pub NamedLater : ℕ → Contents → (Contents → Levels) → (Contents → Levels) → Type 0
NamedLater first contents old new = (later : Contents) → IsPrefix contents later → (level : ℕ)
    → AreNamedNow first (old later level) (new later level)
