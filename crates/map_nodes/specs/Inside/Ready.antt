-- What a chunk needs before it is split, and before the upper half of a child is put in it.
use Rattle.std.specs.Prelude.{◌≡◌, ℕ, ◌+◌, ◌-◌, ◌<◌, ◌≤◌, T, List, [], Option, Some, None, IsSome, Box, length}
use Rattle.std.specs.Prelude.{vec_capacity}
use Rattle.std.specs.declared.alloc.Global.{Global}
use Rattle.group_history.specs.Map.{Bytes}
use Rattle.group_history.specs.Rows.{rises, keys_of, paired}
use Rattle.map_nodes.specs.Nodes.{AllKids}
use Rattle.map_nodes.specs.Inside.Halves.{AreNinth, IsHalf, with_half}
use Rattle.map_nodes.specs.declared.nodes.OwnChild.{OwnChild}
use Rattle.map_nodes.specs.declared.nodes.putting.Half.{Half}
use Rattle.map_nodes.specs.declared.nodes.putting.splits.SplitBuffers.{SplitBuffers}

-- room for the upper half of a chunk with so many entries, where it is full
pub record HasRoom {A : Type 0} (entries : ℕ) (room : SplitBuffers A) : Type 0 where
  pub empty : (room.spare.keys.items ≡ []) × (room.spare.entries.items ≡ [])
  pub spare : 16 ≤ entries → (17 ≤ vec_capacity room.spare.keys) × (17 ≤ vec_capacity room.spare.entries)
  pub home : 16 ≤ entries → IsSome room.home

-- what was taken for a split, if anything was
abbrev pub TakenRoom : Type 0
TakenRoom = Option (Box (SplitBuffers OwnChild) Global)

-- room for the upper half of a chunk with so many entries was taken, where it is full
abbrev pub HasRoomIn : ℕ → TakenRoom → Type 0
HasRoomIn entries None = 16 ≤ entries → ⊥
HasRoomIn entries (Some room) = HasRoom entries room.value

-- so were copies of the ninth key that there is once a key is put before the place
abbrev pub AreNinthIn : ℕ → List Bytes → ℕ → Bytes → TakenRoom → Type 0
AreNinthIn copies keys place key None = Unit {0}
AreNinthIn copies keys place key (Some room) = AreNinth copies keys place key room.value.firsts.items

-- Its keys have room, and where it is full there is room for an upper half of its own, with so many copies of that
-- half's first key.
abbrev pub IsReady : ℕ → List Bytes → ℕ → ℕ → Bytes → TakenRoom → Type 0
IsReady copies keys free place key room = (0 < free) × AreNinthIn copies keys (place + 1) key room
    × HasRoomIn (length keys) room

-- what was taken, or room for nothing
abbrev pub IsRoomTaken : TakenRoom → SplitBuffers OwnChild → Type 0
IsRoomTaken None room = (room.spare.keys.items ≡ []) × (room.spare.entries.items ≡ [])
IsRoomTaken (Some taken) room = room ≡ taken.value

-- an inner chunk, so deep, with these keys and children, in which the upper half of the child at the place fits
-- behind it: there is a copy of the half's first key
pub record Suits (depth place : ℕ) (keys : List Bytes) (kids : List OwnChild) (half : Option Half) : Type 0 where
  pub above : 0 < depth
  pub pairs : length kids ≡ length keys
  pub few : length keys ≤ 16
  pub within : place < length keys
  pub split : (copies : ℕ) × IsHalf (copies + 1) (depth - 1) half
  pub all : AllKids (depth - 1) (with_half place half (paired keys kids))
  pub order : T (rises (keys_of (with_half place half (paired keys kids))))
