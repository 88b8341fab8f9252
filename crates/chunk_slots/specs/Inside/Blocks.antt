-- How the slots of an arena lie in blocks.
use Rattle.std.specs.Prelude.{ℕ, ◌≡◌, ◌+◌, ◌-◌, ◌*◌, ◌/◌, ◌<◌, List, [], ◌∷◌, length, min, slice_index_or}
use Rattle.std.specs.List.{All}
use Rattle.boxcar.specs.Slot.{Named}
use Rattle.logbook.specs.Pages.{Book}
use Rattle.head_word.specs.Marks.{Known}
use Rattle.chunk_slots.specs.Inside.Appended.{numbers}

-- how many slots there are, and of which book
pub record Room : Type 0 where
  pub slots : ℕ
  pub book : Book

-- as many slots as block i has: 1,024, and the last one what is left
abbrev pub length_of : ℕ → ℕ → ℕ
length_of slots i = min (slots - i * 1024) 1024

-- the tag of block i: how many slots it has, and the book
abbrev pub tag_of : Room → ℕ → List ℕ
tag_of room i = length_of room.slots i ∷ numbers room.book

-- the block has as many slots as its tag says, whose tags are of the book
abbrev pub IsBlock : List ℕ → List Known → Type 0
IsBlock [] slots = ⊥
IsBlock (n ∷ book) slots = (length slots ≡ n) × All (λ tag. numbers tag.book ≡ book) slots

-- there are n blocks, each with its tag
abbrev pub AreBlocks : Room → ℕ → List Named → Type 0
AreBlocks room n blocks =
    (length blocks ≡ n) × ((i : ℕ) (d : Named) → i < n → (slice_index_or blocks i d).tag ≡ tag_of room i)

-- as many blocks as have room for all slots
abbrev pub block_count : ℕ → ℕ
block_count slots = (slots + 1023) / 1024
