-- The words of the table: where each stands, and which number stands for a pin or a slot.
-- Words lie 8 bytes apart, so 8 words fill a cache line: the epoch and each pin have a line of their own. The layout is
-- that of `max_seats` readers, however many there are.
use Rattle.std.specs.Prelude.{ℕ, ◌+◌, ◌*◌, ◌-◌, ◌^◌, ◌<◌}
use Rattle.group_history.specs.Refs.{max_seats}
use Rattle.reader_claims.specs.declared.words.Pin.{Pin}
use Rattle.reader_claims.specs.declared.words.Pin.TheVariants.{Absent, Stored, Held}
use Rattle.reader_claims.specs.declared.words.SlotState.{SlotState}
use Rattle.reader_claims.specs.declared.words.SlotState.TheVariants.{Free, Taken, Live, Retired}

abbrev pub epoch_at : ℕ
epoch_at = 0

-- the word of the pin of the reader j, counted from 1 on
abbrev pub pin_at : ℕ → ℕ
pin_at j = 8 * j

abbrev pub first_slot : ℕ
first_slot = 8 * (max_seats + 1)

-- the word of the slot i
abbrev pub slot_at : ℕ → ℕ
slot_at i = first_slot + i

abbrev pub pin_word : Pin → ℕ
pin_word Absent = 0
pin_word (Stored e) = e + 1
pin_word (Held e) = e + 1

-- its number fits a word
abbrev pub IsSmallPin : Pin → Type 0
IsSmallPin Absent = Unit {0}
IsSmallPin (Stored e) = e < 2 ^ 64 - 1
IsSmallPin (Held e) = e < 2 ^ 64 - 1

abbrev pub slot_word : SlotState → ℕ
slot_word Free = 0
slot_word (Taken j) = 2 * j + 2
slot_word Live = 1
slot_word (Retired r) = 2 * r + 3

-- its number fits a word
abbrev pub IsSmall : SlotState → Type 0
IsSmall Free = Unit {0}
IsSmall (Taken j) = j < 2 ^ 63 - 1
IsSmall Live = Unit {0}
IsSmall (Retired r) = r < 2 ^ 63 - 1
