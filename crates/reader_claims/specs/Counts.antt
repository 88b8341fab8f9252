-- What a count of a table tells: of the states in which the slots were found, and of the pins. Lists of them have the
-- last one in front, so the number of a slot is how many stand behind it.
use Rattle.std.specs.Prelude.{◌≡◌, ◌↔◌, ℕ, ◌+◌, List, [], ◌∷◌, ◌++◌, length, min, nat_lt, if◌then◌else◌, Option, Some}
use Rattle.std.specs.Prelude.{None}
use Rattle.reader_claims.specs.declared.counts.SlotCounts.{SlotCounts}
use Rattle.reader_claims.specs.declared.view.Sizes.{Sizes}
use Rattle.reader_claims.specs.declared.view.View.{View}
use Rattle.reader_claims.specs.Notes.{Note, lost}
use Rattle.reader_claims.specs.declared.words.Pin.{Pin}
use Rattle.reader_claims.specs.declared.words.Pin.TheVariants.{Absent, Stored, Held}
use Rattle.reader_claims.specs.declared.words.SlotState.{SlotState}
use Rattle.reader_claims.specs.declared.words.SlotState.TheVariants.{Free, Taken, Live, Retired}
use Rattle.reader_claims.specs.Seats.{first_reserved}
use Rattle.reader_claims.specs.Views.{sought}
use Rattle.reader_claims.specs.Words.{pin_at, pin_word, slot_at, slot_word}

-- ---- the slots

abbrev pub no_slots : SlotCounts
no_slots = record {
  ordinary_free = 0;
  reserved_free = 0;
  live = 0;
  retired = 0;
  taken = 0;
  pinned_seats = 0;
  oldest_pin = None;
}

-- the slot i more, which is in this state; those below the first reserved one are ordinary
abbrev pub with_slot : ℕ → ℕ → SlotState → SlotCounts → SlotCounts
with_slot reserved i Free c = if nat_lt i reserved then record c { ordinary_free = c.ordinary_free + 1 } else record c
    { reserved_free = c.reserved_free + 1 }
with_slot reserved i (Taken j) c = record c { taken = c.taken + 1 }
with_slot reserved i Live c = record c { live = c.live + 1 }
with_slot reserved i (Retired r) c = record c { retired = c.retired + 1 }

abbrev pub slots_counted : ℕ → List SlotState → SlotCounts
slots_counted reserved [] = no_slots
slots_counted reserved (state ∷ states) = with_slot reserved (length states) state (slots_counted reserved states)

-- how many slots were counted, in whatever state
abbrev pub all_slots : SlotCounts → ℕ
all_slots c = c.ordinary_free + c.reserved_free + c.live + c.retired + c.taken

-- ---- the pins

-- the lesser one, where there is an older one
abbrev pub oldest : Option ℕ → ℕ → Option ℕ
oldest None e = Some e
oldest (Some old) e = Some (min old e)

abbrev pub pin_counted : Pin → SlotCounts → SlotCounts
pin_counted Absent c = c
pin_counted (Stored e) c = record c { pinned_seats = c.pinned_seats + 1; oldest_pin = oldest c.oldest_pin e }
pin_counted (Held e) c = record c { pinned_seats = c.pinned_seats + 1; oldest_pin = oldest c.oldest_pin e }

abbrev pub pins_counted : List Pin → SlotCounts → SlotCounts
pins_counted [] c = c
pins_counted (pin ∷ pins) c = pin_counted pin (pins_counted pins c)

-- ---- a count

-- a look at the word of each of the slots found it so
abbrev pub SlotsFound : (ℕ → ℕ → Type 0) → List SlotState → Type 0
SlotsFound found [] = Unit {0}
SlotsFound found (state ∷ states) = found (slot_at (length states)) (slot_word state) × SlotsFound found states

-- a look at the word of each of the pins found it so; the first reader is 1
abbrev pub PinsFound : (ℕ → ℕ → Type 0) → List Pin → Type 0
PinsFound found [] = Unit {0}
PinsFound found (pin ∷ pins) = found (pin_at (length pins + 1)) (pin_word pin) × PinsFound found pins

-- the numbers are those of n slots, which looks found in such states
abbrev pub CountsSlots : (ℕ → ℕ → Type 0) → ℕ → ℕ → SlotCounts → Type 0
CountsSlots found reserved n c = (states : List SlotState) × (length states ≡ n) × SlotsFound found states
    × (c ≡ slots_counted reserved states)

-- beside those of the slots, the numbers are those of n pins, which looks found so
abbrev pub CountsPins : (ℕ → ℕ → Type 0) → ℕ → SlotCounts → SlotCounts → Type 0
CountsPins found n slots c = (pins : List Pin) × (length pins ≡ n) × PinsFound found pins
    × (c ≡ pins_counted pins slots)

-- the numbers are those of each slot and each pin of a table of this size, which looks found so
pub record Counts (found : ℕ → ℕ → Type 0) (k : Sizes) (c : SlotCounts) : Type 0 where
  pub slots : SlotCounts
  pub of_slots : CountsSlots found (first_reserved k) k.slots slots
  pub of_pins : CountsPins found k.readers slots c

-- from v to u the seat noted that at this place it found this word, of a slot or of a reader's pin
pub data Found (v u : View) : ℕ → ℕ → Type 0 where
  slot : (i w : ℕ) (later before : List Note) → u.notes ≡ later ++ (lost i (sought w) w ∷ (before ++ v.notes))
      → Found v u (slot_at i) w
  pin : (j w : ℕ) (later before : List (ℕ × ℕ)) → u.read ≡ later ++ ((j, w) ∷ (before ++ v.read))
      → Found v u (pin_at j) w

-- but for the pins that it read and the slots that it noted, u is v
abbrev pub OnlyLooks : View → View → Type 0
OnlyLooks v u = u ≡ record v { read = u.read; notes = u.notes }

-- no pin is the oldest one just where no seat is pinned
abbrev pub HasOldest : SlotCounts → Type 0
HasOldest c = (c.oldest_pin ≡ None) ↔ (c.pinned_seats ≡ 0)
