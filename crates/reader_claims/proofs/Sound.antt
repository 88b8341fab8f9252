-- What holds of every table that steps lead to.
use Rattle.std.specs.Prelude.{◌≡◌, ℕ, ◌+◌, ◌^◌, ◌<◌, ◌≤◌, ◌⊎◌, length, slice_index}
use mathlib.Core.Option.{some}
use lib.ListN.{get_elem?}
use Rattle.atomic_table.specs.Table.{State}
use Rattle.reader_claims.specs.declared.words.Pin.TheVariants.{Absent, Held}
use Rattle.reader_claims.specs.declared.words.SlotState.TheVariants.{Taken, Retired}
use Rattle.reader_claims.specs.declared.view.Sizes.{Sizes}
use Rattle.reader_claims.specs.declared.view.View.{View}
use Rattle.group_history.specs.Refs.{max_seats}
use Rattle.reader_claims.specs.Words.{pin_at, first_slot, slot_at, pin_word, slot_word}
use Rattle.reader_claims.specs.Lists.{In, Noted}

-- The epoch and the pins
pub record Pins (k : Sizes) (s : State (Unit {0}) View) : Type 0 where
  pub wide : length s.words ≡ first_slot + k.slots
  pub sized : k.readers ≤ max_seats
  pub few : length s.views ≤ k.readers + 1
  pub of : (j : ℕ) (v : View) → get_elem? s.views j ≡ some v → v.sizes ≡ k
  pub numbered : (j : ℕ) (v : View) → get_elem? s.views j ≡ some v → v.number ≡ j
  pub dealing : (v : View) → get_elem? s.views 0 ≡ some v → v.next ≡ length s.views
  pub pinless : (v : View) → get_elem? s.views 0 ≡ some v → v.pin ≡ Absent
  pub undealt : (j : ℕ) → length s.views ≤ j → j ≤ max_seats → slice_index s.words (pin_at j) ≡ 0
  pub low : slice_index s.words 0 ≤ 2 ^ 60
  -- each pin stands in its word
  pub pinned : (j : ℕ) (v : View) → get_elem? s.views j ≡ some v → 0 < j
      → slice_index s.words (pin_at j) ≡ pin_word v.pin
  pub behind : (j : ℕ) (v : View) → get_elem? s.views j ≡ some v
      → (v.loaded ≤ v.reached) × (v.reached ≤ slice_index s.words 0)
  pub held : (j : ℕ) (v : View) (e : ℕ) → get_elem? s.views j ≡ some v → v.pin ≡ Held e → e ≤ slice_index s.words 0
  -- what a seat holds now is what was read of it, or at least what the seat that read it has reached
  pub learnt : (j i : ℕ) (v u : View) (w e : ℕ) → get_elem? s.views j ≡ some v → get_elem? s.views i ≡ some u
      → Noted v.read i w → u.pin ≡ Held e → (w ≡ e + 1) ⊎ (v.reached ≤ e)

-- The slots
pub record Slots (k : Sizes) (s : State (Unit {0}) View) : Type 0 where
  -- a slot taken by j is in the view of j, and in no other
  pub taken : (j i : ℕ) (v : View) → get_elem? s.views j ≡ some v → In v.taken i
      → (i < k.slots) × (slice_index s.words (slot_at i) ≡ slot_word (Taken j))
  pub taker : (i j : ℕ) → i < k.slots → slice_index s.words (slot_at i) ≡ slot_word (Taken j)
      → (v : View) × (get_elem? s.views j ≡ some v) × In v.taken i
  pub retired : (i r : ℕ) → i < k.slots → slice_index s.words (slot_at i) ≡ slot_word (Retired r)
      → r ≤ slice_index s.words 0
  pub floor : (j : ℕ) (v : View) → get_elem? s.views j ≡ some v → v.floor ≤ slice_index s.words 0
  -- no pin is held below a number at which a slot was given
  pub floors : (j i : ℕ) (v u : View) (e : ℕ) → get_elem? s.views j ≡ some v → get_elem? s.views i ≡ some u
      → u.pin ≡ Held e → v.floor ≤ e

pub record Sound (k : Sizes) (s : State (Unit {0}) View) : Type 0 where
  pub pins : Pins k s
  pub slots : Slots k s
