-- What holds of a table between any two steps, whatever the steps were and whoever took them. `Reached` is closed under
-- steps, so each law holds after every list of steps.
use Rattle.std.specs.Prelude.{◌≡◌, ◌≢◌, ℕ, ◌+◌, ◌<◌, ◌≤◌, ◌⊎◌, List, [], slice_index, slice_set}
use mathlib.Core.Option.{some}
use lib.ListN.{get_elem?}
use Rattle.atomic_table.specs.Table.{Allows}
use Rattle.reader_claims.specs.declared.words.Pin.TheVariants.{Held}
use Rattle.reader_claims.specs.declared.words.SlotState.TheVariants.{Free, Taken, Live, Retired}
use Rattle.reader_claims.specs.declared.view.Sizes.{Sizes}
use Rattle.reader_claims.specs.declared.view.View.{View}
use Rattle.group_history.specs.Refs.{max_seats}
use Rattle.reader_claims.specs.Words.{epoch_at, pin_at, slot_at, slot_word}
use Rattle.reader_claims.specs.Lists.{In, Noted}
use Rattle.reader_claims.specs.Views.{reader, IsOpen}
use Rattle.reader_claims.specs.Machine.{Move, Reached, Lawful, left_there}

-- A seat that knows v and holds a pin e holds each slot that is live, or retired above e
abbrev pub Holds : List ℕ → View → ℕ → Type 0
Holds ws v i = (e : ℕ) × (v.pin ≡ Held e)
    × ((slice_index ws (slot_at i) ≡ slot_word Live)
    ⊎ ((r : ℕ) × (e < r) × (slice_index ws (slot_at i) ≡ slot_word (Retired r))))

-- a seat of a table: its place, and what it knows
pub record SeatOf (views : List View) : Type 0 where
  pub place : ℕ
  pub view : View
  pub sits : get_elem? views place ≡ some view

-- A table that steps lead to, and two of its seats, which may be the same one
pub record Situation : Type 0 where
  pub sizes : Sizes
  pub words : List ℕ
  pub views : List View
  pub reached : Reached sizes words views
  pub one : SeatOf views
  pub two : SeatOf views

-- what the word i holds
abbrev pub word_at : Situation → ℕ → ℕ
word_at s i = slice_index s.words i

-- the epoch
abbrev pub epoch : Situation → ℕ
epoch s = word_at s epoch_at

-- what the word of the slot i holds
abbrev pub slot : Situation → ℕ → ℕ
slot s i = word_at s (slot_at i)

-- the seat one may step: the word i becomes y, and what the seat knows becomes w
abbrev pub Steps : Situation → ℕ → ℕ → View → Type 0
Steps s i y w = Move s.one.view i (word_at s i) y w

-- No slot is given while a reader holds it: no step of any seat leaves it free
abbrev pub HoldLaw : Type 0
HoldLaw = (s : Situation) (i y : ℕ) (w : View) → i < s.sizes.slots → Holds s.words s.two.view i
    → Steps s (slot_at i) y w → y ≢ slot_word Free

-- Where a slot retired at r may be given, no pin below r is held
abbrev pub OpenLaw : Type 0
OpenLaw = (s : Situation) (r e : ℕ) → IsOpen s.one.view r → s.two.view.pin ≡ Held e → r ≤ e

-- nor is one at any time after some slot was given at r
abbrev pub GivenLaw : Type 0
GivenLaw = (s : Situation) (e : ℕ) → s.two.view.pin ≡ Held e → s.one.view.floor ≤ e

-- The epoch never falls
abbrev pub EpochLaw : Type 0
EpochLaw = (s : Situation) (i y : ℕ) (w : View) → Steps s i y w → epoch s ≤ slice_index (slice_set s.words i y) epoch_at

-- A pin that is held stands in the word of its seat, and is at most the epoch. So where a seat loads the epoch as n, n
-- + 1 is above each pin held then
abbrev pub HeldLaw : Type 0
HeldLaw = (s : Situation) (e : ℕ) → s.one.view.pin ≡ Held e → (word_at s (pin_at s.one.place) ≡ e + 1) × (e ≤ epoch s)

-- Each number at which a slot is retired is at most the epoch
abbrev pub RetiredLaw : Type 0
RetiredLaw = (s : Situation) (i r : ℕ) → i < s.sizes.slots → slot s i ≡ slot_word (Retired r) → r ≤ epoch s

-- A slot that a seat has is its own alone: its word says so, and no other seat has it
abbrev pub TakenLaw : Type 0
TakenLaw = (s : Situation) (i : ℕ) → In s.one.view.taken i
    → (slot s i ≡ slot_word (Taken s.one.place)) × (In s.two.view.taken i → s.one.place ≡ s.two.place)

-- A slot whose word says that j has taken it is known as its own by the seat j, and by no other
abbrev pub TakerLaw : Type 0
TakerLaw = (s : Situation) (i j : ℕ) → i < s.sizes.slots → slot s i ≡ slot_word (Taken j)
    → ((t : SeatOf s.views) × (t.place ≡ j) × In t.view.taken i) × (In s.one.view.taken i → s.one.place ≡ j)

-- If the seat one read the pin of two since it last read or raised past the epoch, then what two holds is the number
-- read, or at least that epoch
abbrev pub LearntLaw : Type 0
LearntLaw = (s : Situation) (x e : ℕ) → Noted s.one.view.read s.two.place x → s.two.view.pin ≡ Held e
    → (x ≡ e + 1) ⊎ (s.one.view.reached ≤ e)

-- A live slot's word changes by `retire` alone, and to one above the epoch that the seat loaded
abbrev pub LiveLaw : Type 0
LiveLaw = (s : Situation) (i y : ℕ) (w : View) → i < s.sizes.slots → slot s i ≡ slot_word Live → Steps s (slot_at i) y w
    → (y ≡ slot_word Live) ⊎ ((y ≡ slot_word (Retired (s.one.view.loaded + 1)))
    × (s.one.view.loaded < s.one.view.reached))

-- After each step steps lead to the table that it leaves, in which the seat knows what the step told it
abbrev pub StepLaw : Type 0
StepLaw = (s : Situation) (i y : ℕ) (w : View) → Steps s i y w
    → Reached s.sizes (slice_set s.words i y) (slice_set s.views s.one.place w)
    × (get_elem? (slice_set s.views s.one.place w) s.one.place ≡ some w)

-- The rule of the table of words has room for no other step here: an exchange from Live to Free breaks it, whatever
-- becomes of the view of the seat (here of one that has seen nothing)
abbrev pub BareLaw : Type 0
BareLaw = (k : Sizes) (i : ℕ) → 1 < k.readers → k.readers ≤ max_seats → i < k.slots
    → Allows (Lawful k) 0 2 (reader k 2, []) (slot_at i) (left_there (slot_word Live) (slot_word Free))
    (λ _ _. Unit {0}) → ⊥
