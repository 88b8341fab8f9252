-- The machine of the claims table: what each kind of step does, and which tables its steps lead to.
-- The epoch is raised by one at a time, and no further than 2 ^ 60. A step reads and writes one word, and changes the
-- view of the seat that steps alone.
use Rattle.std.specs.Prelude.{◌≡◌, ◌≢◌, ℕ, ◌+◌, ◌^◌, ◌<◌, ◌≤◌, List, [], ◌∷◌, ◌++◌, length, slice_index, slice_set}
use Rattle.std.specs.Prelude.{cond, ◌==◌}
use mathlib.Core.Option.{some}
use lib.ListN.{get_elem?}
use Rattle.atomic_table.specs.Table.{State}
use Rattle.reader_claims.specs.declared.words.Pin.TheVariants.{Absent, Stored}
use Rattle.reader_claims.specs.declared.words.SlotState.TheVariants.{Free, Taken, Live, Retired}
use Rattle.reader_claims.specs.declared.view.Sizes.{Sizes}
use Rattle.reader_claims.specs.declared.view.View.{View}
use Rattle.group_history.specs.Refs.{max_seats}
use Rattle.reader_claims.specs.Words.{epoch_at, pin_at, first_slot, slot_at, slot_word}
use Rattle.reader_claims.specs.Lists.{In}
use Rattle.reader_claims.specs.Views.{reader, dealer, IsOpen, with_epoch, with_pin, with_read, with_raise, with_taken}
use Rattle.reader_claims.specs.Views.{with_settled, with_withdrawn, with_retired, with_missed, with_given, with_note}

-- A seat with the view v finds a number in a word and leaves one there, and then has another view: Move v WORD FOUND
-- LEFT VIEW. The dealer, which makes the other seats and has the number 0, stores no pin, raises nothing and takes no
-- slot
pub data Move (v : View) : ℕ → ℕ → ℕ → View → Type 0 where
  load_epoch : (e : ℕ) → Move v epoch_at e e (with_epoch v e)
  store_pin : (x e : ℕ) → 0 < v.number → v.number ≤ max_seats
      → Move v (pin_at v.number) x (e + 1) (with_pin v (Stored e))
  clear_pin : (x : ℕ) → 0 < v.number → v.number ≤ max_seats → Move v (pin_at v.number) x 0 (with_pin v Absent)
  load_pin : (j x : ℕ) → 0 < j → j ≤ max_seats → Move v (pin_at j) x x (with_read v j x)
  raise : (n : ℕ) → 0 < v.number → n < 2 ^ 60 → n ≤ v.reached → Move v epoch_at n (n + 1) (with_raise v (n + 1))
  -- the epoch was no longer n
  raise_lost : (n x : ℕ) → n ≤ v.reached → x ≢ n → Move v epoch_at x x (with_raise v x)
  take : (i : ℕ) → 0 < v.number → i < v.sizes.slots
      → Move v (slot_at i) (slot_word Free) (slot_word (Taken v.number)) (with_taken v i)
  settle : (i : ℕ) → In v.taken i → Move v (slot_at i) (slot_word (Taken v.number)) (slot_word Live) (with_settled v i)
  withdraw : (i : ℕ) → In v.taken i → Move v (slot_at i) (slot_word (Taken v.number)) (slot_word Free)
      (with_withdrawn v i)
  -- one above the epoch that the seat loaded last, and after a raise from it
  retire : (i : ℕ) → i < v.sizes.slots → v.loaded < v.reached
      → Move v (slot_at i) (slot_word Live) (slot_word (Retired (v.loaded + 1))) (with_retired v i (v.loaded + 1))
  give : (i r : ℕ) → i < v.sizes.slots → IsOpen v r
      → Move v (slot_at i) (slot_word (Retired r)) (slot_word Free) (with_given v i r)
  -- a take or a give that found another word than it looked for; so is a look noted
  lost : (i old x : ℕ) → i < v.sizes.slots → x ≢ old → Move v (slot_at i) x x (with_note v i old x)
  -- a retire that found the slot not live
  miss : (i x : ℕ) → i < v.sizes.slots → x ≢ slot_word Live → Move v (slot_at i) x x (with_missed v i x)

-- what an exchange from old to new leaves where it found x
abbrev pub left_there : ℕ → ℕ → ℕ → ℕ
left_there old new x = cond (x == old) new x

-- Steps of one seat, one after another, which take its view from v to w
pub data Moves : View → View → Type 0 where
  still : (v : View) → Moves v v
  more : (v u w : View) (i x y : ℕ) → Moves v u → Move u i x y w → Moves v w

-- The tables that steps lead to, by their words and the views of their seats. The view of the reader j stands at the
-- place j, and the dealer's at 0.
pub data Reached (k : Sizes) : List ℕ → List View → Type 0 where
  opened : (ws : List ℕ) → length ws ≡ first_slot + k.slots → k.readers ≤ max_seats → ((i : ℕ) → slice_index ws i ≡ 0)
      → Reached k ws (dealer k 1 ∷ [])
  dealt : (ws : List ℕ) (vs : List View) (id n : ℕ) → Reached k ws vs → get_elem? vs id ≡ some (dealer k n) → 0 < n
      → n ≤ k.readers → Reached k ws (slice_set vs id (dealer k (n + 1)) ++ reader k n ∷ [])
  stepped : (ws : List ℕ) (vs : List View) (id i y : ℕ) (v w : View) → Reached k ws vs → get_elem? vs id ≡ some v
      → Move v i (slice_index ws i) y w → Reached k (slice_set ws i y) (slice_set vs id w)

-- The rule of the table of words
abbrev pub Lawful : Sizes → State (Unit {0}) View → Type 0
Lawful k s = Reached k s.words s.views
