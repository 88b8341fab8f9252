-- What each kind of step tells its caller: of the step, the seat before, the number found (at a store, the number
-- stored) and the seat after.
use Rattle.std.specs.Prelude.{◌≡◌, ◌≢◌, ℕ, ◌+◌, ◌^◌, ◌≤◌, ◌<◌, max}
use Rattle.atomic_table.specs.Table.{Me, Step}
use Rattle.reader_claims.specs.declared.words.Pin.TheVariants.{Absent, Stored}
use Rattle.reader_claims.specs.declared.words.SlotState.TheVariants.{Free, Taken, Live, Retired}
use Rattle.reader_claims.specs.declared.view.View.{View}
use Rattle.reader_claims.specs.Words.{pin_at, slot_at, slot_word}
use Rattle.reader_claims.specs.Lists.{In}
use Rattle.reader_claims.specs.Views.{reader, dealer, with_epoch, with_pin, with_read, with_raise, with_taken}
use Rattle.reader_claims.specs.Views.{with_settled, with_withdrawn, with_retired, with_missed, with_given, with_note}
use Rattle.reader_claims.specs.Views.{with_look}
use Rattle.reader_claims.specs.Machine.{Move, left_there}

abbrev pub Sat : Type 0
Sat = Me (Unit {0}) View

abbrev pub Play : Type 1
Play = Step (Unit {0}) → Sat → ℕ → Sat → Type 0

abbrev pub dealt_left : View → View
dealt_left v = dealer v.sizes (v.next + 1)

abbrev pub dealt_right : View → View
dealt_right v = reader v.sizes v.next

-- the step was this one of the machine, and the view became w
abbrev pub GoesTo : Step (Unit {0}) → Sat → ℕ → ℕ → Sat → View → Type 0
GoesTo st m x y n w = (n ≡ (w, m.1)) × Move m.0 st.word x y w

abbrev pub loaded : Play
loaded st m r n = GoesTo st m r r n (with_epoch m.0 r) × (m.0.reached ≤ r) × (r ≤ 2 ^ 60)

abbrev pub stored : Play
stored st m r n = (e : ℕ) → st.first ≡ e + 1 → (x : ℕ) × GoesTo st m x r n (with_pin m.0 (Stored e))

abbrev pub cleared_pin : Play
cleared_pin st m r n = (x : ℕ) × GoesTo st m x r n (with_pin m.0 Absent)

abbrev pub read : Play
read st m r n = (j : ℕ) → st.word ≡ pin_at j → GoesTo st m r r n (with_read m.0 j r)

abbrev pub looked_at : Play
looked_at st m r n = (i : ℕ) → st.word ≡ slot_at i
    → GoesTo st m r r n (with_look m.0 i r) × (r ≡ slot_word (Taken m.0.number) → In m.0.taken i)

-- won or lost, the epoch is then above the number that it was to be raised from
abbrev pub raised_epoch : Play
raised_epoch st m r n = (st.second ≡ st.first + 1)
    × GoesTo st m r (left_there st.first st.second r) n (with_raise m.0 (max r (st.first + 1)))
    × (m.0.reached ≤ r) × (r ≤ 2 ^ 60)

-- where it was won the seat did not have the slot before; where it found its own number, it did
abbrev pub took : Play
took st m r n = (st.first ≡ slot_word Free) × (st.second ≡ slot_word (Taken m.0.number))
    × ((i : ℕ) → st.word ≡ slot_at i → (r ≡ st.first
    → GoesTo st m r st.second n (with_taken m.0 i) × (In m.0.taken i → ⊥))
    × (r ≢ st.first → GoesTo st m r r n (with_note m.0 i st.first r)
    × (r ≡ slot_word (Taken m.0.number) → In m.0.taken i)))

abbrev pub made_live : Play
made_live st m r n = (st.first ≡ slot_word (Taken m.0.number)) × (st.second ≡ slot_word Live) × (r ≡ st.first)
    × ((i : ℕ) → st.word ≡ slot_at i → GoesTo st m r st.second n (with_settled m.0 i))

abbrev pub withdrawn : Play
withdrawn st m r n = (st.first ≡ slot_word (Taken m.0.number)) × (st.second ≡ slot_word Free) × (r ≡ st.first)
    × ((i : ℕ) → st.word ≡ slot_at i → GoesTo st m r st.second n (with_withdrawn m.0 i))

abbrev pub retired : Play
retired st m r n = (st.first ≡ slot_word Live) × (st.second ≡ slot_word (Retired (m.0.loaded + 1)))
    × (m.0.loaded < m.0.reached)
    × ((i : ℕ) → st.word ≡ slot_at i → (r ≡ st.first → GoesTo st m r st.second n (with_retired m.0 i (m.0.loaded + 1)))
    × (r ≢ st.first → GoesTo st m r r n (with_missed m.0 i r)))

abbrev pub gave_slot : Play
gave_slot st m r n = (st.second ≡ slot_word Free)
    × ((i e : ℕ) → st.word ≡ slot_at i → st.first ≡ slot_word (Retired e)
    → (r ≡ st.first → GoesTo st m r st.second n (with_given m.0 i e))
    × (r ≢ st.first → GoesTo st m r r n (with_note m.0 i st.first r)))
