-- What steps on slots leave of a view.
use Rattle.std.specs.Prelude.{◌≡◌, ◌≤◌, ℕ, List, ◌++◌}
use Rattle.reader_claims.specs.declared.view.View.{View}
use Rattle.reader_claims.specs.declared.words.SlotState.TheVariants.{Taken}
use Rattle.reader_claims.specs.Words.{slot_word}
use Rattle.reader_claims.specs.Lists.{In}
use Rattle.reader_claims.specs.Notes.{Note}
use Rattle.reader_claims.specs.Views.{with_note}
use Rattle.reader_claims.specs.Passes.{OnlyTakes}

-- u is v after some steps on slots, in which nothing was settled, withdrawn or retired
abbrev pub Later : View → View → Type 0
Later v u = (u ≡ record v { taken = u.taken; notes = u.notes; deeds = u.deeds; floor = u.floor })
    × ((notes : List Note) × (u.notes ≡ notes ++ v.notes)) × (v.floor ≤ u.floor)
    × ((slots : List ℕ) × OnlyTakes v u slots)

-- The last of these steps found the word w where the slot i was sought as free, and no slot was taken. Where it is the
-- seat's own number, the slot is its own
abbrev pub HasFoundWord : View → ℕ → ℕ → View → Type 0
HasFoundWord v i w u = (m : View) × Later v m × (m.taken ≡ v.taken) × (u ≡ with_note m i 0 w)
    × (w ≡ slot_word (Taken m.number) → In m.taken i)
