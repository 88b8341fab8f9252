-- What a seat notes of its exchanges of slots.
use Rattle.std.specs.Prelude.{◌≡◌, ℕ, List, ◌++◌, cond, ◌==◌, refl}
use Rattle.std.specs.Coded.{Coded, code_by, coded×, coded_ℕ, coded_list}

-- An exchange was lost: the slot was sought at one word, and another one was there. Or the slot, which was retired at
-- r, was given
pub data Note : Type 0 where
  lost : (slot sought there : ℕ) → Note
  gave : (slot r : ℕ) → Note

-- the notes of the run stand in the list, one directly behind the other
abbrev pub StandTogether : List Note → List Note → Type 0
StandTogether run notes = (front back : List Note) × (notes ≡ front ++ (run ++ back))

-- ---- how the logic stores a note

abbrev note_in_numbers : Note → ℕ × (ℕ × (ℕ × ℕ))
note_in_numbers (lost slot sought there) = (0, (slot, (sought, there)))
note_in_numbers (gave slot r) = (1, (slot, (r, 0)))

abbrev note_from_numbers : ℕ × (ℕ × (ℕ × ℕ)) → Note
note_from_numbers n = cond (n.0 == 0) (lost n.1.0 n.1.1.0 n.1.1.1) (gave n.1.0 n.1.1.0)

pub note_from_numbers-note_in_numbers : (note : Note) → note_from_numbers (note_in_numbers note) ≡ note
note_from_numbers-note_in_numbers (lost slot sought there) = refl
note_from_numbers-note_in_numbers (gave slot r) = refl

abbrev pub notes_code : Coded (List Note)
notes_code = coded_list (code_by (ℕ × (ℕ × (ℕ × ℕ)))
    (coded× coded_ℕ (coded× coded_ℕ
    (coded× coded_ℕ coded_ℕ))) note_in_numbers note_from_numbers note_from_numbers-note_in_numbers)
