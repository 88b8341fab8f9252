-- What a seat does to slots and to the epoch. That it gives one, makes a retired slot free again, is not among it.
use Rattle.std.specs.Prelude.{◌≡◌, ℕ, List, cond, ◌==◌, refl}
use Rattle.std.specs.Coded.{Coded, code_by, coded×, coded_ℕ, coded_list}

-- A free slot became its own; its own one became live, or free again; a live slot was retired at r; a slot was to be
-- retired, and was not live; the epoch was raised to e, or found there when it was to be raised
pub data Deed : Type 0 where
  took : (slot : ℕ) → Deed
  settled : (slot : ℕ) → Deed
  withdrew : (slot : ℕ) → Deed
  retired : (slot r : ℕ) → Deed
  missed : (slot : ℕ) → Deed
  raised : (e : ℕ) → Deed

-- ---- how the logic stores a deed

abbrev in_numbers : Deed → ℕ × (ℕ × ℕ)
in_numbers (took i) = (0, (i, 0))
in_numbers (settled i) = (1, (i, 0))
in_numbers (withdrew i) = (2, (i, 0))
in_numbers (retired i r) = (3, (i, r))
in_numbers (missed i) = (4, (i, 0))
in_numbers (raised e) = (5, (e, 0))

abbrev from_numbers : ℕ × (ℕ × ℕ) → Deed
from_numbers n = cond (n.0 == 0) (took n.1.0) (cond (n.0 == 1) (settled n.1.0) (cond (n.0 == 2) (withdrew n.1.0)
    (cond (n.0 == 3) (retired n.1.0 n.1.1) (cond (n.0 == 4) (missed n.1.0) (raised n.1.0)))))

pub from_numbers-in_numbers : (deed : Deed) → from_numbers (in_numbers deed) ≡ deed
from_numbers-in_numbers (took i) = refl
from_numbers-in_numbers (settled i) = refl
from_numbers-in_numbers (withdrew i) = refl
from_numbers-in_numbers (retired i r) = refl
from_numbers-in_numbers (missed i) = refl
from_numbers-in_numbers (raised e) = refl

abbrev pub deeds_code : Coded (List Deed)
deeds_code = coded_list (code_by (ℕ × (ℕ × ℕ)) (coded× coded_ℕ (coded× coded_ℕ coded_ℕ)) in_numbers from_numbers
    from_numbers-in_numbers)
