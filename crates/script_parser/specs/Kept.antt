-- What is kept of what was said where no lines are kept.
use Rattle.std.specs.Prelude.{ℕ, ◌≤◌, List, [], ◌∷◌, length, replicate, IfSome, vec_len}
use Rattle.group_history.specs.Refs.{max_slots, max_seats}
use Rattle.script_parser.specs.declared.script.Header.{Header}
use Rattle.script_parser.specs.Context.{Context, Lines}

-- a new phase, in which none of so many clients has a line
abbrev pub new_phase : ℕ → List Lines
new_phase clients = replicate clients []

-- of phases only whether there is one, and then one in which no client has a line
abbrev pub bare : ℕ → List (List Lines) → List (List Lines)
bare clients [] = []
bare clients (p ∷ ps) = new_phase clients ∷ []

-- what was said, without the lines of the phases
abbrev pub without_lines : Context → Context
without_lines c = record c { phases = bare (length c.clients) c.phases }

-- a group can have a seat for each client of the header, and as many slots as it asks for
abbrev pub IsInRange : Header → Type 0
IsInRange header = (vec_len header.clients ≤ max_seats) × IfSome header.slots (λ n. (16 ≤ n) × (n ≤ max_slots))
