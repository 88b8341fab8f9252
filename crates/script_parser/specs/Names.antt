-- The names of tickets, or of watches: client by client, each name once, in the order in which the client's lines made
-- them.
use Rattle.std.specs.Prelude.{ℕ, zero, suc, List, [], ◌∷◌, ◌++◌, length, get_or, position, Option, is_some, unwrap_or}
use Rattle.std.specs.Prelude.{if◌then◌else◌}
use Rattle.group_history.specs.Map.{Bytes, same_text}

-- the value at a place of a list is changed
abbrev pub changed_at : {X : Type 0} → ℕ → (X → X) → List X → List X
changed_at i change [] = []
changed_at zero change (x ∷ xs) = change x ∷ xs
changed_at (suc i) change (x ∷ xs) = x ∷ changed_at i change xs

-- the place of a name among those of one client; none where it isn't there
unfoldable pub number_among : Bytes → List Bytes → Option ℕ
number_among name names = position (λ n. same_text n name) names

-- the names of one client with this one: it is added where it isn't there
unfoldable pub with_name : Bytes → List Bytes → List Bytes
with_name name names = if is_some (number_among name names) then names else names ++ name ∷ []

-- the names of the client at a place
abbrev pub names_of : ℕ → List (List Bytes) → List Bytes
names_of client made = get_or made client []

-- the number of a name: its place among those of its client, counted from 0; none where no line of the client made it
unfoldable pub name_number : ℕ → Bytes → List (List Bytes) → Option ℕ
name_number client name made = number_among name (names_of client made)

-- the names, once a line of the client made this one
unfoldable pub noted : ℕ → Bytes → List (List Bytes) → List (List Bytes)
noted client name made = changed_at client (with_name name) made

-- the number of the name that the line made: its old one, or the next
unfoldable pub number_made : ℕ → Bytes → List (List Bytes) → ℕ
number_made client name made = unwrap_or (name_number client name made) (length (names_of client made))
