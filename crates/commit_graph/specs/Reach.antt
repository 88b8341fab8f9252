-- What a stamp reaches, and what a new head leaves behind.
use Rattle.std.specs.Prelude.{ℕ, ◌≡◌, ◌<◌, List, [], ◌∷◌, map, slice_get, Some}
use Rattle.std.specs.List.{Contains}
use Rattle.group_history.specs.declared.nodes.Node.{Node}
use Rattle.group_history.specs.declared.refs.Ref.{Ref}
use Rattle.group_history.specs.Refs.{stamp_of}
use Rattle.group_history.specs.Naming.{children}
use Rattle.group_history.specs.Spelling.{Contents}

-- a stamp reaches itself, and what its content's children reach
pub data Reaches (ns : Contents) : ℕ → ℕ → Type 0 where
  itself : (a : ℕ) → Reaches ns a a
  through : (a c b : ℕ) (n : Node ℕ) → slice_get ns a ≡ Some n → Contains (children n) c → Reaches ns c b
      → Reaches ns a b

-- the old head reaches it, and the new one does not
abbrev pub IsDropped : Contents → ℕ → ℕ → ℕ → Type 0
IsDropped ns old new x = Reaches ns old x × (Reaches ns new x → ⊥)

-- each number is above all that follow
abbrev pub Falls : List ℕ → Type 0
Falls [] = Unit {0}
Falls (x ∷ xs) = ((y : ℕ) → Contains xs y → y < x) × Falls xs

abbrev pub stamps_of : List Ref → List ℕ
stamps_of rs = map stamp_of rs
