-- What becomes of a draft's numbers in the book.
use Rattle.std.specs.Prelude.{◌≡◌, ℕ, suc, ◌+◌, ◌-◌, nat_lt, cond, List, [], ◌∷◌, map}
use Rattle.group_history.specs.declared.nodes.Node.{Node}
use Rattle.group_history.specs.declared.refs.Ref.{Ref}
use Rattle.group_history.specs.Naming.{renamed}
use Rattle.group_history.specs.Refs.{stamp_of}
use Rattle.group_history.specs.Spelling.{Contents}

-- The stamp that a number becomes, where a draft's nodes, which are numbered from `from` on, drew the stamps from
-- `first` on. A lower number is a stamp that was drawn before, and stays
abbrev pub stamped : ℕ → ℕ → ℕ → ℕ
stamped from first k = cond (nat_lt k from) k (first + (k - from))

-- a child's stamp
abbrev pub restamped : ℕ → ℕ → Ref → ℕ
restamped from first at = stamped from first (stamp_of at)

-- the contents that the draft becomes
abbrev pub drawn_as : ℕ → ℕ → List (Node Ref) → Contents
drawn_as from first nodes = map (renamed (restamped from first)) nodes

-- the references bear the stamps from `first` on
abbrev pub AreFrom : ℕ → List Ref → Type 0
AreFrom first [] = Unit {0}
AreFrom first (at ∷ ats) = (stamp_of at ≡ first) × AreFrom (suc first) ats
