-- The keys of a chunk of a draft, as clauses see them.
use Rattle.std.specs.Prelude.{ℕ, Bool, List}
use Rattle.group_history.specs.Map.{Bytes}

-- the keys; whether the list is the chunk's own; and how many more can be put with no memory taken: none where it is
-- shared
pub record KeysSeen : Type 0 where
  pub texts : List Bytes
  pub own : Bool
  pub room : ℕ
