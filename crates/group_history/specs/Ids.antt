-- Each client's pending ids follow its confirmed id.
use Rattle.std.specs.Prelude.{◌≡◌, ℕ, ◌+◌, ◌≤◌, ◌^◌, List, [], ◌∷◌}
use Rattle.group_history.specs.declared.mutations.MutationFields.{MutationFields as Mutation}
use Rattle.group_history.specs.Map.{Bytes}
use Rattle.group_history.specs.State.{Ids, confirmed_id, ids_of}

-- the numbers are those that follow n, in order
abbrev pub AreConsecutive : ℕ → List ℕ → Type 0
AreConsecutive n [] = Unit {0}
AreConsecutive n (x ∷ xs) = (x ≡ n + 1) × AreConsecutive (n + 1) xs

-- Each client's pending ids follow its confirmed id, and no confirmed id is above the limit.
pub record IdsFollow (confirmed : Ids) (pending : List Mutation) : Type 0 where
  pub pending_ids : (client : Bytes) → AreConsecutive (confirmed_id confirmed client) (ids_of client pending)
  pub bounded : (client : Bytes) → confirmed_id confirmed client ≤ 2 ^ 52
