-- What is kept of a chain's mutations where more ids are confirmed.
use Rattle.std.specs.Prelude.{◌≡◌, List, ◌++◌, Option, IfSome}
use Rattle.group_history.specs.declared.mutations.MutationFields.{MutationFields as Mutation}
use Rattle.group_history.specs.declared.responses.Confirmed.{Confirmed}
use Rattle.group_history.specs.Pulling.{left_pending}
use Rattle.group_history.specs.State.{Ids, confirmed_id}
use Rattle.commit_graph.specs.declared.left.LeftPending.{LeftPending}

-- what was asked for last is what the ids confirm
abbrev pub IsAsked : Ids → Option Confirmed → Type 0
IsAsked ids asked = IfSome asked (λ c. c.id ≡ confirmed_id ids c.client)

-- of mutations one step further what the ids leave pending is kept
pub record Keeps (ids : Ids) (olds news : LeftPending) (xs : List Mutation) : Type 0 where
  pub asked : IsAsked ids news.asked
  pub kept : news.mutations.items ≡ olds.mutations.items ++ left_pending ids xs
