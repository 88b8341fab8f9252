-- What a group of one thread keeps.
use Rattle.std.specs.Prelude.{◌≡◌, List}
use Rattle.group_history.specs.declared.mutations.MutationFields.{MutationFields as Mutation}
use Rattle.group_history.specs.Map.{Entries}
use Rattle.group_history.specs.Meaning.{Meanings}
use Rattle.group_history.specs.State.{Ids, replayed}
use Rattle.group_history.specs.Ids.{IdsFollow}

-- its view is the replay, and its ids follow
pub record IsSound (means : Meanings) (view pulled : Entries) (confirmed : Ids) (pending : List Mutation) : Type 0 where
  pub replay : view ≡ replayed means pulled pending
  pub ids : IdsFollow confirmed pending
