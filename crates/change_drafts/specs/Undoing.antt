-- What keys had before they were written, and the map with all of it put back.
use Rattle.std.specs.Prelude.{Bool, true, false, List, [], ◌∷◌, Option, Some, None}
use Rattle.std.specs.FinMap as finite
use Rattle.group_history.specs.declared.mutations.MutationFields.{MutationFields as Mutation}
use Rattle.group_history.specs.Map.{Bytes, Entries}

-- the map with this at the key; none: without the key
abbrev pub with_there : Entries → Bytes → Option Bytes → Entries
with_there m key None = finite.remove m key
with_there m key (Some value) = finite.insert m key value

-- the map with all that was noted put back, the newest note, which is the last, first
abbrev pub undone : List (Bytes × Option Bytes) → Entries → Entries
undone [] m = m
undone (note ∷ newer) m = with_there (undone newer m) note.0 note.1

-- a mutation, if it was done
abbrev pub if_done : Bool → Mutation → List Mutation
if_done true x = x ∷ []
if_done false x = []
