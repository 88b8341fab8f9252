-- What a mutator means at a map.
-- Source: Replicache, How It Works, "Mutations"; that a mutator may refuse with a code is this project's own rule.
use Rattle.std.specs.Prelude.{ℕ, Option, Some, None}
use Rattle.serde_json.specs.Data.{Data}
use Rattle.group_history.specs.declared.mutations.Reason.{Reason}
use Rattle.group_history.specs.declared.mutations.MutationFields.{MutationFields as Mutation}
use Rattle.group_history.specs.Map.{Bytes, Entries}
use Rattle.group_history.specs.Json.{reading}
use Rattle.group_history.specs.Cookies.{value_read}

-- It is unknown, it refuses with a code, or it is done and leaves a map.
pub data Meaning : Type 0 where
  unknown : Meaning
  refuses : ℕ → Meaning
  done : Entries → Meaning

-- the meanings of an application's mutators: by name, arguments and reason, at a map
abbrev pub Meanings : Type 0
Meanings = Bytes → Bytes → Reason → Entries → Meaning

-- What follows from a thing, where it is there; else the mutator refuses with the code. Whoever writes a meaning down
-- writes it with this, for arguments that have to be there and for keys.
abbrev pub needs : {A : Type 0} → ℕ → Option A → (A → Meaning) → Meaning
needs code None follows = refuses code
needs code (Some a) follows = follows a

-- the value that a JSON text is, as arguments are and what lies at a key
abbrev pub value_of : Bytes → Option Data
value_of text = value_read (reading text)

-- what a mutation means at a map, for its own reason
abbrev pub meaning_of : Meanings → Mutation → Entries → Meaning
meaning_of means x m = means x.name x.args x.reason m

-- What a meaning leaves of the map at which it was asked: a refusing or unknown mutator leaves it.
abbrev pub left_by : Meaning → Entries → Entries
left_by unknown m = m
left_by (refuses code) m = m
left_by (done n) m = n
