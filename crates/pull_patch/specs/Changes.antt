-- The confirmed ids of clients.
-- Source: Replicache, Pull Endpoint Reference, "lastMutationIDChanges"; the limit of 2^52 is this project's own rule.
use Rattle.std.specs.Prelude.{◌^◌, List, Bool, true, false, nat_le, Option, Some, None, option_map, option_and_then}
use Rattle.std.specs.Prelude.{if◌then◌else◌}
use Rattle.serde_json.specs.Data.{Num, unsigned, negative, float, Data, Members}
use Rattle.serde_json.specs.Find.{as_number, as_u64}
use Rattle.group_history.specs.declared.responses.Confirmed.{Confirmed}
use Rattle.group_history.specs.Map.{Bytes}
use Rattle.pull_patch.specs.Fields.{members_list, each}

-- a whole number is an id from 0 to 2^52; a number that isn't whole is of the right shape here, and refused later
abbrev pub id_in_range : Num → Bool
id_in_range (unsigned n) = nat_le n (2 ^ 52)
id_in_range (negative z) = false
id_in_range (float x) = true

-- none where it is out of range
abbrev pub id_of_number : Num → Option Num
id_of_number n = if id_in_range n then Some n else None

-- an id is a number in range
unfoldable pub id_of : Data → Option Num
id_of d = option_and_then id_of_number (as_number d)

-- a member as it stands in the tree: a client's name, any text, and a number
pub record Entry : Type 0 where
  pub client : Bytes
  pub number : Num

-- a member of this name
abbrev pub entry : Bytes → Num → Entry
entry name n = record { client = name; number = n }

-- none where the value is no id
unfoldable pub entry_of : Bytes × Data → Option Entry
entry_of m = option_map (entry m.0) (id_of m.1)

-- all members are such
unfoldable pub entries_of : Members → Option (List Entry)
entries_of ms = each entry_of (members_list ms)

-- what a member says; none where its number isn't whole
unfoldable pub confirmed_said : Entry → Option Confirmed
confirmed_said e = option_map (λ id. record { client = e.client; id = id }) (as_u64 e.number)
