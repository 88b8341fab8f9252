-- What a JSON reader finds in the bodies: objects with just these fields.
-- Source: Replicache, Push Endpoint Reference and Pull Endpoint Reference, version 1.
use Rattle.std.specs.Prelude.{◌≡◌, ◌<◌, ◌^◌, List, [], ◌∷◌, All, codes, Option, Some, option_map, option_and_then}
use Rattle.std.specs.Prelude.{IsSomeAnd, Ok}
use Rattle.std.specs.Str.{IsUtf8}
use Rattle.serde_json.specs.Data.{Data, unsigned, number, string, array, object, Items, no_items, item, Members}
use Rattle.serde_json.specs.Data.{no_members, member}
use Rattle.serde_json.specs.Read.{read}
use Rattle.group_history.specs.declared.mutations.MutationFields.{MutationFields as Mutation}
use Rattle.group_history.specs.Map.{Bytes}
use Rattle.group_history.specs.Json.{reading, json_text}
use Rattle.group_history.specs.Cookies.{Cookie, cookie_at}
use Rattle.push_body.specs.declared.identities.Identity.{Identity}
use Rattle.push_body.specs.Bodies.{push_text, pull_text}

-- members, each a name and a value
abbrev pub members_of : List (Bytes × Data) → Members
members_of [] = no_members
members_of (p ∷ ps) = member p.0 p.1 (members_of ps)

-- a mutation whose arguments are this value
abbrev pub mutation_value : Mutation → Data → Data
mutation_value m args =
    object (members_of ((codes "args", args) ∷ (codes "clientID", string m.client)
    ∷ (codes "id", number (unsigned m.id)) ∷ (codes "name", string m.name)
    ∷ (codes "timestamp", number (unsigned m.timestamp)) ∷ []))

-- mutations in order, each with the value that its arguments are
abbrev pub mutation_values : List Mutation → Option Items
mutation_values [] = Some no_items
mutation_values (m ∷ ms) = option_and_then
    (λ args. option_map (item (mutation_value m args)) (mutation_values ms)) (read m.args)

-- a request: what it bears under this name, and its format's version under that one
abbrev pub request_value : Identity → Bytes → Data → Bytes → Data
request_value i name d version =
    object (members_of ((codes "clientGroupID", string i.group) ∷ (name, d) ∷ (codes "profileID", string i.profile)
    ∷ (version, number (unsigned 1))
    ∷ (codes "schemaVersion", string i.schema) ∷ []))

-- what a push of these mutations says
abbrev pub push_value : Identity → List Mutation → Option Data
push_value i ms = option_map (λ sent. request_value i (codes "mutations") (array sent) (codes "pushVersion"))
    (mutation_values ms)

-- what a pull from this cookie on says
abbrev pub pull_value : Identity → Cookie → Option Data
pull_value i c = option_map (λ cookie. request_value i (codes "cookie") cookie (codes "pullVersion")) (read c.text)

-- an identity is three texts
pub record IsIdentity (i : Identity) : Type 0 where
  pub group : IsUtf8 i.group
  pub profile : IsUtf8 i.profile
  pub schema : IsUtf8 i.schema

-- a mutation has texts, numbers of 64 bits, and the compact text of its arguments
pub record IsMutation (m : Mutation) : Type 0 where
  pub client : IsUtf8 m.client
  pub id : m.id < 2 ^ 64
  pub name : IsUtf8 m.name
  pub args : json_text m.args ≡ Ok m.args
  pub timestamp : m.timestamp < 2 ^ 64

-- The bytes of a push are read as what it says.
abbrev pub PushReadsBack : Type 0
PushReadsBack = (i : Identity) (ms : List Mutation) → IsIdentity i → All IsMutation ms
    → IsSomeAnd (push_value i ms) (λ d. reading (push_text i ms) ≡ Ok d)

-- The bytes of a pull are read as what it says.
abbrev pub PullReadsBack : Type 0
PullReadsBack = (i : Identity) (c : Cookie) → IsIdentity i → cookie_at c.text ≡ Some c
    → IsSomeAnd (pull_value i c) (λ d. reading (pull_text i c) ≡ Ok d)
