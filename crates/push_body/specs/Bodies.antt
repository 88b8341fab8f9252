-- The bodies of the two requests, byte for byte: compact JSON objects (RFC 8259), their fields in the order of their
-- names.
-- Source: Replicache, Push Endpoint Reference and Pull Endpoint Reference, version 1.
use Rattle.std.specs.Prelude.{List, [], ◌∷◌, map, codes, decimal}
use Rattle.std.specs.List.{concat, join_with_byte}
use Rattle.serde_json.specs.Data.{string}
use Rattle.serde_json.specs.Written.{compact_text}
use Rattle.group_history.specs.declared.mutations.MutationFields.{MutationFields as Mutation}
use Rattle.group_history.specs.Map.{Bytes}
use Rattle.group_history.specs.Cookies.{Cookie}
use Rattle.push_body.specs.declared.identities.Identity.{Identity}

-- a text as JSON, in quotes and escaped
abbrev pub quoted : Bytes → Bytes
quoted s = compact_text (string s)

-- a mutation; its arguments are compact JSON already
unfoldable pub mutation_text : Mutation → Bytes
mutation_text m =
    concat (codes "{\"args\":" ∷ m.args ∷ codes ",\"clientID\":" ∷ quoted m.client ∷ codes ",\"id\":" ∷ decimal m.id
    ∷ codes ",\"name\":" ∷ quoted m.name ∷ codes ",\"timestamp\":" ∷ decimal m.timestamp ∷ codes "}" ∷ [])

-- mutations in order, with commas (44) between them
abbrev pub mutations_text : List Mutation → Bytes
mutations_text ms = join_with_byte 44 (map mutation_text ms)

-- the body of a push of these mutations
unfoldable pub push_text : Identity → List Mutation → Bytes
push_text i ms =
    concat (codes "{\"clientGroupID\":" ∷ quoted i.group ∷ codes ",\"mutations\":[" ∷ mutations_text ms
    ∷ codes "],\"profileID\":" ∷ quoted i.profile
    ∷ codes ",\"pushVersion\":1,\"schemaVersion\":" ∷ quoted i.schema ∷ codes "}" ∷ [])

-- the body of a pull from this cookie on; the cookie is compact JSON already
unfoldable pub pull_text : Identity → Cookie → Bytes
pull_text i c =
    concat (codes "{\"clientGroupID\":" ∷ quoted i.group ∷ codes ",\"cookie\":" ∷ c.text ∷ codes ",\"profileID\":"
    ∷ quoted i.profile
    ∷ codes ",\"pullVersion\":1,\"schemaVersion\":" ∷ quoted i.schema ∷ codes "}" ∷ [])
