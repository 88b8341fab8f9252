-- The pieces that the bodies are made of, in order.
use Rattle.std.proofs.Common.{List, [], ◌∷◌, codes, decimal}
use Rattle.group_history.specs.declared.mutations.MutationFields.{MutationFields as Mutation}
use Rattle.group_history.specs.Map.{Bytes}
use Rattle.group_history.specs.Cookies.{Cookie}
use Rattle.push_body.specs.declared.identities.Identity.{Identity}
use Rattle.push_body.specs.Bodies.{quoted, mutations_text}

abbrev pub mutation_pieces : Mutation → List Bytes
mutation_pieces m =
    codes "{\"args\":" ∷ m.args ∷ codes ",\"clientID\":" ∷ quoted m.client ∷ codes ",\"id\":" ∷ decimal m.id
    ∷ codes ",\"name\":" ∷ quoted m.name ∷ codes ",\"timestamp\":" ∷ decimal m.timestamp ∷ codes "}" ∷ []

abbrev pub push_pieces : Identity → List Mutation → List Bytes
push_pieces i ms =
    codes "{\"clientGroupID\":" ∷ quoted i.group ∷ codes ",\"mutations\":[" ∷ mutations_text ms
    ∷ codes "],\"profileID\":" ∷ quoted i.profile
    ∷ codes ",\"pushVersion\":1,\"schemaVersion\":" ∷ quoted i.schema ∷ codes "}" ∷ []

abbrev pub head_pieces : Identity → List Bytes
head_pieces i = codes "{\"clientGroupID\":" ∷ quoted i.group ∷ codes ",\"mutations\":[" ∷ []

abbrev pub tail_pieces : Identity → List Bytes
tail_pieces i =
    codes "],\"profileID\":" ∷ quoted i.profile ∷ codes ",\"pushVersion\":1,\"schemaVersion\":"
    ∷ quoted i.schema ∷ codes "}" ∷ []

abbrev pub pull_pieces : Identity → Cookie → List Bytes
pull_pieces i c =
    codes "{\"clientGroupID\":" ∷ quoted i.group ∷ codes ",\"cookie\":" ∷ c.text ∷ codes ",\"profileID\":"
    ∷ quoted i.profile
    ∷ codes ",\"pullVersion\":1,\"schemaVersion\":" ∷ quoted i.schema ∷ codes "}" ∷ []
