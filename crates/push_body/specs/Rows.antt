-- The texts of what a client answers, as the edges print it: a row of a scan and a pending mutation, each a JSON array
-- (RFC 8259), and arrays of them.
use Rattle.std.specs.Prelude.{List, [], ◌∷◌, codes, decimal}
use Rattle.std.specs.List.{concat, join_with_byte}
use Rattle.group_history.specs.declared.mutations.MutationFields.{MutationFields as Mutation}
use Rattle.group_history.specs.Map.{Bytes}
use Rattle.push_body.specs.Bodies.{quoted}

-- a row of a scan, as a JSON array of its key and value; the value is compact JSON already
unfoldable pub row_text : Bytes × Bytes → Bytes
row_text row = concat (codes "[" ∷ quoted row.0 ∷ codes "," ∷ row.1 ∷ codes "]" ∷ [])

-- a pending mutation, as a JSON array of client ID, id and name
unfoldable pub pending_row : Mutation → Bytes
pending_row m = concat (codes "[" ∷ quoted m.client ∷ codes "," ∷ decimal m.id ∷ codes "," ∷ quoted m.name
    ∷ codes "]" ∷ [])

-- a JSON array of texts that are JSON, with commas (44) between them
abbrev pub array_text : List Bytes → Bytes
array_text texts = concat (codes "[" ∷ join_with_byte 44 texts ∷ codes "]" ∷ [])
