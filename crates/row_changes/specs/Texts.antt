-- The texts of changes: each a compact JSON object (RFC 8259), its fields in the order of their names.
-- Source: Replicache, "ExperimentalDiffOperation": "add", "del" and "change", with the key and its values.
use Rattle.std.specs.Prelude.{[], ◌∷◌, ◌++◌, codes, Option, Some, None}
use Rattle.std.specs.List.{concat}
use Rattle.group_history.specs.Map.{Bytes}
use Rattle.push_body.specs.Bodies.{quoted}
use Rattle.row_changes.specs.declared.changes.RowChange.{RowChange}

-- what was done to a key that had the old value and has the new one
abbrev pub operation : Option Bytes → Option Bytes → Bytes
operation None new = codes "add"
operation (Some old) None = codes "del"
operation (Some old) (Some new) = codes "change"

-- a field with a value, which is compact JSON already; nothing where there is none
abbrev pub value_field : Bytes → Option Bytes → Bytes
value_field head None = []
value_field head (Some value) = head ++ value

-- a change, as a JSON object of its key, the new value, the old value and what was done
unfoldable pub change_text : RowChange → Bytes
change_text c = concat (codes "{\"key\":" ∷ quoted c.key ∷ value_field (codes ",\"newValue\":") c.new
    ∷ value_field (codes ",\"oldValue\":") c.old ∷ codes ",\"op\":\"" ∷ operation c.old c.new ∷ codes "\"}" ∷ [])
