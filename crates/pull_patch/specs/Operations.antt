-- The operations of a patch.
-- Source: Replicache, Pull Endpoint Reference, "patch"; the operation `update` is left out.
use Rattle.std.specs.Prelude.{List, Option, Some, None, option_map, option_and_then, if◌then◌else◌, codes, bytes_eq}
use Rattle.serde_json.specs.Data.{Data, Items}
use Rattle.serde_json.specs.Find.{get}
use Rattle.group_history.specs.declared.responses.Patch.{Patch}
use Rattle.group_history.specs.declared.responses.Patch.TheVariants as patch
use Rattle.group_history.specs.Map.{Bytes}
use Rattle.group_history.specs.Cookies.{whole_text}
use Rattle.pull_patch.specs.Fields.{text_at, items_list, each}

-- an operation as it stands in the tree: what is put may still hold any number
pub data Edit : Type 0 where
  put : Bytes → Data → Edit
  del : Bytes → Edit
  clear : Edit

-- a `put` has a text `key` and any `value`
unfoldable pub put_of : Data → Option Edit
put_of d = option_and_then (λ key. option_map (put key) (get (codes "value") d)) (text_at (codes "key") d)

-- a `del` has a text `key`
unfoldable pub del_of : Data → Option Edit
del_of d = option_map del (text_at (codes "key") d)

-- the operation of this name; none where the name is another
abbrev pub edit_named : Bytes → Data → Option Edit
edit_named name d =
    if bytes_eq name (codes "put") then put_of d
    else (if bytes_eq name (codes "del") then del_of d
    else (if bytes_eq name (codes "clear") then Some clear else None))

-- an operation is an object that is named by its text `op`
unfoldable pub edit_of : Data → Option Edit
edit_of d = option_and_then (λ name. edit_named name d) (text_at (codes "op") d)

-- a patch is an array of operations
unfoldable pub edits_of : Items → Option (List Edit)
edits_of ds = each edit_of (items_list ds)

-- what an operation says; none where a number in what is put isn't whole
unfoldable pub operation_of : Edit → Option Patch
operation_of (put key d) = option_map (patch.Put key) (whole_text d)
operation_of (del key) = Some (patch.Del key)
operation_of clear = Some patch.Clear
