-- Words for the private parts of the reader: a field of the right shape, or none in it where a number isn't whole.
use Rattle.std.specs.Prelude.{ℕ, List, Option, Some, option_map, ok_or, Result, codes}
use Rattle.serde_json.specs.Data.{Data, Items, Members, depth}
use Rattle.serde_json.specs.Find.{get}
use Rattle.serde_json.specs.View.{view}
use Rattle.group_history.specs.declared.refusals.Refusal.{Refusal}
use Rattle.group_history.specs.declared.refusals.Refusal.TheVariants.{BadShape, NotWhole}
use Rattle.group_history.specs.declared.responses.Confirmed.{Confirmed}
use Rattle.group_history.specs.declared.responses.Patch.{Patch}
use Rattle.group_history.specs.declared.responses.Response.{Response}
use Rattle.group_history.specs.declared.responses.Response.TheVariants as response
use Rattle.group_history.specs.Cookies.{Cookie, cookie_of}
use Rattle.pull_patch.specs.declared.operations.Edit as code
use Rattle.pull_patch.specs.declared.operations.Edit.TheVariants as borrowed
use Rattle.pull_patch.specs.Fields.{object_at, array_at, each, ◌>>-◌}
use Rattle.pull_patch.specs.Operations.{Edit, put, del, clear, edits_of, operation_of}
use Rattle.pull_patch.specs.Changes.{entries_of, confirmed_said}
use Rattle.pull_patch.specs.Grammar.{cookie_said}

-- an operation that borrows from the tree, as the grammar has it
abbrev pub edit_view : code.Edit → Edit
edit_view (borrowed.Put key value) = put key.now (view value.now)
edit_view (borrowed.Del key) = del key.now
edit_view borrowed.Clear = clear

-- how deep what is put nests
abbrev pub edit_depth : Edit → ℕ
edit_depth (put key d) = depth d
edit_depth (del key) = 0
edit_depth clear = 0

-- what the members of an object say of ids, and what the items of an array say of the map
unfoldable pub changes_part : Members → Result (Option (List Confirmed)) Refusal
changes_part ms = ok_or (option_map (each confirmed_said) (entries_of ms)) BadShape

unfoldable pub patch_part : Items → Result (Option (List Patch)) Refusal
patch_part ds = ok_or (option_map (each operation_of) (edits_of ds)) BadShape

-- what each of the three fields says
unfoldable pub cookie_field : Data → Result (Option Cookie) Refusal
cookie_field d = ok_or (option_map cookie_of (get (codes "cookie") d >>- cookie_said)) BadShape

unfoldable pub changes_field : Data → Result (Option (List Confirmed)) Refusal
changes_field d = ok_or (option_map (each confirmed_said)
    (object_at (codes "lastMutationIDChanges") d >>- entries_of)) BadShape

unfoldable pub patch_field : Data → Result (Option (List Patch)) Refusal
patch_field d = ok_or (option_map (each operation_of) (array_at (codes "patch") d >>- edits_of)) BadShape

-- the response of the three, where no number isn't whole
abbrev pub united : Option Cookie → Option (List Confirmed) → Option (List Patch) → Result Response Refusal
united c cs ops = ok_or (option_map response.Ok
    (c >>- λ c. cs >>- λ cs. ops >>- λ ops. Some (record { cookie = c; changes = cs; patch = ops }))) NotWhole
