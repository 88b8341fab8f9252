-- Which writes bytes are, and what these make of a map.
-- Source: Replicache, Pull Endpoint Reference, "patch", of whose operations `put` and `del` alone are taken. Which
-- refusal comes first, that numbers are whole and how deep a list nests are this project's own rules.
use Rattle.std.specs.Prelude.{List, [], ◌∷◌, Option, Some, None, option_map, nat_le, if◌then◌else◌, ok_or, Result, Ok}
use Rattle.std.specs.Prelude.{Err}
use Rattle.std.specs.FinMap as finite
use Rattle.serde_json.specs.Data.{Data, Items, depth}
use Rattle.serde_json.specs.Find.{as_array}
use Rattle.group_history.specs.declared.refusals.Refusal.{Refusal}
use Rattle.group_history.specs.declared.refusals.Refusal.TheVariants.{NotJson, BadShape, NotWhole}
use Rattle.group_history.specs.Answers.{◌>>=◌}
use Rattle.group_history.specs.Map.{Bytes, Entries}
use Rattle.group_history.specs.Json.{reading}
use Rattle.group_history.specs.Cookies.{whole_text}
use Rattle.pull_patch.specs.declared.writes.Write.{Write}
use Rattle.pull_patch.specs.declared.writes.Write.TheVariants.{Put, Del}
use Rattle.pull_patch.specs.Fields.{items_list, each, ◌>>-◌}
use Rattle.pull_patch.specs.Operations.{Edit, put, del, clear, edit_of}

-- ---- which writes bytes are

-- an operation on one key; none where it is `clear`
abbrev pub of_one_key : Edit → Option Edit
of_one_key (put key d) = Some (put key d)
of_one_key (del key) = Some (del key)
of_one_key clear = None

-- a `put` or a `del`, as in a patch
unfoldable pub write_edit : Data → Option Edit
write_edit d = edit_of d >>- of_one_key

-- all are such
unfoldable pub write_edits : Items → Option (List Edit)
write_edits ds = each write_edit (items_list ds)

-- what an operation on one key writes; none where a number in what is put isn't whole
unfoldable pub write_of : Edit → Option Write
write_of (put key d) = option_map (Put key) (whole_text d)
write_of (del key) = Some (Del key)
write_of clear = None

-- what all write: the shape goes first, and whole numbers second
unfoldable pub list_writes : Items → Result (List Write) Refusal
list_writes ds = ok_or (write_edits ds) BadShape >>= λ es. ok_or (each write_of es) NotWhole

-- a value nested at most 126 deep, so that what is put nests at most 124; any other one is NotJson, as in a body
abbrev pub not_deeper : Data → Result Data Refusal
not_deeper d = if nat_le (depth d) 126 then Ok d else Err NotJson

-- the writes of a value, which is an array
unfoldable pub writes_of : Data → Result (List Write) Refusal
writes_of d = not_deeper d >>= λ d. ok_or (as_array d) BadShape >>= list_writes

-- the right answer to bytes: the writes that they are, or why they are none
unfoldable pub writes_in : Bytes → Result (List Write) Refusal
writes_in bytes = reading bytes >>= writes_of

-- ---- what writes make of a map

-- one of them
abbrev pub wrote : Write → Entries → Entries
wrote (Put key value) m = finite.insert m key value
wrote (Del key) m = finite.remove m key

-- all in order, the first one first
abbrev pub written : List Write → Entries → Entries
written [] m = m
written (w ∷ ws) m = written ws (wrote w m)
