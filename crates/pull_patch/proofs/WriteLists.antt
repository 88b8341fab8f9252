-- The writes of a list, and what of them is told.
use Rattle.std.proofs.Common.{◌≡◌, List, map, Option, Some, None, option_map, option_and_then, Result, Err, refl, ap}
use Rattle.std.proofs.Common.{◌∙◌}
use Rattle.std.specs.Prelude.{ok_or}
use Rattle.serde_json.specs.View.{view, items_view}
use Rattle.serde_json.specs.declared.value.Value.{Value}
use Rattle.group_history.specs.declared.refusals.Refusal.{Refusal}
use Rattle.group_history.specs.declared.refusals.Refusal.TheVariants.{BadShape, NotWhole}
use Rattle.group_history.specs.declared.responses.Patch.{Patch}
use Rattle.group_history.specs.declared.responses.Patch.TheVariants as patch
use Rattle.group_history.specs.Answers.{◌>>=◌}
use Rattle.group_history.specs.Map.{Bytes}
use Rattle.group_history.specs.Cookies.{whole_text}
use Rattle.pull_patch.specs.declared.writes.Write.{Write}
use Rattle.pull_patch.specs.declared.writes.Write.TheVariants as write
use Rattle.pull_patch.specs.Fields.{each}
use Rattle.pull_patch.specs.Operations.{Edit, put, del, clear, operation_of}
use Rattle.pull_patch.specs.Writes.{write_edit, write_edits, write_of, list_writes}
use Rattle.pull_patch.proofs.Lists.{items_list-view}

-- ---- one of them

-- an operation of a patch, as a write
abbrev pub as_write : Patch → Option Write
as_write (patch.Put key value) = Some (write.Put key value)
as_write (patch.Del key) = Some (write.Del key)
as_write patch.Clear = None

put_as_write : (key : Bytes) (o : Option Bytes)
    → option_map (write.Put key) o ≡ option_and_then as_write (option_map (patch.Put key) o)
put_as_write key None = refl
put_as_write key (Some text) = refl

write_of-operation : (e : Edit) → write_of e ≡ option_and_then as_write (operation_of e)
unfolding write_of operation_of
write_of-operation (put key d) = put_as_write key (whole_text d)
write_of-operation (del key) = refl
write_of-operation clear = refl

-- what is written is told by what the operation says
pub write_of-said : (e : Edit) (o : Option Patch) → operation_of e ≡ o → write_of e ≡ option_and_then as_write o
write_of-said e o says = write_of-operation e ∙ ap (option_and_then as_write) says

-- ---- all of them

abbrev or_refusal : Option (List Edit) → Result (List Write) Refusal
or_refusal o = ok_or o BadShape >>= λ es. ok_or (each write_of es) NotWhole

pub list_writes-none : (vs : List Value) → each write_edit (map view vs) ≡ None
    → list_writes (items_view vs) ≡ Err BadShape
unfolding list_writes write_edits
list_writes-none vs none = ap (λ ds. or_refusal (each write_edit ds)) (items_list-view vs) ∙ ap or_refusal none

pub list_writes-some : (vs : List Value) (es : List Edit) (o : Option (List Write))
    → each write_edit (map view vs) ≡ Some es → each write_of es ≡ o → list_writes (items_view vs) ≡ ok_or o NotWhole
unfolding list_writes write_edits
list_writes-some vs es o is says = ap (λ ds. or_refusal (each write_edit ds))
    (items_list-view vs) ∙ ap or_refusal is ∙ ap (λ o. ok_or o NotWhole) says
