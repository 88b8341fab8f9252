-- The members of an array and of an object, as lists.
use Rattle.std.proofs.Common.{◌≡◌, ℕ, List, [], ◌∷◌, map, Option, Some, None, option_map, Result, Ok, Err, refl, ap}
use Rattle.std.proofs.Common.{◌∙◌}
use Rattle.std.specs.Prelude.{ok_or}
use Rattle.serde_json.specs.Data.{Num, Data, Members}
use Rattle.serde_json.specs.View.{view, items_view}
use Rattle.serde_json.specs.declared.value.Value.{Value}
use Rattle.group_history.specs.declared.refusals.Refusal.{Refusal}
use Rattle.group_history.specs.declared.refusals.Refusal.TheVariants.{BadShape}
use Rattle.group_history.specs.declared.responses.Confirmed.{Confirmed}
use Rattle.group_history.specs.declared.responses.Patch.{Patch}
use Rattle.pull_patch.specs.Fields.{each, items_list, members_list}
use Rattle.pull_patch.specs.Operations.{Edit, edit_of, edits_of, operation_of}
use Rattle.pull_patch.specs.Changes.{Entry, entry, id_of, entry_of, entries_of, confirmed_said}
use Rattle.pull_patch.specs.Inside.Parts.{patch_part, changes_part}

pub items_list-view : (vs : List Value) → items_list (items_view vs) ≡ map view vs
items_list-view [] = refl
items_list-view (v ∷ vs) = ap (λ ds. view v ∷ ds) (items_list-view vs)

abbrev patch_or_shape : Option (List Edit) → Result (Option (List Patch)) Refusal
patch_or_shape o = ok_or (option_map (each operation_of) o) BadShape

pub patch_part-none : (vs : List Value) → each edit_of (map view vs) ≡ None → patch_part (items_view vs) ≡ Err BadShape
unfolding patch_part edits_of
patch_part-none vs none = ap (λ ds. patch_or_shape (each edit_of ds)) (items_list-view vs) ∙ ap patch_or_shape none

pub patch_part-ok : (vs : List Value) (es : List Edit) (o : Option (List Patch)) → each edit_of (map view vs) ≡ Some es
    → each operation_of es ≡ o → patch_part (items_view vs) ≡ Ok o
unfolding patch_part edits_of
patch_part-ok vs es o is ops = ap (λ ds. patch_or_shape (each edit_of ds))
    (items_list-view vs) ∙ ap patch_or_shape is ∙ ap Ok ops

abbrev changes_or_shape : Option (List Entry) → Result (Option (List Confirmed)) Refusal
changes_or_shape o = ok_or (option_map (each confirmed_said) o) BadShape

pub changes_part-none : (ms : Members) → each entry_of (members_list ms) ≡ None → changes_part ms ≡ Err BadShape
unfolding changes_part entries_of
changes_part-none ms none = ap changes_or_shape none

pub changes_part-ok : (ms : Members) (es : List Entry) (o : Option (List Confirmed))
    → each entry_of (members_list ms) ≡ Some es → each confirmed_said es ≡ o → changes_part ms ≡ Ok o
unfolding changes_part entries_of
changes_part-ok ms es o is ids = ap changes_or_shape is ∙ ap Ok ids

pub entry_of-some : (name : List ℕ) (d : Data) (n : Num) → id_of d ≡ Some n → entry_of (name, d) ≡ Some (entry name n)
unfolding entry_of
entry_of-some name d n is = ap (option_map (entry name)) is

pub entry_of-none : (name : List ℕ) (d : Data) → id_of d ≡ None → entry_of (name, d) ≡ None
unfolding entry_of
entry_of-none name d is = ap (option_map (entry name)) is
