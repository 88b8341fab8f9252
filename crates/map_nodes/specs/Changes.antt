-- What is put at a key.
use Rattle.std.specs.Prelude.{◌≡◌, Option, Result, Ok}
use Rattle.group_history.specs.declared.mutators.Stop.{Stop}
use Rattle.group_history.specs.declared.mutators.Update.{Update}
use Rattle.group_history.specs.declared.mutators.Update.TheVariants.{Put}
use Rattle.group_history.specs.Map.{Bytes}
use Rattle.map_nodes.specs.declared.changes.ValueChange.{ValueChange}
use Rattle.map_nodes.specs.declared.changes.ValueChange.TheVariants.{Ask, Value}

-- What a change makes of the value at a key: what its closure answers, which stands in this relation to its argument,
-- or always the same value.
abbrev pub Makes : {F : Type 0} → (F → Option Bytes → Result Update Stop → Type 0) → ValueChange F → Option Bytes
    → Result Update Stop → Type 0
Makes post (Ask ask) there made = post ask there made
Makes post (Value value) there made = made ≡ Ok (Put value)

-- its closure, if it has one, may be called
abbrev pub CanMake : {F : Type 0} → (F → Type 0) → ValueChange F → Type 0
CanMake callable (Ask ask) = callable ask
CanMake callable (Value value) = Unit {0}
