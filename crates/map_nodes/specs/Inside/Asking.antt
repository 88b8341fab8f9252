-- A change that waits to be asked on the way down.
use Rattle.std.specs.Prelude.{Option, Result, Some, None}
use Rattle.group_history.specs.declared.mutators.Stop.{Stop}
use Rattle.group_history.specs.declared.mutators.Update.{Update}
use Rattle.group_history.specs.Map.{Bytes}
use Rattle.map_nodes.specs.Changes.{CanMake, Makes}
use Rattle.map_nodes.specs.declared.changes.ValueChange.{ValueChange}

-- there is one, and it makes this of the value at a key
abbrev pub Asked : {F : Type 0} → (F → Option Bytes → Result Update Stop → Type 0) → Option (ValueChange F)
    → Option Bytes → Result Update Stop → Type 0
Asked post (Some change) there made = Makes post change there made
Asked post None there made = ⊥

-- there is one, and its closure, if it has one, may be called
abbrev pub CanBeAsked : {F : Type 0} → (F → Type 0) → Option (ValueChange F) → Type 0
CanBeAsked callable (Some change) = CanMake callable change
CanBeAsked callable None = ⊥
