-- Why a change is refused.
use Rattle.std.specs.Prelude.{◌≡◌, ◌⊎◌, Result, Ok, Err}
use Rattle.group_history.specs.declared.mutators.Stop.{Stop}
use Rattle.group_history.specs.declared.refusals.Refusal.{Refusal}
use Rattle.group_history.specs.declared.refusals.Refusal.TheVariants.{Stamps, StateNotFound}
use Rattle.group_history.specs.Answers.{Refuses}
use Rattle.group_history.specs.Stops.{told_as}

-- what shows the nodes stopped, for one of its reasons, and the refusal has that reason's name
abbrev pub StopsAs : (Stop → Type 0) → Refusal → Type 0
StopsAs stops e = (s : Stop) × stops s × (e ≡ told_as s)

-- At an open group it is the answer of a change: success, or StateNotFound, which closes the group.
abbrev pub IsOfChange : {Y : Type 0} → Result Y Refusal → Type 0
IsOfChange (Ok y) = Unit {0}
IsOfChange (Err e) = e ≡ StateNotFound

-- want of memory may come in place of any answer, want of stamps in place of that of a change, every other refusal only
-- where it is right
abbrev pub RefusesOrStamps : {Y : Type 0} → Refusal → Result Y Refusal → Type 0
RefusesOrStamps e right = ((e ≡ Stamps) × IsOfChange right) ⊎ Refuses e right

-- and where the nodes stopped, that may come in place of any answer
abbrev pub RefusesFor : {Y : Type 0} → (Stop → Type 0) → Refusal → Result Y Refusal → Type 0
RefusesFor stops e right = StopsAs stops e ⊎ RefusesOrStamps e right
