-- Why a view and a run stop, and how a stop is told to a caller. This project's own rule.
use Rattle.std.specs.Prelude.{◌≡◌, ◌⊎◌}
use Rattle.group_history.specs.declared.mutators.Stop.{Stop}
use Rattle.group_history.specs.declared.mutators.Stop.TheVariants as stop
use Rattle.group_history.specs.declared.refusals.Refusal.{Refusal}
use Rattle.group_history.specs.declared.refusals.Refusal.TheVariants as refusal

-- the refusal of the same name
abbrev pub told_as : Stop → Refusal
told_as stop.NoMemory = refusal.NoMemory
told_as stop.Busy = refusal.Busy
told_as stop.Gone = refusal.Gone

-- a run of a mutator stops for want of memory, or where its view did, for one of these reasons
abbrev pub MayStop : (Stop → Type 0) → Stop → Type 0
MayStop stops e = (e ≡ stop.NoMemory) ⊎ stops e
