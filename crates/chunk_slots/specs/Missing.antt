-- What it is told as that a node was not shown.
use Rattle.group_history.specs.declared.mutators.Stop.{Stop}
use Rattle.group_history.specs.declared.mutators.Stop.TheVariants as stop
use Rattle.group_history.specs.declared.refusals.Refusal.{Refusal}
use Rattle.group_history.specs.declared.refusals.Refusal.TheVariants as refusal
use Rattle.chunk_slots.specs.declared.missed.StoreStop.{StoreStop}
use Rattle.chunk_slots.specs.declared.missed.StoreStop.TheVariants as missed

-- the refusal of the same name
abbrev pub refusal_of : StoreStop → Refusal
refusal_of missed.Busy = refusal.Busy
refusal_of missed.Gone = refusal.Gone

-- a view stops for the same reason
abbrev pub stop_of : StoreStop → Stop
stop_of missed.Busy = stop.Busy
stop_of missed.Gone = stop.Gone
