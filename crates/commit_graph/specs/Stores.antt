-- Why a store of nodes doesn't show one.
use Rattle.std.specs.Prelude.{◌≡◌, ◌⊎◌}
use Rattle.group_history.specs.declared.mutators.Stop.{Stop}
use Rattle.group_history.specs.declared.mutators.Stop.TheVariants.{Busy, Gone}

-- the slot has no node of that kind and stamp, or it is lost to others, which happens only where slots are used again
abbrev pub IsStoreStop : Type 0 → Stop → Type 0
IsStoreStop reused stop = (stop ≡ Gone) ⊎ (reused × (stop ≡ Busy))
