-- Why a query is refused, and what a reply tells.
use Rattle.std.specs.Prelude.{◌≡◌, ◌⊎◌, Result, Ok, Err}
use Rattle.group_history.specs.declared.refusals.Refusal.{Refusal}
use Rattle.group_history.specs.declared.refusals.Refusal.TheVariants.{Busy, Gone, NoMemory, Stamps}

-- a slot has no node of that stamp any more; or a slot or a pin is lost to others, which happens only where slots are
-- used again
abbrev pub IsStoreRefusal : Type 0 → Refusal → Type 0
IsStoreRefusal reused e = (e ≡ Gone) ⊎ (reused × (e ≡ Busy))

-- that, or memory was wanting
abbrev pub IsStoreOrMemory : Type 0 → Refusal → Type 0
IsStoreOrMemory reused e = (e ≡ NoMemory) ⊎ IsStoreRefusal reused e

-- that, or stamps were wanting: so no change could be proposed
abbrev pub IsStop : Type 0 → Refusal → Type 0
IsStop reused e = (e ≡ Stamps) ⊎ IsStoreOrMemory reused e

-- what a reply tells
abbrev pub map_ok : {X Y : Type 0} → (X → Y) → Result X Refusal → Result Y Refusal
map_ok f (Ok x) = Ok (f x)
map_ok f (Err e) = Err e
