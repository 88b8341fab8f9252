-- Why a row isn't put in a chunk.
use Rattle.std.specs.Prelude.{◌≡◌, ◌⊎◌, Option, Some, Result, Ok, Err}
use Rattle.group_history.specs.Map.{Bytes}
use Rattle.group_history.specs.declared.mutators.Ran.{Ran}
use Rattle.group_history.specs.declared.mutators.Ran.TheVariants as ran
use Rattle.group_history.specs.declared.mutators.Stop.{Stop}
use Rattle.group_history.specs.declared.mutators.Stop.TheVariants.{NoMemory}
use Rattle.group_history.specs.declared.mutators.Update.{Update}
use Rattle.group_history.specs.declared.mutators.Update.TheVariants.{Put, Refuse}
use Rattle.map_nodes.specs.declared.nodes.putting.PutRefused.{PutRefused}
use Rattle.map_nodes.specs.declared.nodes.putting.PutRefused.TheVariants.{Stopped, Same, Refused}
use Rattle.map_nodes.specs.declared.nodes.trails.laying.Reached.{Reached}
use Rattle.map_nodes.specs.declared.nodes.trails.laying.Reached.TheVariants as reached

-- Memory was refused, or reading stopped for one of these reasons, or the change did. Or the change made the very value
-- that the key has. Or the change refused.
abbrev pub IsUnput : (Result Update Stop → Type 0) → (Stop → Type 0) → Option Bytes → PutRefused → Type 0
IsUnput makes stops found (Stopped s) = (s ≡ NoMemory) ⊎ stops s ⊎ makes (Err s)
IsUnput makes stops found Same = (value : Bytes) × (found ≡ Some value) × makes (Ok (Put value))
IsUnput makes stops found (Refused code) = makes (Ok (Refuse code))

-- what a way down from a placed chunk ended in, where nothing is put, or memory was refused behind it
abbrev pub IsUnputTold : Reached → PutRefused → Type 0
IsUnputTold r (Stopped s) = s ≡ NoMemory
IsUnputTold r Same = r ≡ reached.Same
IsUnputTold r (Refused code) = r ≡ reached.Refused code

-- what is answered where nothing is put
abbrev pub IsAnswer : PutRefused → Result Ran Stop → Type 0
IsAnswer (Stopped s) r = r ≡ Err s
IsAnswer Same r = r ≡ Ok ran.Done
IsAnswer (Refused code) r = r ≡ Ok (ran.Refused code)
