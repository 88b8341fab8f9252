-- How what a mutator makes of the value at a key stands to the answer, and to the map before and after.
-- Source: Replicache, How It Works, "Mutations"; that a mutator may refuse with a code is this project's own rule.
use Rattle.std.specs.Prelude.{◌≡◌}
use Rattle.std.specs.FinMap as finite
use Rattle.group_history.specs.declared.mutators.Ran.{Ran}
use Rattle.group_history.specs.declared.mutators.Ran.TheVariants as ran
use Rattle.group_history.specs.declared.mutators.Update.{Update}
use Rattle.group_history.specs.declared.mutators.Update.TheVariants.{Put, Refuse}
use Rattle.group_history.specs.Map.{Bytes, Entries}

-- A value is put at the key, and the run is done; a refusal is the answer, and the map is as before.
abbrev pub UpdatesAs : Update → Bytes → Entries → Ran → Entries → Type 0
UpdatesAs (Put value) key m ran.Done left = left ≡ finite.insert m key value
UpdatesAs (Refuse code) key m (ran.Refused c) left = (c ≡ code) × (left ≡ m)
UpdatesAs (Put value) key m ran.Unknown left = ⊥
UpdatesAs (Put value) key m (ran.Refused c) left = ⊥
UpdatesAs (Refuse code) key m ran.Done left = ⊥
UpdatesAs (Refuse code) key m ran.Unknown left = ⊥
