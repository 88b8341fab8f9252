-- What a run that is asked for tells.
use Rattle.std.specs.Prelude.{◌≡◌, ◌⊎◌}
use Rattle.client_desk.specs.Told.{Told, dry}

-- this, or that memory was refused
abbrev pub IsThisOrDry : Told → Told → Type 0
IsThisOrDry this t = (t ≡ dry) ⊎ (t ≡ this)
