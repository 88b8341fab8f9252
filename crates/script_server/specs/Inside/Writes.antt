-- What is left of a write that failed.
use Rattle.std.specs.Prelude.{◌≡◌, ◌⊎◌, [], Option}
use Rattle.std.specs.Io.KnownBytes.{Appends}
use mathlib.Core.List.{IsPrefix}
use Rattle.group_history.specs.Map.{Bytes}
use Rattle.script_server.specs.Answers.{IsLine}

-- nothing of an answer, or a beginning of one that is a line
abbrev pub IsBeginning : Bytes → Bytes → Type 0
IsBeginning cut answer = (cut ≡ []) ⊎ (IsLine answer × IsPrefix cut answer)

-- such a beginning was written
abbrev pub WritesSome : Bytes → Option Bytes → Option Bytes → Type 0
WritesSome answer old new = (cut : Bytes) × IsBeginning cut answer × Appends old new cut
