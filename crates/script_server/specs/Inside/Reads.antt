-- What a read of one line does.
use Rattle.std.specs.Prelude.{Bool, true, false, [], ◌∷◌, Option}
use Rattle.std.specs.Io.KnownBytes.{IsAtEnd}
use Rattle.group_history.specs.Map.{Bytes}
use Rattle.script_server.specs.Lines.{HasTakenLine}

-- whether there was one more line: this one; else the input was at its end
abbrev pub HasRead : Option Bytes → Bool → Bytes → Option Bytes → Type 0
HasRead old true line new = HasTakenLine old (line ∷ []) new
HasRead old false line new = IsAtEnd old
