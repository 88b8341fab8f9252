-- A part of a line from the first phase on: what it needs, each need with its fault, and what it says.
use Rattle.std.specs.Prelude.{[], ◌∷◌, Result}
use Rattle.group_history.specs.Map.{Bytes}
use Rattle.group_history.specs.declared.scans.Scan.{Scan}
use Rattle.script_parser.specs.declared.faults.ScriptFault.{ScriptFault}
use Rattle.script_parser.specs.declared.faults.ScriptFault.TheVariants as fault
use Rattle.script_parser.specs.Context.{meets}
use Rattle.script_parser.specs.Words.{is_start, is_limit, prefix_said, start_said, limit_said}

-- what the three words of a scan say
abbrev pub scan_said : Bytes → Bytes → Bytes → Result Scan ScriptFault
scan_said prefix start limit =
    meets ((is_start start, fault.BadWords) ∷ (is_limit limit, fault.BadNumber) ∷ [])
    (record { prefix = prefix_said prefix; start = start_said start; limit = limit_said limit })
