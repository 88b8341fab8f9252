-- How a script is run that was read, and how a process ends.
use Rattle.std.specs.Prelude.{ℕ, OnOk, Option, Result}
use Rattle.group_history.specs.Map.{Bytes}
use Rattle.script_parser.specs.declared.faults.Fault.{Fault}
use Rattle.script_parser.specs.declared.faults.Fault.TheVariants as fault
use Rattle.script_parser.specs.declared.script.Script.{Script}
use Rattle.script_parser.specs.Context.{Context}
use Rattle.script_parser.specs.Scripts.{IsScript}
use Rattle.script_runner.specs.Runs.{BlamesNoScript, HasPlayed, HasStopped, IsRunWant}

-- What a run of a script that was read writes, to the end or until memory ended it. Its fault is none of the script.
pub record IsRun {X : Type 0} (script : Script) (old new : Option Bytes) (result : Result X Fault) : Type 0 where
  pub written : (said : Context) → IsScript said script → OnOk result (HasPlayed said old new)
  pub want : (said : Context) → IsScript said script → IsRunWant result → HasStopped said old new
  pub fault : BlamesNoScript result

-- the status of a process that ends with the fault
abbrev pub status_of : Fault → ℕ
status_of (fault.Script line text) = 2
status_of fault.NoMemory = 3
status_of fault.Write = 3
