-- How an answer of the parser on a line stands to the right one.
use Rattle.std.specs.Prelude.{◌≡◌, ⊤, ℕ, Bool, true, false, Result, Ok, Err}
use Rattle.script_parser.specs.declared.faults.ScriptFault.{ScriptFault}
use Rattle.script_parser.specs.declared.faults.LineFault.{LineFault}
use Rattle.script_parser.specs.declared.faults.LineFault.TheVariants as line
use Rattle.script_parser.specs.declared.faults.Fault.{Fault}
use Rattle.script_parser.specs.declared.faults.Fault.TheVariants as fault
use Rattle.script_parser.specs.declared.script.Command.{Command}
use Rattle.script_parser.specs.declared.script.LineKind.{LineKind}
use Rattle.script_parser.specs.Context.{Context}
use Rattle.script_parser.specs.Reading.{with_asked}
use Rattle.script_parser.specs.Inside.Reading.{IsBeside}

-- the fault of the script, where a line of this number has this fault
abbrev pub fault_at : ℕ → LineFault → Fault
fault_at n (line.Script t) = fault.Script n t
fault_at n line.NoMemory = fault.NoMemory

-- The answer where a test decides: the value where it holds, and else this fault.
abbrev pub Tests : {X : Type 0} → Bool → ScriptFault → Result X ScriptFault → Type 0
Tests holds f (Ok x) = holds ≡ true
Tests holds f (Err e) = (holds ≡ false) × (e ≡ f)

-- the same, and want of memory may come in place of any answer
abbrev pub TestsLine : {X : Type 0} → Bool → ScriptFault → Result X LineFault → Type 0
TestsLine holds f (Ok x) = holds ≡ true
TestsLine holds f (Err (line.Script e)) = (holds ≡ false) × (e ≡ f)
TestsLine holds f (Err line.NoMemory) = ⊤

-- The answer where needs decide: the value that is said where all are met, and else the fault of the first that isn't.
-- Want of memory may come in place of any answer.
abbrev pub Reads : {X : Type 0} → Result X ScriptFault → Result X LineFault → Type 0
Reads right (Ok x) = right ≡ Ok x
Reads right (Err (line.Script f)) = right ≡ Err f
Reads right (Err line.NoMemory) = ⊤

-- The call's answer on a line: Ok where the line is right, and this is then said; else the line's fault. Want of
-- memory may come in place of any answer.
abbrev pub AgreesWith : {X : Type 0} → Result Context ScriptFault → Context → Result X LineFault → Type 0
AgreesWith right c (Ok x) = right ≡ Ok c
AgreesWith right c (Err (line.Script f)) = right ≡ Err f
AgreesWith right c (Err line.NoMemory) = ⊤

-- The same of a line before the first phase, where this was said before it: a faulty one, or one for which memory is
-- refused, says nothing.
abbrev pub Heads : {X : Type 0} → Result Context ScriptFault → Context → Context → Result X LineFault → Type 0
Heads right old new (Ok x) = (right ≡ Ok new) × (new.phases ≡ old.phases)
Heads right old new (Err (line.Script f)) = (right ≡ Err f) × (new ≡ old)
Heads right old new (Err line.NoMemory) = new ≡ old

-- The same of a client's line: Ok with its command. It makes no client and no line.
abbrev pub TellsCommand : Result (Context × Command) ScriptFault → Context → Context → Result Command LineFault → Type 0
TellsCommand right old new (Ok k) = (right ≡ Ok (new, k)) × (new.clients ≡ old.clients) × (new.phases ≡ old.phases)
TellsCommand right old new (Err (line.Script f)) = (right ≡ Err f) × (new ≡ old)
TellsCommand right old new (Err line.NoMemory) = new ≡ old

-- The same of any line of this number: Ok with what it asks, which is said beside what is kept.
abbrev pub Asks : ℕ → Result Context ScriptFault → Context → Context → Result LineKind LineFault → Type 0
Asks n right old new (Ok asked) = (right ≡ Ok (with_asked asked new)) × IsBeside n old asked new
Asks n right old new (Err (line.Script f)) = (right ≡ Err f) × (new ≡ old)
Asks n right old new (Err line.NoMemory) = new ≡ old
