-- How it is told what is wrong with rules.
use Rattle.std.specs.Prelude.{codes, ◌++◌, [], length, take, drop, Result, Ok, Err}
use Rattle.group_history.specs.Map.{Bytes}
use Rattle.rule_mutators.specs.declared.faults.RuleFault.{RuleFault}
use Rattle.rule_mutators.specs.declared.faults.RuleFault.TheVariants as fault
use Rattle.rule_mutators.specs.declared.faults.Wrong.{Wrong}
use Rattle.rule_mutators.specs.declared.faults.Wrong.TheVariants as wrong
use Rattle.rule_mutators.specs.Reading.{rules_or_none}
use Rattle.rule_mutators.specs.Rules.{Rules}

-- what is wrong at a place
abbrev pub wrong_text : Wrong → Bytes
wrong_text wrong.NoSteps = codes "no list of steps"
wrong_text wrong.NoStep = codes "no step: an array that begins with a word"
wrong_text wrong.NoWord = codes "no word"
wrong_text wrong.UnknownWord = codes "unknown word"
wrong_text wrong.Parts = codes "wrong number of parts"
wrong_text wrong.NoArgument = codes "no argument: neither a place nor a name"
wrong_text wrong.NoName = codes "no name: not a text"
wrong_text wrong.NoCode = codes "no code: not a number below 2^32"
wrong_text wrong.NotWhole = codes "a number is not whole, or does not fit 64 bits"

-- how it is told that a text is no rules
abbrev pub rules_fault_text : RuleFault → Bytes
rules_fault_text fault.NoMemory = codes "memory was refused: free some and read again"
rules_fault_text fault.NotJson = codes "no JSON text, or one that nests too deep"
rules_fault_text fault.NotObject = codes "no JSON object"
rules_fault_text (fault.At place wrong) = place ++ codes ": " ++ wrong_text wrong

-- ---- what a host is told

-- what is wrong with what was read; nothing with rules
abbrev pub verdict_text : Result Rules RuleFault → Bytes
verdict_text (Ok rules) = []
verdict_text (Err fault) = rules_fault_text fault

-- what is wrong with the rules of a text
abbrev pub fault_told : Bytes → Bytes
fault_told text = verdict_text (rules_or_none text)

-- a text in the place of what a room had, as far as there is room; what is behind the text stays
abbrev pub laid_over : Bytes → Bytes → Bytes
laid_over text room = take (length room) text ++ drop (length text) room
