-- What reading answers, beside the right answer.
use Rattle.std.specs.Prelude.{◌≡◌, Result, Ok, Err, ⊤}
use Rattle.rule_mutators.specs.declared.faults.RuleFault.{RuleFault}
use Rattle.rule_mutators.specs.declared.faults.RuleFault.TheVariants.{NoMemory}

-- want of memory may come in place of any answer, every other fault only where it is right
abbrev pub IsFaultOf : {Y : Type 0} → RuleFault → Result Y RuleFault → Type 0
IsFaultOf NoMemory right = ⊤
IsFaultOf e right = right ≡ Err e

-- reading answers what is right, seen by view
abbrev pub ReadsSeen : {X Y : Type 0} → (X → Y) → Result X RuleFault → Result Y RuleFault → Type 0
ReadsSeen view (Ok x) right = right ≡ Ok (view x)
ReadsSeen view (Err e) right = IsFaultOf e right
