-- The value that the arguments of a mutator are, as they were read.
use Rattle.std.specs.Prelude.{ℤ}
use Rattle.serde_json.specs.Data.{Data, number, string, array, no_items, item}
use Rattle.serde_json.specs.Find.{of_integer}
use Rattle.serde_json.specs.View.{view}
use Rattle.script_mutators.specs.declared.arguments.Args.{Args}
use Rattle.script_mutators.specs.declared.arguments.Args.TheVariants as args
use Rattle.script_mutators.specs.declared.arguments.Argument.{Argument}
use Rattle.script_mutators.specs.declared.arguments.Argument.TheVariants as part

-- a whole number as a value
abbrev pub integer : ℤ → Data
integer z = number (of_integer z)

-- the value that one of the arguments is
abbrev pub part_value : Argument → Data
part_value (part.Number z) = integer z
part_value (part.Text s) = string s.now
part_value (part.Other v) = view v.now

-- the value that arguments are
abbrev pub args_value : Args → Data
args_value (args.Text s) = array (item (string s.now) no_items)
args_value (args.TextAndNumber s z) = array (item (string s.now) (item (integer z) no_items))
args_value (args.TextAndText s t) = array (item (string s.now) (item (string t.now) no_items))
args_value (args.Other v) = view v
