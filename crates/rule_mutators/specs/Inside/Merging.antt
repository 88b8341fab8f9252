-- What `merge` makes of the value at a key.
use Rattle.std.specs.Prelude.{Option, Some, None, option_and_then}
use Rattle.serde_json.specs.Data.{Data}
use Rattle.group_history.specs.declared.mutators.Update.{Update}
use Rattle.group_history.specs.declared.mutators.Update.TheVariants.{Put, Refuse}
use Rattle.group_history.specs.Map.{Bytes}
use Rattle.rule_mutators.specs.Meaning as spec

-- a text is put, where there is one; else the rule refuses
abbrev pub put_or_refuse : Option Bytes → Update
put_or_refuse None = Refuse spec.wrong
put_or_refuse (Some text) = Put text

-- the object there, with the members of another put over its own
abbrev pub merged_there : Option Bytes → Data → Update
merged_there there more =
    put_or_refuse (option_and_then (λ d. option_and_then spec.kept_text (spec.merged d more)) (spec.value_there there))
