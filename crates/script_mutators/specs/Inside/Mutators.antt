-- What a mutator means once its arguments are read, and what it makes of the value at a key.
use Rattle.std.specs.Prelude.{ℕ, ℤ, Option, Some, None, option_and_then}
use Rattle.std.specs.Fmt.{signed_decimal}
use Rattle.serde_json.specs.Data.{Data}
use Rattle.group_history.specs.declared.mutators.Update.{Update}
use Rattle.group_history.specs.declared.mutators.Update.TheVariants.{Put, Refuse}
use Rattle.group_history.specs.Map.{Bytes, Entries}
use Rattle.group_history.specs.Meaning.{Meaning, unknown, value_of}
use Rattle.script_mutators.specs.Mutators as spec

-- what a mutator means at the value that the arguments are; without one it is unknown
abbrev pub meaning_at : Option (Data → Entries → Meaning) → Data → Entries → Meaning
meaning_at None args m = unknown
meaning_at (Some means) args m = means args m

-- what follows from a thing, where it is there; else the mutator refuses with the code
abbrev pub needed : {A : Type 0} → ℕ → Option A → (A → Update) → Update
needed code None follows = Refuse code
needed code (Some a) follows = follows a

-- what `incr` makes of the value at the key: the number there, which is raised by a number
unfoldable pub put_raised : Option Bytes → ℤ → Update
put_raised value by =
    needed spec.key_not_there value (λ there.
    needed spec.other_kind (option_and_then spec.number_of (value_of there)) (λ n.
    needed spec.code_out_of_range (spec.sum_of n by) (λ sum.
    Put (signed_decimal sum))))

-- what `append` and `tag` make of the value at the key: the text there, followed by another
unfoldable pub put_followed : Option Bytes → Bytes → Update
put_followed there added = needed spec.other_kind (spec.followed there added) Put
