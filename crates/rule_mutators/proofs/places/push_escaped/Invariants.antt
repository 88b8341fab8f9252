use Rattle.std.proofs.Common.{◌≡◌, ◌++◌, length, drop, string_bytes}
use Rattle.std.specs.Str.{chars}
use Rattle.rule_mutators.specs.Reading.{escaped_chars}
use Rattle.rule_mutators.proofs.places.push_escaped.Given as goal

-- what is written, before what is left, is the whole
abbrev pub invariant-loop-c : goal.invariant-loop-c
invariant-loop-c l =
    string_bytes l.to ++ escaped_chars (drop (length l.yielded) (chars l.name))
    ≡ string_bytes l.fn.to ++ escaped_chars (chars l.name)
