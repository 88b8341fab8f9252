use Rattle.std.proofs.Common.{rules}
use Rattle.rule_mutators.specs.declared.language.Expr.{the_lemmas}
use Rattle.rule_mutators.specs.Reading.{literal_said}
use Rattle.rule_mutators.proofs.reading.parts.read_literal.Goals as goal

pub returns : goal.returns
unfolding literal_said
returns c = search (rules, the_lemmas)
