use Rattle.std.proofs.Common.{rules}
use Rattle.std.proofs.lemmas.Str.{IsCharBoundary-after_ascii}
use Rattle.script_mutators.proofs.arguments.between.Goals as goal

pub range-requires-clause-start_boundary : goal.range-requires-clause-start_boundary
range-requires-clause-start_boundary c p =
    IsCharBoundary-after_ascii c.args.text.now 0 c.utf8.text (search rules) (search rules)
