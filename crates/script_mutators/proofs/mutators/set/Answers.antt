use Rattle.script_mutators.specs.Inside.Arguments.{args_value}
use Rattle.script_mutators.proofs.MutatorArguments.{HasText-value}
use Rattle.script_mutators.proofs.mutators.set.Goals as goal

pub json_of-requires-clause-shallow : goal.json_of-requires-clause-shallow
json_of-requires-clause-shallow g c = (HasText-value (args_value c.args.args.now) _
    (c.requires.shallow, c.requires.whole) c.in-Some.ensures).0

pub json_of-requires-clause-whole : goal.json_of-requires-clause-whole
json_of-requires-clause-whole g c = (HasText-value (args_value c.args.args.now) _
    (c.requires.shallow, c.requires.whole) c.in-Some.ensures).1
