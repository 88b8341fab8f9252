use Rattle.std.proofs.Common.{rules}
use Rattle.pull_patch.specs.Grammar.{answer_to}
use Rattle.pull_patch.proofs.response.read_response.Goals as goal

pub returns-in_err-value : goal.returns-in_err-value
unfolding answer_to
returns-in_err-value c = search rules

pub returns : goal.returns
unfolding answer_to
returns c = search rules
