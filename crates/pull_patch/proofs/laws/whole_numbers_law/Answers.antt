use Rattle.pull_patch.proofs.WholeNumbers.{only_numbers}
use Rattle.pull_patch.proofs.laws.whole_numbers_law.Goals as goal

pub returns : goal.returns
returns c = only_numbers
