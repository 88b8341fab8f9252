use Rattle.std.proofs.Common.{rules}
use Rattle.reader_claims.proofs.steps.Words.end_of.Goals as goal

pub returns-in-Ordinary : goal.returns-in-Ordinary
returns-in-Ordinary c = search rules
