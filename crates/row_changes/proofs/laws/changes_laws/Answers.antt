use Rattle.row_changes.proofs.Lawful.{laws}
use Rattle.row_changes.proofs.laws.changes_laws.Goals as goal

pub returns : goal.returns
returns c = laws
