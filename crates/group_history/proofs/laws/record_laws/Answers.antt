use Rattle.group_history.proofs.RecordLaws.{record_laws_hold}
use Rattle.group_history.proofs.laws.record_laws.Goals as goal

pub returns : goal.returns
returns c = record_laws_hold
