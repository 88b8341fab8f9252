use Rattle.std.proofs.Common.{rules}
use Rattle.group_history.proofs.refs.Ref.new.Goals as goal

pub returns-clause-bits : goal.returns-clause-bits
returns-clause-bits c = search rules

pub returns-clause-stamp : goal.returns-clause-stamp
returns-clause-stamp c = search rules

pub returns-clause-slot : goal.returns-clause-slot
returns-clause-slot c = search rules
