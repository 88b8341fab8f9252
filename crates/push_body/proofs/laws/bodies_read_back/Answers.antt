use Rattle.push_body.proofs.Sent.{push-reads-back, pull-reads-back}
use Rattle.push_body.proofs.laws.bodies_read_back.Goals as goal

pub returns : goal.returns
returns c = record { push = push-reads-back; pull = pull-reads-back }
