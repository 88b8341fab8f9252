use Rattle.group_history.specs.Refs.{stamp_of}
use Rattle.change_drafts.proofs.looks.base_at.Goals as goal

pub returns-clause-base : goal.returns-clause-base
returns-clause-base g c v h = c.in_ok-base.ensures.state (stamp_of c.args.tip.commit) v h.0 h.2
