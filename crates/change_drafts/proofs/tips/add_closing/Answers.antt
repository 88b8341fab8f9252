use Rattle.std.proofs.Common.{refl}
use Rattle.change_drafts.proofs.NeededLemmas.{needed_next}
use Rattle.change_drafts.proofs.tips.add_closing.Goals as goal

pub returns-clause-spelled : goal.returns-clause-spelled
returns-clause-spelled c contents v l h is_open =
    (c.in_ok-tip.ensures.spelled contents v v.read l h.0 h.2 is_open refl h.1).0

pub returns-clause-needed : goal.returns-clause-needed
returns-clause-needed c =
    let basis = c.args.basis in
    needed_next basis.commit basis.root basis.commit basis.snapshot c.in_ok-tip.tip.commit c.args.draft.now
    c.args.draft.now c.add_over.new.draft (λ others h. h) c.in_ok-tip.ensures.needed
