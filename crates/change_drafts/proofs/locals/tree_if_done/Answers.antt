use Rattle.std.proofs.Common.{◌≡◌, subst}
use Rattle.group_history.specs.declared.mutators.Ran.{Ran}
use Rattle.group_history.specs.declared.mutators.Ran.TheVariants as ran
use Rattle.group_history.specs.Ran.{RunsAs}
use Rattle.change_drafts.proofs.RunLemmas.{map-done}
use Rattle.change_drafts.proofs.locals.tree_if_done.Goals as goal

pub returns-in-Done-clause-ok : goal.returns-in-Done-clause-ok
returns-in-Done-clause-ok c contents meaning h =
    let is_done : c.args.run.ran ≡ ran.Done = cc (c.in-Done.is) in
    (h.0, h.1, map-done meaning h.0 (subst (λ (r : Ran). RunsAs meaning r h.0) is_done h.2))
