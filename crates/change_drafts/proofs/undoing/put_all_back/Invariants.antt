use Rattle.std.proofs.Common.{◌≡◌, vec_len}
use Rattle.change_drafts.specs.Undoing.{undone}
use Rattle.change_drafts.proofs.undoing.put_all_back.Given as goal

-- what is left to put back makes the same map
abbrev pub invariant-loop-key : goal.invariant-loop-key
invariant-loop-key g l = undone l.before.items (g.V.WriteView.contents l.view)
    ≡ undone l.initial.before.items (g.V.WriteView.contents l.initial.view)

abbrev pub decreases-loop-key : goal.decreases-loop-key
decreases-loop-key g l = vec_len l.before
