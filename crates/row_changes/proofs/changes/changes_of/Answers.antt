use Rattle.std.proofs.Common.{◌≤◌, ◌⊎◌, inl, inr, length}
use Rattle.row_changes.proofs.Merging.{are_told}
use Rattle.row_changes.proofs.changes.changes_of.Goals.{then-loop-i-test+else-j-new, else-loop-i-test}
use Rattle.row_changes.proofs.changes.changes_of.Goals as goal

pub returns : goal.returns
returns c =
    let at_end : (length c.args.old.now ≤ c.loop-i.i) ⊎ (length c.args.new.now ≤ c.loop-i.j) =
    elim c.loop-i-test.branch [
      | then-loop-i-test+else-j-new w ↦ inr w.if-j-new.false
      | else-loop-i-test w ↦ inl w.loop-i-test.false
    ] in
    are_told c.args.old.now c.args.new.now c.loop-i.i c.loop-i.j c.loop-i.changes.items _ _ c.requires.old_rises
    c.requires.new_rises c.loop-i.invariant.rest at_end c.in_ok-tell_all_removed.ensures c.in_ok-tell_all_added.ensures
