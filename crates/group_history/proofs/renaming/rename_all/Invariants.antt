use Rattle.std.proofs.Common.{◌≡◌, ◌++◌, map, take, drop}
use Rattle.group_history.specs.Naming.{placed_ref}
use Rattle.group_history.proofs.renaming.rename_all.Given as goal

abbrev pub invariant-loop-place : goal.invariant-loop-place
invariant-loop-place l = l.children.items
    ≡ map (placed_ref l.from l.refs) (take l.place l.fn.children.items) ++ drop l.place l.fn.children.items
