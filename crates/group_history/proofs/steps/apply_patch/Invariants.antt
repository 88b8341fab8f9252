use Rattle.std.proofs.Common.{◌≡◌, drop}
use Rattle.group_history.specs.Map.{patched}
use Rattle.group_history.proofs.steps.apply_patch.Given as goal

-- what is left to do to the map so far makes what all makes of the map
abbrev pub invariant-loop-op : goal.invariant-loop-op
invariant-loop-op l = patched l.patched (drop l.op-index l.patch) ≡ patched l.fn.map l.patch
