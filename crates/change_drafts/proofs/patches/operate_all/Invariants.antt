use Rattle.std.proofs.Common.{◌≡◌, drop}
use Rattle.group_history.specs.Map.{patched}
use Rattle.transactions.specs.Maps.{shown_map}
use Rattle.change_drafts.proofs.patches.operate_all.Given as goal

-- what is left to do to the map so far makes what all makes of the map before
abbrev pub invariant-loop-op : goal.invariant-loop-op
invariant-loop-op g l =
    let contents = g.C.Chunks.contents in
    patched (shown_map (contents l.view.chunks) l.view.tree) (drop l.op-index l.patch)
    ≡ patched (shown_map (contents l.initial.view.chunks) l.initial.view.tree) l.patch
