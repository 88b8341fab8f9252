use Rattle.std.proofs.Common.{◌+◌, drop, sym, ap, ◌∙◌}
use Rattle.std.proofs.lemmas.List.{at_drop_more}
use Rattle.group_history.specs.declared.responses.Patch.{Patch}
use Rattle.group_history.specs.Map.{Entries, patched, patched_once}
use Rattle.transactions.specs.Maps.{shown_map}
use Rattle.change_drafts.proofs.patches.operate_all.Goals as goal

pub loop-op-preserved : goal.loop-op-preserved
loop-op-preserved g c =
    let ops = c.args.patch.now in let k = c.loop-op.op-index in
    let m = shown_map (g.C.Chunks.contents c.loop-op.view.chunks) c.loop-op.view.tree in
    let step = at_drop_more (patched m) ops k c.op-item.result c.loop-op-test.true ∙ ap
    (λ (op : Patch). patched (patched_once m op) (drop (k + 1) ops)) (sym c.op-item.is) in
    ap (λ (n : Entries). patched n (drop (k + 1) ops)) c.in_ok-operate.ensures.ok ∙ (sym step ∙ c.loop-op.invariant)
