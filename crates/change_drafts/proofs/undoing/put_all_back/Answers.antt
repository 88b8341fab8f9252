use Rattle.change_drafts.specs.Undoing.{undone}
use Rattle.change_drafts.proofs.UndoLemmas.{undone_next}
use Rattle.change_drafts.proofs.undoing.put_all_back.Goals as goal

pub loop-key-preserved : goal.loop-key-preserved
loop-key-preserved g c =
    let shown = g.V.WriteView.contents in
    undone_next c.loop-key.before.items c.pop.new.self.items c.in-Some.key c.in-Some.there (shown c.loop-key.view)
    (shown c.put_back.new.view) (undone c.args.before.items (shown c.args.view)) c.loop-key.invariant
    c.in-Some.ensures.items c.in_ok-put_back.ensures.ok
