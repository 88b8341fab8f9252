use Rattle.change_drafts.proofs.UndoLemmas.{elsewhere_put, undone-written}
use Rattle.change_drafts.proofs.undoing.UndoingWriteView.put.Goals as goal

pub invariant_of-self : goal.invariant_of-self
invariant_of-self g c =
    let shown = g.V.WriteView.contents in let was = c.args.self.now in let mid = c.note.new.self in
    let key = c.args.key.now in let m = shown mid.view in let n = shown c.put.new.self in
    let beside = elsewhere_put c.put.result m n key c.args.value.now c.put.ensures.ok c.put.ensures.err in
    record {
      kept = undone-written was.before.items mid.before.items key (shown was.view) m n g.K.NamesMap.start was.kept
          c.in_ok-note.ensures.noted c.in_ok-note.ensures.same beside;
    }
