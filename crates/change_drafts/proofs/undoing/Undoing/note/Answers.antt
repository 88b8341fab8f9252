use Rattle.change_drafts.proofs.UndoLemmas.{undone-noted}
use Rattle.change_drafts.proofs.undoing.Undoing.note.Goals as goal

pub invariant_of-self-2 : goal.invariant_of-self-2
invariant_of-self-2 g c =
    let shown = g.V.WriteView.contents in let was = c.args.self.now in
    record {
      kept = undone-noted c.add_note.result was.before.items c.add_note.new.before.items c.args.key.now
          c.in_ok-key.key c.in_ok-there.there (shown was.view) (shown c.get.new.self) g.K.NamesMap.start was.kept
          c.add_note.ensures.ok c.add_note.ensures.err c.in_ok-key.ensures c.in_ok-there.ensures.value
          c.get.ensures.kept;
    }
