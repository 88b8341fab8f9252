use Rattle.std.proofs.Common.{refl}
use Rattle.map_tree.specs.Trees.{tree_map}
use Rattle.transactions.proofs.WriteLemmas.{some_map}
use Rattle.change_drafts.specs.Running.{map_now, map_then}
use Rattle.change_drafts.proofs.UndoLemmas.{undone-noted}
use Rattle.change_drafts.proofs.asked.note.Goals as goal

pub returns-clause-then : goal.returns-clause-then
returns-clause-then g c =
    let known = g.K.NamesContents.known in let was = c.args.map.now in let m = map_now known was in
    undone-noted c.add_note.result was.before.items c.add_note.new.before.items c.args.key.now c.in_ok-key.key
    c.in_ok-there.there m m (map_then known was) refl c.add_note.ensures.ok c.add_note.ensures.err c.in_ok-key.ensures
    (c.in_ok-there.ensures.value m (some_map (tree_map known was.tree) c.requires.map)) refl
