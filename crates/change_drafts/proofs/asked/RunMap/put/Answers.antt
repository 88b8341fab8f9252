use Rattle.std.proofs.Common.{IsSome, ap, refl, sym, subst}
use Rattle.map_tree.specs.Trees.{tree_map}
use Rattle.map_tree.specs.declared.tree.Tree.{Tree}
use Rattle.transactions.specs.Maps.{map_or, shown_map}
use Rattle.transactions.proofs.WriteLemmas.{some_map}
use Rattle.change_drafts.specs.Running.{map_now, map_then}
use Rattle.change_drafts.proofs.UndoLemmas.{inserted, undone-written}
use Rattle.change_drafts.proofs.asked.RunMap.put.Goals as goal

pub returns-clause-then : goal.returns-clause-then
returns-clause-then g c =
    let known = g.K.NamesContents.known in let was = c.args.self.now in let key = c.args.key.text.now in
    let mid = c.note.new.map in let m = shown_map known mid.tree in let n = shown_map known c.put.new.self in
    let some = subst (λ (t : Tree). IsSome (tree_map known t)) (sym c.note.ensures.tree) c.requires.map in
    let wrote = ap map_or (c.in_ok-put.ensures.put m (some_map (tree_map known mid.tree) some)).map in
    undone-written was.before.items mid.before.items key (map_now known was) m n (map_then known was) refl
    c.in_ok-note.ensures.noted (ap (shown_map known) c.note.ensures.tree)
    (inserted m n key c.args.value.now wrote)
