use Rattle.std.proofs.Common.{subst, sym}
use Rattle.std.specs.Prelude.{IsSome}
use Rattle.map_chunks.proofs.AnswerLemmas.{if_ok_so}
use Rattle.map_chunks.proofs.KeptLemmas.{all_on}
use Rattle.map_chunks.specs.Places.{AreAll}
use Rattle.map_tree.specs.Trees.{tree_map, tree_places}
use Rattle.map_tree.specs.declared.tree.Tree.{Tree}
use Rattle.map_tree.proofs.WriteLemmas.{kept_there}
use Rattle.transactions.specs.Maps.{shown_map}
use Rattle.transactions.proofs.WriteLemmas.{answered, places-updated, shown-stopped, shown-updated}
use Rattle.transactions.proofs.WriteLemmas.{some_map, stopped-by, updated-there}
use Rattle.transactions.proofs.writing.WriteTxWriteView.update.Goals as goal

pub invariant_of-self : goal.invariant_of-self
invariant_of-self g c =
    let p = g.C.Chunks.contents in
    let t = c.args.self.now in
    let m = shown_map (p t.chunks) t.tree in
    let was = p t.chunks in
    let now = p c.update.new.chunks in
    let may = g.C.Chunks.places c.update.new.chunks in
    let u = c.update.new.self in
    let grown = c.update.ensures.grown in
    let all : AreAll may (tree_places t.tree) = all_on (g.C.Chunks.places t.chunks) may _ grown.1 t.placed in
    let done = c.update.ensures.updated m (some_map (tree_map was t.tree) t.spells) in
    record {
      spells = answered c.update.result done c.update.ensures.err
          (λ ran z. updated-there was now may t.tree u m _ z.0 ran grown.0 t.spells z.2)
          (λ e. subst (λ (w : Tree). IsSome (tree_map now w)) (sym e)
          (kept_there was now t.tree.root grown.0 t.spells));
      placed = answered c.update.result done c.update.ensures.err
          (λ ran z. places-updated was now may t.tree u m _ z.0 ran all z.2)
          (λ e. subst (λ (w : Tree). AreAll may (tree_places w)) (sym e) all);
    }

pub returns-clause-ran : goal.returns-clause-ran
returns-clause-ran g c =
    let p = g.C.Chunks.contents in
    let t = c.args.self.now in
    let m = shown_map (p t.chunks) t.tree in
    if_ok_so c.update.result (c.update.ensures.updated m (some_map (tree_map (p t.chunks) t.tree) t.spells))
    (λ ran z. (
      z.0,
      z.1,
      shown-updated (p t.chunks) (p c.update.new.chunks) (g.C.Chunks.places c.update.new.chunks) t.tree
          c.update.new.self c.args.key.now z.0 ran c.update.ensures.grown.0 t.spells z.2,
    ))

pub returns-clause-err : goal.returns-clause-err
returns-clause-err g c =
    let p = g.C.Chunks.contents in
    let t = c.args.self.now in
    shown-stopped c.update.result (p t.chunks) (p c.update.new.chunks) t.tree c.update.new.self
    c.update.ensures.grown.0 t.spells c.update.ensures.err

pub returns-clause-updated : goal.returns-clause-updated
returns-clause-updated g c =
    let p = g.C.Chunks.contents in
    let t = c.args.self.now in
    c.update.ensures.updated (shown_map (p t.chunks) t.tree) (some_map (tree_map (p t.chunks) t.tree) t.spells)

pub returns-clause-stopped : goal.returns-clause-stopped
returns-clause-stopped g c =
    let p = g.C.Chunks.contents in
    let t = c.args.self.now in
    stopped-by _ _ _ c.update.result
    (c.update.ensures.stopped (shown_map (p t.chunks) t.tree) (some_map (tree_map (p t.chunks) t.tree) t.spells))
