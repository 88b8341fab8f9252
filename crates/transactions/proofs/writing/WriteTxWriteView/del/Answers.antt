use Rattle.std.specs.FinMap as finite
use Rattle.group_history.specs.Map.{Entries}
use Rattle.map_tree.specs.Trees.{tree_map}
use Rattle.transactions.specs.Maps.{shown_map}
use Rattle.transactions.proofs.WriteLemmas.{some_map, shown-changed, shown-stopped, shown-there, places-there}
use Rattle.map_chunks.proofs.KeptLemmas.{all_on}
use Rattle.transactions.proofs.writing.WriteTxWriteView.del.Goals as goal

pub invariant_of-self : goal.invariant_of-self
invariant_of-self g c =
    let p = g.C.Chunks.contents in let t = c.args.self.now in
    record {
      spells = shown-there c.del.result (p t.chunks) (p c.del.new.chunks) t.tree c.del.new.self
          (λ (m : Entries). finite.remove m c.args.key.now) c.del.ensures.grown.0 t.spells c.del.ensures.ok
          c.del.ensures.err;
      placed = places-there c.del.result (g.C.Chunks.places c.del.new.chunks) t.tree c.del.new.self
          (all_on (g.C.Chunks.places t.chunks) (g.C.Chunks.places c.del.new.chunks) _ c.del.ensures.grown.1 t.placed)
          c.del.ensures.places c.del.ensures.err;
    }

pub returns-clause-ok : goal.returns-clause-ok
returns-clause-ok g c =
    let p = g.C.Chunks.contents in let t = c.args.self.now in
    shown-changed c.del.result (p t.chunks) (p c.del.new.chunks) t.tree c.del.new.self
    (λ (m : Entries). finite.remove m c.args.key.now) t.spells c.del.ensures.ok

pub returns-clause-err : goal.returns-clause-err
returns-clause-err g c =
    let p = g.C.Chunks.contents in let t = c.args.self.now in
    shown-stopped c.del.result (p t.chunks)
    (p c.del.new.chunks) t.tree c.del.new.self c.del.ensures.grown.0 t.spells c.del.ensures.err

pub returns-clause-same : goal.returns-clause-same
returns-clause-same g c h =
    let p = g.C.Chunks.contents in let t = c.args.self.now in
    c.del.ensures.same (shown_map (p t.chunks) t.tree) (some_map (tree_map (p t.chunks) t.tree) t.spells) h
