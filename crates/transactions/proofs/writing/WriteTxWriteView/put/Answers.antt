use Rattle.std.specs.FinMap as finite
use Rattle.group_history.specs.Map.{Entries}
use Rattle.map_tree.specs.Trees.{tree_map}
use Rattle.transactions.specs.Maps.{shown_map}
use Rattle.transactions.proofs.WriteLemmas.{some_map, shown-changed, shown-stopped, shown-there, places-there}
use Rattle.map_chunks.proofs.AnswerLemmas.{on_ok}
use Rattle.map_chunks.proofs.KeptLemmas.{all_on}
use Rattle.transactions.proofs.writing.WriteTxWriteView.put.Goals as goal

pub invariant_of-self : goal.invariant_of-self
invariant_of-self g c =
    let p = g.C.Chunks.contents in let t = c.args.self.now in
    record {
      spells = shown-there c.put.result (p t.chunks) (p c.put.new.chunks) t.tree c.put.new.self
          (λ (m : Entries). finite.insert m c.args.key.now c.args.value.now) c.put.ensures.grown.0 t.spells
          (λ m h. on_ok c.put.result (c.put.ensures.put m h) (λ put. put.map)) c.put.ensures.err;
      placed = places-there c.put.result (g.C.Chunks.places c.put.new.chunks) t.tree c.put.new.self
          (all_on (g.C.Chunks.places t.chunks) (g.C.Chunks.places c.put.new.chunks) _ c.put.ensures.grown.1 t.placed)
          (on_ok c.put.result (c.put.ensures.put (shown_map (p t.chunks) t.tree)
          (some_map (tree_map (p t.chunks) t.tree) t.spells)) (λ put. put.places_are)) c.put.ensures.err;
    }

pub returns-clause-ok : goal.returns-clause-ok
returns-clause-ok g c =
    let p = g.C.Chunks.contents in let t = c.args.self.now in
    shown-changed c.put.result (p t.chunks) (p c.put.new.chunks) t.tree c.put.new.self
    (λ (m : Entries). finite.insert m c.args.key.now c.args.value.now) t.spells
    (λ m h. on_ok c.put.result (c.put.ensures.put m h) (λ put. put.map))

pub returns-clause-err : goal.returns-clause-err
returns-clause-err g c =
    let p = g.C.Chunks.contents in let t = c.args.self.now in
    shown-stopped c.put.result (p t.chunks)
    (p c.put.new.chunks) t.tree c.put.new.self c.put.ensures.grown.0 t.spells c.put.ensures.err

pub returns-clause-put : goal.returns-clause-put
returns-clause-put g c =
    let p = g.C.Chunks.contents in let t = c.args.self.now in
    c.put.ensures.put (shown_map (p t.chunks) t.tree) (some_map (tree_map (p t.chunks) t.tree) t.spells)
