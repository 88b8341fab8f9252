use Rattle.map_tree.proofs.WriteLemmas.{kept_there}
use Rattle.transactions.proofs.WriteLemmas.{shown-kept}
use Rattle.map_chunks.proofs.KeptLemmas.{all_on}
use Rattle.transactions.proofs.writing.WriteTxWriteView.get.Goals as goal

pub invariant_of-self : goal.invariant_of-self
invariant_of-self g c =
    let m = g.C.Chunks.contents in let t = c.args.self.now in
    record {
      spells = kept_there (m t.chunks) (m c.get.new.chunks) t.tree.root c.get.ensures.grown.0 t.spells;
      placed = all_on (g.C.Chunks.places t.chunks)
          (g.C.Chunks.places c.get.new.chunks) _ c.get.ensures.grown.1 t.placed;
    }

pub returns-clause-kept : goal.returns-clause-kept
returns-clause-kept g c =
    let m = g.C.Chunks.contents in let t = c.args.self.now in
    shown-kept (m t.chunks) (m c.get.new.chunks) t.tree c.get.ensures.grown.0 t.spells
