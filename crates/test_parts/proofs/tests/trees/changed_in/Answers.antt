use Rattle.map_tree.specs.declared.tree.Root.TheVariants.{Placed}
use Rattle.map_tree.proofs.WriteLemmas.{kept_there}
use Rattle.test_parts.proofs.tests.trees.changed_in.Goals as goal

pub has-requires-clause-known : goal.has-requires-clause-known
has-requires-clause-known g c =
    let contents = g.C.Chunks.contents in
    kept_there (contents c.args.chunks.now) (contents c.new_after.new.chunks) (Placed c.args.root)
    c.new_after.ensures.0 c.requires.known
