use Rattle.std.proofs.Common.{List, [], ◌∷◌, ◌++◌, subst}
use Rattle.commit_graph.specs.declared.founds.NamedNode.{NamedNode}
use Rattle.commit_graph.specs.Inside.Reach.{Joins}
use Rattle.commit_graph.proofs.Topping.{joins_back, nodes_in}
use Rattle.commit_graph.proofs.ahead.Ahead.puts_near.Goals as goal

pub returns-clause-put : goal.returns-clause-put
returns-clause-put c is =
    let es = c.self.inside.tree.entries in let f = c.args.found in
    subst (λ (w : List NamedNode). Joins w (f ∷ []) (nodes_in es ++ c.puts.new.self.nodes)) c.self.view_is
    (joins_back (nodes_in es) c.self.inside.near.nodes c.puts.new.self.nodes (f ∷ []) (c.puts.ensures.put is))
