use Rattle.std.proofs.Common.{List, subst}
use Rattle.std.proofs.lemmas.List.Elements.{Contains-append_right}
use Rattle.commit_graph.specs.declared.founds.NamedNode.{NamedNode}
use Rattle.commit_graph.specs.Inside.Reach.{HasStampIn}
use Rattle.commit_graph.proofs.ahead.Ahead.is_near.Goals as goal

pub returns : goal.returns
returns c is = let here = c.has.ensures is in
    subst (λ (w : List NamedNode). HasStampIn w c.args.stamp) c.self.view_is
    (here.0, Contains-append_right _ _ here.0 here.1, here.2)
