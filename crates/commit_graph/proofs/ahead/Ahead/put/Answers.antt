use Rattle.std.proofs.Common.{ℕ, List, [], ◌∷◌, ◌++◌, ap, subst, ◌∙◌, arith}
use Rattle.std.specs.Ordering.{nat_cmp}
use Rattle.std.specs.BTreeMap.{insert_entry}
use Rattle.std.proofs.lemmas.Result.{on_ok_weaker}
use Rattle.commit_graph.specs.declared.founds.NamedNode.{NamedNode}
use Rattle.commit_graph.specs.Inside.Reach.{Joins}
use Rattle.commit_graph.proofs.Topping.{joins_back, joins_below, keeps_below, nodes_in}
use Rattle.commit_graph.proofs.ahead.Ahead.put.Goals as goal

pub invariant_of-self-then-stamp-low : goal.invariant_of-self-then-stamp-low
invariant_of-self-then-stamp-low c =
    let es = c.self.inside.tree.entries in let f = c.args.found in
    keeps_below es c.insert.new.self.entries f c.self.inside.near.low
    (c.in_ok-insert.ensures.entries ∙ ap (λ (k : ℕ). insert_entry nat_cmp es k f) c.stamp_in-stamp.ensures)
    c.self.invariant (omega (arith, c.if-stamp-low.true, c.low.ensures, c.stamp_in-stamp.ensures))

pub returns-then-stamp-low : goal.returns-then-stamp-low
returns-then-stamp-low c =
    let es = c.self.inside.tree.entries in let f = c.args.found in
    joins_below es c.insert.new.self.entries f c.self.inside.near.nodes c.args.self.now
    (c.in_ok-insert.ensures.entries ∙ ap (λ (k : ℕ). insert_entry nat_cmp es k f) c.stamp_in-stamp.ensures)
    (c.self.view_is ∙ c.renew.ensures) c.self.invariant.0

pub returns : goal.returns
returns c =
    let es = c.self.inside.tree.entries in let f = c.args.found in
    on_ok_weaker c.put.result
    (λ is. subst (λ (w : List NamedNode). Joins w (f ∷ []) (nodes_in es ++ c.put.new.self.nodes))
    (c.self.view_is ∙ c.renew.ensures)
    (joins_back (nodes_in es) c.self.inside.near.nodes c.put.new.self.nodes (f ∷ []) is)) c.put.ensures.joins
