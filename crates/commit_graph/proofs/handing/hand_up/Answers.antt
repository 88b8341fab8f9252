use Rattle.std.proofs.Common.{List, ◌++◌, reverse, sym, ap, ◌∙◌, append_assoc}
use Rattle.group_history.specs.declared.mutations.MutationFields.{MutationFields as Mutation}
use Rattle.map_chunks.proofs.KeptLemmas.{grows_on}
use Rattle.commit_graph.specs.Inside.Chains.{listed}
use Rattle.commit_graph.proofs.Rising.{adds_stay, lowest}
use Rattle.commit_graph.proofs.handing.hand_up.Goals as goal

pub loop-at-preserved : goal.loop-at-preserved
loop-at-preserved g c =
    let m = g.N.Chunks.contents in let p = g.N.Chunks.places in let i = c.loop-at.invariant in
    let rest = c.pop.new.self.items in let grown = c.hand_one.ensures.grown in
    let low = lowest (p c.loop-at.nodes) (m c.loop-at.nodes) c.loop-at.chain.items rest c.in-Some.at in
    let stay = adds_stay (p c.loop-at.nodes) (p c.hand_one.new.nodes) (m c.loop-at.nodes) (m c.hand_one.new.nodes)
    (reverse rest) in
    let first = low i.0.0 c.in-Some.ensures.items i.0.1 in (
      (first.1, stay first.1 grown.0 grown.1 first.5),
      grows_on m p c.args.nodes.now c.loop-at.nodes c.hand_one.new.nodes i.1 grown,
      λ xs ms has adds. let r = i.2 xs ms has adds in let w = low r.1 c.in-Some.ensures.items r.3 in (
        r.0 ++ listed w.0,
        w.1,
        c.in_ok-hand_one.ensures.handed r.0 w.0 r.2 w.4,
        stay w.1 grown.0 grown.1 w.5,
        append_assoc r.0 (listed w.0) w.1 ∙ ap (λ (u : List Mutation). r.0 ++ u) (sym w.6) ∙ r.4,
      ),
    )

pub returns-in_err-hand_one-clause-grown : goal.returns-in_err-hand_one-clause-grown
returns-in_err-hand_one-clause-grown g c =
    grows_on g.N.Chunks.contents g.N.Chunks.places _ _ _ c.loop-at.invariant.1 c.hand_one.ensures.grown

pub returns-clause-grown : goal.returns-clause-grown
returns-clause-grown g c =
    c.loop-at.invariant.1

pub hand_one-requires-clause-known : goal.hand_one-requires-clause-known
hand_one-requires-clause-known g c =
    let i = c.loop-at.invariant.0 in
    (lowest (g.N.Chunks.places c.loop-at.nodes) (g.N.Chunks.contents c.loop-at.nodes) c.loop-at.chain.items
    c.pop.new.self.items c.in-Some.at i.0 c.in-Some.ensures.items i.1).3

pub hand_one-requires-clause-place : goal.hand_one-requires-clause-place
hand_one-requires-clause-place g c =
    let i = c.loop-at.invariant.0 in
    (lowest (g.N.Chunks.places c.loop-at.nodes) (g.N.Chunks.contents c.loop-at.nodes) c.loop-at.chain.items
    c.pop.new.self.items c.in-Some.at i.0 c.in-Some.ensures.items i.1).2
