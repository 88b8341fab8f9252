use Rattle.std.proofs.Common.{◌≡◌, List, [], ◌∷◌, ◌++◌, ◌+◌, ◌<◌, length, map, take, get_or, ap, sym, subst, ◌∙◌, rules}
use Rattle.std.proofs.lemmas.List.{take_more, map-append}
use Rattle.group_history.specs.declared.refs.Ref.{Ref}
use Rattle.commit_graph.specs.declared.founds.NamedNode.{NamedNode}
use Rattle.commit_graph.specs.declared.founds.NamedNode.TheVariants as found
use Rattle.commit_graph.specs.Inside.Reach.{Adds}
use Rattle.commit_graph.proofs.Findings.{adds_more}
use Rattle.commit_graph.proofs.looks.add_chunks.Goals as goal

pub loop-root-preserved : goal.loop-root-preserved
loop-root-preserved c =
    let rs = c.args.roots.now in let i = c.loop-root.root-index in
    let none : Ref = record { bits = 0 } in
    let low : i < length rs = search rules in
    let as_chunk : Ref → NamedNode = λ r. found.Chunk r in
    let longer : map as_chunk (take (i + 1) rs) ≡ map as_chunk (take i rs) ++ found.Chunk (get_or rs i none) ∷ [] =
    ap (map as_chunk) (take_more rs i none low) ∙ map-append as_chunk (take i rs) (get_or rs i none ∷ []) in
    subst (λ (w : List NamedNode). Adds c.args.frontier.now w c.add.new.self) (sym longer)
    (adds_more c.args.frontier.now c.loop-root.frontier c.add.new.self (map as_chunk (take i rs))
    (found.Chunk (get_or rs i none) ∷ []) c.loop-root.invariant c.in_ok-add.ensures)
