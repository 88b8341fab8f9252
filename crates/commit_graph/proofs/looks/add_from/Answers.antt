use Rattle.std.proofs.Common.{◌≡◌, ◌≤◌, ◌<◌, ◌+◌, ◌-◌, ℕ, List, [], ◌∷◌, ◌++◌, drop, length, map, take, get_or, ap, sym}
use Rattle.std.proofs.Common.{subst, ◌∙◌, arith, rules}
use Rattle.std.proofs.lemmas.List.{get_or-drop, get_or-map, length-drop, length-map, take_more}
use Rattle.group_history.specs.declared.refs.Ref.{Ref}
use Rattle.commit_graph.specs.declared.founds.NamedNode.{NamedNode}
use Rattle.commit_graph.specs.declared.founds.NamedNode.TheVariants as found
use Rattle.commit_graph.specs.Inside.Reach.{Adds}
use Rattle.commit_graph.proofs.Findings.{adds_more}
use Rattle.commit_graph.proofs.looks.add_from.Goals as goal

pub loop-place-preserved : goal.loop-place-preserved
loop-place-preserved c =
    let as_chunk : Ref → NamedNode = λ r. found.Chunk r in
    let none : Ref = record { bits = 0 } in
    let cs = c.args.children.now in let place = c.loop-place.place in let from = c.args.from in
    let rest = drop from (map as_chunk cs) in let j : ℕ = place - from in
    let behind : from ≤ place = c.loop-place.invariant.1 in
    let low : place < length cs = search rules in
    let within : j < length rest =
    omega (arith, low, behind, length-drop from (map as_chunk cs), length-map cs as_chunk) in
    let same : get_or rest j (as_chunk none) ≡ as_chunk (get_or cs place none) =
    get_or-drop from (map as_chunk cs) j (as_chunk none)
    ∙ ap (λ (k : ℕ). get_or (map as_chunk cs) k (as_chunk none)) (let e : from + j ≡ place = omega (arith, behind) in e)
    ∙ get_or-map as_chunk cs place none (as_chunk none) low in
    let longer : take (place + 1 - from) rest ≡ take j rest ++ as_chunk (get_or cs place none) ∷ [] =
    ap (λ (k : ℕ). take k rest) (let e : place + 1 - from ≡ j + 1 = omega (arith, behind) in e)
    ∙ take_more rest j (as_chunk none) within
    ∙ ap (λ (w : NamedNode). take j rest ++ w ∷ []) same in (
      subst (λ (w : List NamedNode). Adds c.args.frontier.now w c.add.new.self) (sym longer)
          (adds_more c.args.frontier.now c.loop-place.frontier c.add.new.self (take j rest)
          (as_chunk (get_or cs place none) ∷ []) c.loop-place.invariant.0 c.in_ok-add.ensures),
      omega (arith, behind),
    )
