use Rattle.std.proofs.Common.{◌≡◌, List, [], ◌∷◌, ◌++◌, ◌+◌, ◌<◌, ◌⊎◌, length, map, take, get_or, ap, sym, subst, ◌∙◌}
use Rattle.std.proofs.Common.{rules}
use Rattle.std.specs.List.{Contains}
use Rattle.std.proofs.lemmas.List.{take_more, take-map, map-append}
use Rattle.group_history.specs.declared.refs.Ref.{Ref}
use Rattle.group_history.specs.Refs.{stamp_of}
use Rattle.commit_graph.specs.declared.founds.NamedNode.{NamedNode}
use Rattle.commit_graph.specs.declared.founds.NamedNode.TheVariants as found
use Rattle.commit_graph.specs.Inside.Reach.{Adds, HasStampIn, Walked}
use Rattle.commit_graph.proofs.Findings.{adds_known, adds_more}
use Rattle.commit_graph.proofs.looks.add_sure.Goals as goal

-- one child more
one_more : (olds mid news : Walked) (cs : List Ref) (i : _) (d : Ref) → i < length cs
    → Adds olds (map (λ (r : Ref). found.Chunk r) (take i cs)) mid → Adds mid (found.Chunk (get_or cs i d) ∷ []) news
    → Adds olds (map (λ (r : Ref). found.Chunk r) (take (i + 1) cs)) news
one_more olds mid news cs i d low before more =
    let as_chunk : Ref → NamedNode = λ r. found.Chunk r in
    let longer : map as_chunk (take (i + 1) cs) ≡ map as_chunk (take i cs) ++ found.Chunk (get_or cs i d) ∷ [] =
    ap (map as_chunk) (take_more cs i d low) ∙ map-append as_chunk (take i cs) (get_or cs i d ∷ []) in
    subst (λ (w : List NamedNode). Adds olds w news) (sym longer)
    (adds_more olds mid news (map as_chunk (take i cs)) (found.Chunk (get_or cs i d) ∷ []) before more)

pub loop-place-preserved-then-knows : goal.loop-place-preserved-then-knows
loop-place-preserved-then-knows c =
    let cs = c.args.children.now in let i = c.loop-place.place in
    let none : Ref = record { bits = 0 } in
    let low : i < length cs = search rules in
    let child = get_or cs i none in
    let known : HasStampIn c.loop-place.frontier.ahead (stamp_of child)
    ⊎ Contains c.loop-place.frontier.met (stamp_of child) = search rules in
    one_more c.args.frontier.now c.loop-place.frontier c.loop-place.frontier cs i none low c.loop-place.invariant
    (adds_known c.loop-place.frontier (found.Chunk child) known)

pub loop-place-preserved : goal.loop-place-preserved
loop-place-preserved c =
    let cs = c.args.children.now in let i = c.loop-place.place in
    let none : Ref = record { bits = 0 } in
    let low : i < length cs = search rules in
    one_more c.args.frontier.now c.loop-place.frontier c.add_new.new.self cs i none low c.loop-place.invariant
    c.in_ok-add_new.ensures

pub returns-then-not-has-clause-some : goal.returns-then-not-has-clause-some
returns-then-not-has-clause-some c =
    let cs = c.args.children.now in let i = c.loop-place.place in
    let as_chunk : Ref → NamedNode = λ r. found.Chunk r in
    subst (λ (w : List NamedNode). Adds c.args.frontier.now w c.loop-place.frontier) (sym (take-map as_chunk i cs))
    c.loop-place.invariant
