use Rattle.std.proofs.Common.{◌∙◌, ap, sym, subst, arith, List, Option, Some, None, refl}
use Rattle.std.specs.Prelude.{IsSome}
use Rattle.group_history.specs.Map.{Bytes}
use Rattle.map_nodes.specs.Inside.Halves.{HeadsBoth, IsHalf}
use Rattle.map_nodes.specs.Nodes.{HeadIs}
use Rattle.map_chunks.specs.Shown.{Piece, Seen}
use Rattle.map_nodes.proofs.nodes.OwnNode.rise.Goals as goal

heads_some : (o : Option Bytes) (lower upper : List Piece) → HeadsBoth o lower upper → IsSome o
heads_some None lower upper h = absurd h
heads_some (Some first) lower upper h = refl

pub unwrap-requires : goal.unwrap-requires
unwrap-requires c = heads_some c.args.above.first c.args.self.now.pieces c.args.half.node.value.pieces c.requires.first

pub root_above-requires-clause-depth : goal.root_above-requires-clause-depth
root_above-requires-clause-depth c = omega
    (arith, ap (λ (s : Seen). s.depth) (c.housed-lower.ensures ∙ c.replace.ensures.value), c.requires.depth)

pub root_above-requires-clause-half : goal.root_above-requires-clause-half
root_above-requires-clause-half c = subst (λ (s : Seen). IsHalf 1 s.depth (Some c.args.half))
    (sym (c.housed-lower.ensures ∙ c.replace.ensures.value)) c.requires.half

pub root_above-requires-clause-head : goal.root_above-requires-clause-head
root_above-requires-clause-head c =
    subst (λ (s : Seen). HeadIs c.unwrap.result s.pieces) (sym (c.housed-lower.ensures ∙ c.replace.ensures.value))
    (subst (λ o. HeadsBoth o c.args.self.now.pieces c.args.half.node.value.pieces) c.unwrap.ensures c.requires.first).0

pub root_above-requires-clause-order : goal.root_above-requires-clause-order
root_above-requires-clause-order c = (subst
    (λ o. HeadsBoth o c.args.self.now.pieces c.args.half.node.value.pieces) c.unwrap.ensures c.requires.first).1
