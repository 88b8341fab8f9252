-- A chunk of a draft is higher than its children.
use Rattle.std.specs.Prelude.{◌+◌, ◌≤◌, max, List, [], ◌∷◌}
use Rattle.std.proofs.Common.{arith}
use denote.Param.Weighed.{most, w_this}
use Rattle.map_nodes.specs.declared.nodes.OwnChild.{OwnChild}
use Rattle.map_nodes.specs.declared.nodes.OwnChild.TheVariants.{Placed, Own}
use Rattle.map_nodes.specs.declared.nodes.Body.{Body}
use Rattle.map_nodes.specs.declared.nodes.Body.TheVariants.{Leaf, Inner}
use Rattle.map_nodes.specs.declared.nodes.OwnNode.TheDeep.{deep-Body, deep-OwnChild}
use Rattle.map_nodes.specs.Nodes.{child_height, kids_height, body_height}

pub deep-child : (c : OwnChild) → deep-OwnChild c ≤ child_height c
deep-child (Placed at) = omega arith
deep-child (Own n) = omega arith

pub deep-kids : (ks : List OwnChild) → most (w_this.weight OwnChild deep-OwnChild) ks ≤ kids_height ks + 1
deep-kids [] = omega arith
deep-kids (k ∷ ks) = let h = deep-child k in let r = deep-kids ks in omega arith

pub deep-body : (b : Body) → max (deep-Body b) 0 ≤ body_height b
deep-body (Leaf values) = omega arith
deep-body (Inner kids) = let h = deep-kids kids.items in omega arith
