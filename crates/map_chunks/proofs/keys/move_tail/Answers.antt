use Rattle.std.proofs.Common.{arith, length, append-nil, ap, ◌∙◌, ◌++◌, reverse}
use Rattle.map_chunks.proofs.ListLemmas.{cut_front, cut_back}
use Rattle.map_chunks.proofs.keys.move_tail.Goals as goal

pub loop-left-init : goal.loop-left-init
loop-left-init g c = (
  ap (λ w. c.args.left.now.items ++ reverse w) c.requires.empty ∙ append-nil c.args.left.now.items,
  omega (arith, ap length c.requires.empty),
  c.requires.long,
)

pub returns-clause-left : goal.returns-clause-left
returns-clause-left g c = cut_front c.loop-left.left.items
    (reverse c.loop-left.right.items) c.args.left.now.items 8 c.loop-left.invariant.0 (omega arith)

pub returns-clause-right : goal.returns-clause-right
returns-clause-right g c = c.reverse.ensures.items ∙ cut_back c.loop-left.left.items
    (reverse c.loop-left.right.items) c.args.left.now.items 8 c.loop-left.invariant.0 (omega arith)
