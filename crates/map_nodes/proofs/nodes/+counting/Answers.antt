use Rattle.std.proofs.Common.{◌≤◌, ap, arith}
use Rattle.map_chunks.specs.Shown.{Seen}
use Rattle.map_nodes.specs.Nodes.{child_height, kids_fresh, kids_height}
use Rattle.map_nodes.proofs.CountLemmas.{fresh-inner, fresh-take, high-at}
use Rattle.map_nodes.proofs.nodes.+counting.Goals as goal

pub counting::new_of_kids-new_of_kid-requires : goal.counting::new_of_kids-new_of_kid-requires
counting::new_of_kids-new_of_kid-requires t c =
    let high : child_height c.kid-item.result
    ≤ kids_height c.args.kids.now = high-at c.args.kids.now c.loop-kid.kid-index c.kid-item.result
    c.loop-kid-test.true c.kid-item.is in
    (omega (arith, high, c.decreases), tt)

pub counting::new_of_kids-loop-kid-preserved : goal.counting::new_of_kids-loop-kid-preserved
counting::new_of_kids-loop-kid-preserved t c =
    let more = fresh-take c.args.kids.now c.loop-kid.kid-index c.kid-item.result c.loop-kid-test.true c.kid-item.is in
    omega (arith, more, c.loop-kid.invariant, c.new_of_kid.ensures, c.saturating_add-count.ensures)

pub OwnNode::new_chunks-returns-in-Inner : goal.OwnNode::new_chunks-returns-in-Inner
OwnNode::new_chunks-returns-in-Inner t c = omega (
  arith,
  fresh-inner c.self.inside.depth c.self.inside.keys.texts c.self.inside.body c.in-Inner.kids c.args.self.now
      (ap (λ (s : Seen). s.marks) c.self.view_is) c.in-Inner.is,
  c.new_of_kids.ensures,
  c.saturating_add.ensures,
  ap kids_fresh c.deref.ensures.value,
)
