use Rattle.std.proofs.Common.{ℕ, ◌≡◌, ◌+◌, ◌++◌, [], length, map}
use Rattle.std.specs.Vec.Iter.{into_iter_items}
use Rattle.group_history.specs.Refs.{slot_of}
use Rattle.commit_publishing.specs.Stamped.{AreFrom}
use Rattle.commit_publishing.specs.Placed.{LieBelow}
use Rattle.commit_publishing.specs.Inside.Stacks.{AreLower, HasTaken, Uses}
use Rattle.commit_publishing.specs.Inside.Steps.{StepsOn}
use Rattle.commit_publishing.proofs.placing.place_each.Given as goal

abbrev pub invariant-loop-node : goal.invariant-loop-node
invariant-loop-node g l =
    let S = g.S.Slots in
    record {
      can : (goal.iterator-loop-node g).can_next l.node-iterator;
      finite : (goal.iterator-loop-node g).is_finite l.node-iterator;
      whole : l.fn.nodes.items ≡ l.yielded ++ into_iter_items l.node-iterator;
      home : S.home l.seat ≡ S.serves l.to.store.now;
      taken : S.reused → HasTaken (S.view l.seat) l.slots.items;
      within : S.reused → (end : ℕ) → AreLower end l.fn.slots.items
          → AreLower end l.slots.items × LieBelow end l.refs.items;
      placed : length l.refs.items ≡ length l.yielded;
      left : length l.slots.items + length l.yielded ≡ length l.fn.nodes.items;
      stamps : AreFrom l.to.first l.refs.items;
      used : S.reused → Uses (S.view l.fn.seat) (map slot_of l.refs.items) [] (S.view l.seat);
      steps : S.reused → StepsOn (S.view l.fn.seat) (S.view l.seat);
    }
