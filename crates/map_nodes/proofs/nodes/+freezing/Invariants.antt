use Rattle.std.proofs.Common.{◌≡◌, ◌+◌, ◌++◌, [], length}
use mathlib.Core.List.{IsPrefix}
use Rattle.std.specs.Vec.Iter.{into_iter_items}
use Rattle.map_nodes.specs.Inside.Freezing.{kids_places, AreFrozen, AreLevel}
use Rattle.map_chunks.specs.Drafts.{AddsNeeded, AreBelow}
use Rattle.map_chunks.specs.Places.{AreNamed, AddsNamed}
use Rattle.map_nodes.specs.Nodes.{kids_fresh, child_height, kids_height}
use Rattle.map_nodes.proofs.nodes.+freezing.Given as goal

abbrev pub decreases-OwnNode::freeze : goal.decreases-OwnNode::freeze
decreases-OwnNode::freeze l = l.self.height

abbrev pub decreases-freezing::freeze_kids : goal.decreases-freezing::freeze_kids
decreases-freezing::freeze_kids l = kids_height l.kids.items + 1

abbrev pub decreases-freezing::freeze_kid : goal.decreases-freezing::freeze_kid
decreases-freezing::freeze_kid l = child_height l.kid

abbrev pub invariant-freezing::freeze_kids-loop-kid : goal.invariant-freezing::freeze_kids-loop-kid
invariant-freezing::freeze_kids-loop-kid l =
    record {
      can : (goal.iterator-freezing::freeze_kids-loop-kid).can_next l.kid-iterator;
      finite : (goal.iterator-freezing::freeze_kids-loop-kid).is_finite l.kid-iterator;
      whole : l.fn.kids.items ≡ l.yielded ++ into_iter_items l.kid-iterator;
      first : l.draft.first ≡ l.fn.draft.first;
      grown : IsPrefix l.fn.draft.nodes l.draft.nodes;
      count : length l.draft.nodes ≡ length l.fn.draft.nodes + kids_fresh l.yielded;
      frozen : AreFrozen l.fn.draft.first l.fn.draft.nodes l.draft.nodes l.yielded l.children.items;
      levels : AreLevel l.fn.draft.first l.draft.nodes l.yielded l.children.items;
      named : AddsNamed l.fn.draft.first (kids_places l.yielded) l.fn.draft.nodes l.draft.nodes;
      needed : AddsNeeded [] l.children.items l.fn.draft l.draft;
      below : AreBelow (l.draft.first + length l.draft.nodes) l.children.items;
      names : AreNamed l.fn.draft.first (kids_places l.yielded) l.children.items;
    }
