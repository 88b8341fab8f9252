use Rattle.std.proofs.Common.{◌≡◌, ◌++◌, [], ◌∷◌}
use Rattle.std.specs.Vec.Iter.{into_iter_items}
use Rattle.map_chunks.specs.Drafts.{AddsNeeded}
use Rattle.map_nodes.specs.Inside.Freezing.{IsWritten}
use Rattle.map_nodes.specs.Trails.{steps_seen}
use Rattle.map_nodes.proofs.nodes.trails.freezing.freeze_all.Given as goal

abbrev pub invariant-loop-step : goal.invariant-loop-step
invariant-loop-step l =
    record {
      can : goal.iterator-loop-step.can_next l.step-iterator;
      finite : goal.iterator-loop-step.is_finite l.step-iterator;
      whole : l.fn.steps.items ≡ l.yielded ++ into_iter_items l.step-iterator;
      first : l.draft.first ≡ l.fn.draft.first;
      written : IsWritten l.fn.draft.first l.fn.draft.nodes l.draft.nodes (steps_seen l.yielded l.fn.end) l.at;
      needed : AddsNeeded [] (l.at ∷ []) l.fn.draft l.draft;
    }
