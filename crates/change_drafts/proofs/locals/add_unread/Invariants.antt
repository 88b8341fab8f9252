use Rattle.std.proofs.Common.{◌≡◌, ◌≤◌, [], ◌∷◌, false, take}
use mathlib.Core.List.{IsPrefix}
use Rattle.group_history.specs.Refs.{stamp_of}
use Rattle.group_history.specs.Spelling.{Version}
use Rattle.map_chunks.specs.Drafts.{AddsNeeded}
use Rattle.map_chunks.specs.Places.{with_nodes}
use Rattle.change_drafts.specs.Chaining.{HasTip}
use Rattle.change_drafts.specs.Pending.{with_more}
use Rattle.change_drafts.proofs.locals.add_unread.Given as goal

-- the tip is of the state with so many of the mutations, and has the map of the basis; its commit
-- is one of the draft's own where that of the basis is
abbrev pub invariant-loop-mutation : goal.invariant-loop-mutation
invariant-loop-mutation g l =
    let known = g.K.NamesContents.known in
    (l.draft.first ≡ l.initial.draft.first) × IsPrefix l.initial.draft.nodes l.draft.nodes
    × ((v : Version) → HasTip (with_nodes known l.initial.draft.nodes) l.initial.tip v → v.state.closed ≡ false
    → HasTip (with_nodes known l.draft.nodes) l.tip
    (record { state = with_more v.state (take l.mutation-index l.before); read = v.read }))
    × (l.initial.draft.first ≤ stamp_of l.initial.tip.commit → l.initial.draft.first ≤ stamp_of l.tip.commit)
    × AddsNeeded (l.initial.tip.commit ∷ []) (l.tip.commit ∷ []) l.initial.draft l.draft
