-- One step of a publisher after the other: of its seat, and of its draft.
use Rattle.std.specs.Prelude.{◌≡◌, ◌≤◌, ◌⊎◌, ℕ, List, [], ◌∷◌, ◌++◌, length}
use mathlib.Core.List.{IsPrefix}
use Rattle.group_history.specs.declared.nodes.Node.{Node}
use Rattle.group_history.specs.declared.refs.Ref.{Ref}
use Rattle.group_history.specs.declared.refusals.Refusal.{Refusal}
use Rattle.group_history.specs.declared.refusals.Refusal.TheVariants as refusal
use Rattle.group_history.specs.Refs.{stamp_of}
use Rattle.group_history.specs.Spelling.{Contents}
use Rattle.reader_claims.specs.declared.view.View.{View}
use Rattle.commit_graph.specs.Seats.{StaysHeld}
use Rattle.commit_publishing.specs.Stamped.{drawn_as}

-- the seat went from v to u, knows no less of the epoch, and a pin that was held is held still
pub record StepsOn (v u : View) : Type 0 where
  pub loads : v.epoch_loads ≤ u.epoch_loads
  pub reached : v.reached ≤ u.reached
  pub held : StaysHeld v u

-- why a node gets no place, for which a slot was taken
abbrev pub MayRefusePlace : Type 0 → Refusal → Type 0
MayRefusePlace reused e = (e ≡ refusal.NoMemory) ⊎ ((reused × (e ≡ refusal.Busy)) ⊎ ((reused → ⊥) × (e ≡ refusal.Full)))

-- in contents that begin so, the nodes have the stamps from `first` on
abbrev pub AreDrawn : ℕ → ℕ → List (Node Ref) → Contents → Type 0
AreDrawn from first nodes contents = (earlier : Contents) × (length earlier ≡ first)
    × IsPrefix (earlier ++ drawn_as from first nodes) contents

-- behind the old references stands one of this stamp
abbrev pub AddsOne : ℕ → List Ref → List Ref → Type 0
AddsOne stamp old new = (at : Ref) × (new ≡ old ++ at ∷ []) × (stamp_of at ≡ stamp)
