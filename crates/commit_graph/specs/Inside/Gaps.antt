-- Stamps that a root doesn't reach.
use Rattle.std.specs.Prelude.{◌≡◌, ◌⊎◌, ◌<◌, ◌≤◌, ℕ, List, Some}
use Rattle.std.specs.List.{Contains}
use Rattle.group_history.specs.declared.refs.Ref.{Ref}
use Rattle.group_history.specs.Refs.{stamp_of}
use Rattle.group_history.specs.Spelling.{Contents}
use Rattle.commit_graph.specs.declared.gaps.Gap.{Gap}
use Rattle.commit_graph.specs.declared.gaps.Tops.{Tops}
use Rattle.commit_graph.specs.Reach.{Reaches}

-- Of these references one is told; no other one's stamp is above the number.
pub record IsTops (rs : List Ref) (t : Tops) : Type 0 where
  pub one : (r : Ref) → t.top ≡ Some r → Contains rs r
  pub others : (r : Ref) → Contains rs r → (t.top ≡ Some r) ⊎ (stamp_of r ≤ t.second)

-- a stamp between the two numbers of a gap
abbrev pub IsBetween : Gap → ℕ → Type 0
IsBetween g x = (g.low < x) × (x ≤ g.high)

-- a root reaches nothing between
abbrev pub HasGap : Contents → ℕ → Gap → Type 0
HasGap ns root g = (x : ℕ) → Reaches ns root x → (x ≤ g.low) ⊎ (g.high < x)
