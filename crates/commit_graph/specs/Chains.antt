-- What the chain of a commit tells of its state.
use Rattle.std.specs.Prelude.{◌≡◌, Some}
use Rattle.group_history.specs.Refs.{stamp_of}
use Rattle.group_history.specs.State.{State}
use Rattle.group_history.specs.Spelling.{Contents, map_at}
use Rattle.commit_graph.specs.declared.chains.Base.{Base}

-- it is what a state has from the server, its pulled map by the root
abbrev pub IsBaseOf : Contents → State → Base → Type 0
IsBaseOf ns s base = (base.cookie ≡ s.cookie) × (base.confirmed ≡ s.confirmed)
    × (map_at ns (stamp_of base.pulled) ≡ Some s.pulled)
