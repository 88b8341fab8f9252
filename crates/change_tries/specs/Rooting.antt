-- The root of a map, known by the commit at which queries read it.
use Rattle.std.specs.Prelude.{◌≡◌, Option, Some, None, IsSome}
use Rattle.std.specs.Coded.{codes}
use Rattle.group_history.specs.Map.{Entries}
use Rattle.group_history.specs.Refs.{stamp_of}
use Rattle.group_history.specs.State.{entries_coded}
use Rattle.group_history.specs.Spelling.{Contents, Version, version_at, map_at}
use Rattle.change_tries.specs.declared.views.Rooted.{Rooted}

-- what queries read at a version
abbrev pub read_in : Option Version → Option Entries
read_in (Some v) = Some v.read
read_in None = None

-- the root is that of the map which queries read at the commit
abbrev pub IsRooted : Contents → Rooted → Type 0
IsRooted cs r = IsSome (map_at cs (stamp_of r.root))
    × (read_in (version_at cs (stamp_of r.commit)) ≡ map_at cs (stamp_of r.root))

-- two maps can be told apart, so a type may keep that they are equal
pub ruleset maps = (codes, entries_coded)
