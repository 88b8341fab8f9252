-- Own and placed chunks of a draft as children.
use Rattle.std.specs.Prelude.{ℕ, Box, List, slice_set, ◌≡◌, Option}
use Rattle.std.specs.declared.alloc.Global.{Global}
use Rattle.group_history.specs.Refs.{stamp_of}
use Rattle.group_history.specs.Rows.{Rows}
use Rattle.group_history.specs.Spelling.{Contents, rows_at}
use Rattle.map_chunks.specs.Shown.{Seen, shown}
use Rattle.map_nodes.specs.declared.nodes.OwnChild.{OwnChild}
use Rattle.map_nodes.specs.declared.nodes.OwnChild.TheVariants.{Placed, Own}
use Rattle.map_nodes.specs.Levels.{seen_levels, ShrunkLater}
use Rattle.map_nodes.specs.Nodes.{child_levels}

-- an own chunk where it is a child
abbrev pub Kid : Type 0
Kid = Box Seen Global

-- the rows that a child shows
abbrev pub child_rows : Contents → ℕ → OwnChild → Option Rows
child_rows contents below (Placed at) = rows_at contents below (stamp_of at)
child_rows contents below (Own n) = shown contents n.value.pieces

-- An own child, so deep, stands at the place of this one, and shows these rows. Of the chunks of this one, one on each
-- level at most changed.
abbrev pub ChildChanged : Contents → ℕ → ℕ → List OwnChild → List OwnChild → OwnChild → Option Rows → Type 0
ChildChanged contents below place old new child rows = (n : Kid) × (new ≡ slice_set old place (Own n))
    × (n.value.depth ≡ below) × (shown contents n.value.pieces ≡ rows)
    × ShrunkLater contents below (child_levels below child) (seen_levels n.value)
