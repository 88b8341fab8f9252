-- What a scan finds below a draft's chunk.
use Rattle.std.specs.Prelude.{ℕ, List, map, Option, slice_index_or}
use denote.RawPtr.{null_ptr}
use Rattle.group_history.specs.Map.{Bytes}
use Rattle.group_history.specs.Refs.{stamp_of}
use Rattle.group_history.specs.Rows.{Rows}
use Rattle.group_history.specs.Spelling.{Contents, joined_rows}
use Rattle.map_chunks.specs.Shown.{Seen, chunk_rows, shown}
use Rattle.map_nodes.specs.Trails.{step_kids}
use Rattle.map_nodes.specs.declared.nodes.OwnChild.{OwnChild}
use Rattle.map_nodes.specs.declared.nodes.OwnChild.TheVariants.{Placed, Own}
use Rattle.map_nodes.specs.declared.nodes.trails.Step.{Step}

-- the rows of a child of a draft's chunk, however deep it is
abbrev pub kid_shown : Contents → OwnChild → Option Rows
kid_shown contents (Placed at) = chunk_rows contents (stamp_of at)
kid_shown contents (Own n) = shown contents n.value.pieces

-- the rows of the children of a draft's chunk
abbrev pub kids_shown : Contents → List (Bytes × OwnChild) → Option Rows
kids_shown contents kids = joined_rows (map (λ e. (e.0, kid_shown contents e.1)) kids)

-- the child of a step at a place, where the chunk below the step is this one
abbrev pub step_kid : Step → Seen → ℕ → OwnChild
step_kid s below place = slice_index_or (step_kids s below) place (Own (record {
  ptr = null_ptr;
  alloc = s.children.alloc;
  value = below;
}))
