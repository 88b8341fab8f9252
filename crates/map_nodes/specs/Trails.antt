-- What a trail is: new chunks on the way to one key, of which each but the leaf has the next in the place of a child.
use Rattle.std.specs.Prelude.{◌+◌, ◌<◌, List, [], ◌∷◌, map, length, reverse, slice_set, ◌≡◌}
use Rattle.std.specs.Arc.{arc_value}
use denote.RawPtr.{null_ptr}
use Rattle.group_history.specs.declared.refs.Ref.{Ref}
use Rattle.group_history.specs.Rows.{AreKeys, paired}
use Rattle.map_chunks.specs.Shown.{own, leaf_keys, Seen}
use Rattle.map_nodes.specs.Levels.{parting}
use Rattle.map_nodes.specs.Nodes.{AllKids, kids_height, kids_marks, kids_pieces, row_pieces, sunk}
use Rattle.map_nodes.specs.declared.nodes.OwnChild.{OwnChild}
use Rattle.map_nodes.specs.declared.nodes.OwnChild.TheVariants.{Placed, Own}
use Rattle.map_nodes.specs.declared.nodes.trails.End.{End}
use Rattle.map_nodes.specs.declared.nodes.trails.Step.{Step}

abbrev pub placed_kids : List Ref → List OwnChild
placed_kids ats = map (λ at. Placed at) ats

-- a step's children, with the chunk below it in the place of one, wherever that lies
abbrev pub step_kids : Step → Seen → List OwnChild
step_kids s below = slice_set (placed_kids s.children.items) s.place (Own (record {
  ptr = null_ptr;
  alloc = s.children.alloc;
  value = below;
}))

-- the names of a step's children, where the chunk below it has this one
abbrev pub step_names : Step → Ref → List Ref
step_names s at = slice_set s.children.items s.place at

abbrev pub step_seen : Step → Seen → Seen
step_seen s below = record {
  depth = below.depth + 1;
  entries = length (arc_value s.keys);
  pieces = kids_pieces below.depth (paired (arc_value s.keys) (step_kids s below));
  height = kids_height (step_kids s below) + 2;
  marks = own 0 (parting (arc_value s.keys)) ∷ sunk (kids_marks below.depth (step_kids s below));
}

abbrev pub leaf_seen : End → Seen
leaf_seen e = record {
  depth = 1;
  entries = length (arc_value e.keys);
  pieces = row_pieces (paired (arc_value e.keys) e.values.items);
  height = 1;
  marks = own 0 (leaf_keys (arc_value e.keys)) ∷ [];
}

-- the chunk of the first step, or the leaf
abbrev pub trail_seen : List Step → End → Seen
trail_seen [] e = leaf_seen e
trail_seen (s ∷ ss) e = step_seen s (trail_seen ss e)

abbrev pub IsTrailEnd : End → Type 0
IsTrailEnd e = AreKeys (arc_value e.keys) × (length e.values.items ≡ length (arc_value e.keys))

-- at most 16 keys in strict order, each with a child; the chunk below is under its first key
abbrev pub IsStep : Step → Seen → Type 0
IsStep s below = AreKeys (arc_value s.keys) × (length s.children.items ≡ length (arc_value s.keys))
    × (s.place < length (arc_value s.keys)) × AllKids below.depth (paired (arc_value s.keys) (step_kids s below))

abbrev pub IsTrail : List Step → End → Type 0
IsTrail [] e = IsTrailEnd e
IsTrail (s ∷ ss) e = IsStep s (trail_seen ss e) × IsTrail ss e

-- the same of steps as they are kept, the lowest first
abbrev pub steps_seen : List Step → End → Seen
steps_seen ss e = trail_seen (reverse ss) e

abbrev pub AreSteps : List Step → End → Type 0
AreSteps ss e = IsTrail (reverse ss) e
