-- A run of a mutator on a tree.
use Rattle.std.specs.Prelude.{◌≡◌, Bool, true, false, List, Some, Contains}
use Rattle.group_history.specs.declared.mutations.MutationFields.{MutationFields as Mutation}
use Rattle.group_history.specs.Map.{Bytes, Entries}
use Rattle.group_history.specs.Meaning.{Meaning, Meanings}
use Rattle.group_history.specs.Ran.{RunsAs}
use Rattle.group_history.specs.Spelling.{Contents}
use Rattle.group_history.specs.State.{replayed_once}
use Rattle.map_tree.specs.Trees.{tree_map}
use Rattle.transactions.specs.Maps.{shown_map}
use Rattle.change_drafts.specs.Undoing.{undone}
use Rattle.change_drafts.specs.declared.asked.RunMap.{RunMap}
use Rattle.change_drafts.specs.declared.runs.OwnRun.{OwnRun}
use Rattle.change_drafts.specs.declared.runs.OwnRun.TheVariants as own_run
use Rattle.change_drafts.specs.declared.runs.Replayed.{Replayed}
use Rattle.change_drafts.specs.declared.runs.Replayed.TheVariants as replayed
use Rattle.change_drafts.specs.declared.runs.Run.{Run}

-- it ran as the meaning says, and left a tree
abbrev pub HasRun : Contents → Meaning → Run → Type 0
HasRun contents meaning run = (m : Entries) × (tree_map contents run.tree ≡ Some m) × RunsAs meaning run.ran m

-- The group has the mutator, and it ran so; or it hasn't, and the map is as it was.
abbrev pub MayRun : Contents → Bool → Meaning → Entries → OwnRun → Type 0
MayRun contents has meaning m (own_run.Ran run) = (has ≡ true) × HasRun contents meaning run
MayRun contents has meaning m (own_run.Lacks tree) = (has ≡ false) × (tree_map contents tree ≡ Some m)

-- the same of a replay, which leaves the map as it was where the mutator isn't done
abbrev pub MayReplay : Contents → Bool → Meanings → Entries → Mutation → Replayed → Type 0
MayReplay contents has means m x (replayed.Ran left) = (has ≡ true)
    × (tree_map contents left.tree ≡ Some (replayed_once means m x))
    × (left.done ≡ false → replayed_once means m x ≡ m)
MayReplay contents has means m x (replayed.Lacks tree) = (has ≡ false) × (tree_map contents tree ≡ Some m)

-- the group has the mutator of one of these not
abbrev pub LacksOne : (Bytes → Bool) → List Mutation → Type 0
LacksOne has xs = (x : Mutation) × Contains xs x × (has x.name ≡ false)

-- the map of a run as it is, and the one where it began: with all that it wrote put back
abbrev pub map_now : Contents → RunMap → Entries
map_now contents map = shown_map contents map.tree

abbrev pub map_then : Contents → RunMap → Entries
map_then contents map = undone map.before.items (map_now contents map)
