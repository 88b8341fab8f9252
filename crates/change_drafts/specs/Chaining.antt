-- The newest commit of a chain, with the root of its map.
use Rattle.std.specs.Prelude.{◌≡◌, Some}
use Rattle.group_history.specs.Meaning.{Meanings}
use Rattle.group_history.specs.Refs.{stamp_of}
use Rattle.group_history.specs.Spelling.{Contents, Version, version_at, snapshot_at, map_at, version_of}
use Rattle.group_history.specs.State.{State}
use Rattle.change_drafts.specs.declared.tips.Tip.{Tip}

-- the commit spells the version, the root its map, and its chain begins at the snapshot
abbrev pub HasTip : Contents → Tip → Version → Type 0
HasTip contents tip v = (version_at contents (stamp_of tip.commit) ≡ Some v)
    × (map_at contents (stamp_of tip.root) ≡ Some v.read)
    × (snapshot_at contents (stamp_of tip.commit) ≡ Some (stamp_of tip.snapshot))

-- the commit is one of the state, and the root the state's view
abbrev pub IsTip : Meanings → Contents → Tip → State → Type 0
IsTip means contents tip s = HasTip contents tip (version_of means s)
