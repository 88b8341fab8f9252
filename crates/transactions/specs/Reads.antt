-- What a reading transaction shows.
use Rattle.std.specs.Prelude.{◌≡◌, ℕ, Option, Some, None}
use Rattle.std.specs.FinMap as finite
use Rattle.group_history.specs.Spelling.{Contents, Version, map_at, version_at}
use Rattle.group_history.specs.State.{opening, pulled_state}

-- what is known to be placed, and the state and the map of the one commit that it reads
pub record Read : Type 0 where
  pub contents : Contents
  pub version : Version

-- the version, or the opening one where there is none
abbrev pub version_or : Option Version → Version
version_or None = record { state = opening; read = finite.empty }
version_or (Some v) = v

-- what the commit of a stamp spells
abbrev pub read_version : Contents → ℕ → Version
read_version contents head = version_or (version_at contents head)

-- the version of the snapshot at which a commit's chain begins: what the server last sent, and nothing pending
abbrev pub pulled_version : Version → Version
pulled_version v = record {
  state = pulled_state v.state.pulled v.state.cookie v.state.confirmed;
  read = v.state.pulled;
}

-- The head's stamp spells a version, and the root's stamp its map.
pub record IsRead (contents : Contents) (head root : ℕ) : Type 0 where
  pub version : version_at contents head ≡ Some (read_version contents head)
  pub map : map_at contents root ≡ Some (read_version contents head).read
