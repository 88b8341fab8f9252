-- A client's last id at a commit.
use Rattle.std.specs.Prelude.{ℕ, Option, Some, None}
use Rattle.group_history.specs.Map.{Bytes}
use Rattle.group_history.specs.Spelling.{Contents, Version, version_at}
use Rattle.group_history.specs.State.{last_id}

abbrev pub last_in : Bytes → Option Version → Option ℕ
last_in client None = None
last_in client (Some v) = Some (last_id v.state client)

-- the client's last id at the commit of a stamp, where there is one
abbrev pub last_at : Contents → ℕ → Bytes → Option ℕ
last_at contents stamp client = last_in client (version_at contents stamp)
