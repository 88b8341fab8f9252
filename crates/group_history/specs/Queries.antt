-- What queries answer at a state. They read the view, never the pulled map alone.
-- The pending list, the cookie and a client's last id are read from the state as they stand.
-- Source: Replicache, How It Works, "The Client View"; ReadTransaction, "get", "has", "scan", "isEmpty".
use Rattle.std.specs.Prelude.{Bool, List, Option, length, ◌==◌}
use Rattle.std.specs.FinMap as finite
use Rattle.group_history.specs.declared.scans.Scan.{Scan}
use Rattle.group_history.specs.Map.{Bytes}
use Rattle.group_history.specs.Meaning.{Meanings}
use Rattle.group_history.specs.State.{State, view_of}
use Rattle.group_history.specs.Scans.{rows_of}

-- the value at a key
abbrev pub get_at : Meanings → State → Bytes → Option Bytes
get_at means s key = finite.get (view_of means s) key

-- whether the key is there
abbrev pub has_at : Meanings → State → Bytes → Bool
has_at means s key = finite.contains_key (view_of means s) key

-- the rows of a scan
abbrev pub view_rows : Meanings → State → Scan → List (Bytes × Bytes)
view_rows means s scan = rows_of scan (view_of means s)

-- whether no key is there
abbrev pub is_empty_at : Meanings → State → Bool
is_empty_at means s = length (finite.entries (view_of means s)) == 0
