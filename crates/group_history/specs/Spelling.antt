-- What contents spell together: chunks a map's rows, commits a state and the map that queries read.
-- Source: Replicache, How It Works, "The Client View"; that maps are kept in chunks is this project's own rule.
use Rattle.std.specs.Prelude.{ℕ, ◌+◌, nat_le, ◌==◌, ◌&&◌, Bool, true, false, List, [], ◌∷◌, ◌++◌, map, length, Some}
use Rattle.std.specs.Prelude.{None, Option, option_and_then, option_map, ◌≡◌, if◌then◌else◌}
use Rattle.std.specs.Ordering.{nat_cmp}
use Rattle.std.specs.Cmp.Lexicographic.{slice_cmp, pointwise}
use Rattle.std.specs.FinMap as finite
use Rattle.group_history.specs.declared.nodes.Chunk.{Chunk}
use Rattle.group_history.specs.declared.nodes.Chunk.TheVariants.{Leaf, Inner}
use Rattle.group_history.specs.declared.nodes.Commit.{Commit}
use Rattle.group_history.specs.declared.nodes.CommitKind.{CommitKind}
use Rattle.group_history.specs.declared.nodes.CommitKind.TheVariants.{Snapshot, Over}
use Rattle.group_history.specs.declared.nodes.CommitChange.{CommitChange}
use Rattle.group_history.specs.declared.nodes.CommitChange.TheVariants.{Local, Closed}
use Rattle.group_history.specs.declared.nodes.Node.{Node}
use Rattle.group_history.specs.declared.nodes.Node.TheVariants as node
use Rattle.group_history.specs.declared.mutations.MutationFields.{MutationFields as Mutation}
use Rattle.group_history.specs.declared.responses.Confirmed.{Confirmed}
use Rattle.group_history.specs.Map.{Bytes, Entries, same_text}
use Rattle.group_history.specs.Rows.{Rows}
use Rattle.group_history.specs.State.{State, Ids, pulled_state, view_of}
use Rattle.group_history.specs.Mutating.{after_mutate}
use Rattle.group_history.specs.Pulling.{after_closing, overwritten}
use Rattle.group_history.specs.Folds.{folded, answer}
use Rattle.group_history.specs.Meaning.{Meanings}

-- contents by stamp; each names its children by their stamps
abbrev pub Contents : Type 0
Contents = List (Node ℕ)

-- what a chunk spells: how deep it is, a leaf being 1 deep, and the rows below it
pub record Segment : Type 0 where
  pub depth : ℕ
  pub rows : Rows

-- what a commit spells: its state, and the map that queries read
pub record Version : Type 0 where
  pub state : State
  pub read : Entries

pub data Spelled : Type 0 where
  segment : Segment → Spelled
  -- a version, and the stamp of the snapshot at which its chain begins
  version : Version → ℕ → Spelled

abbrev pub as_segment : Spelled → Option Segment
as_segment (segment s) = Some s
as_segment (version v k) = None

abbrev pub as_version : Spelled → Option Version
as_version (segment s) = None
as_version (version v k) = Some v

abbrev pub as_snapshot : Spelled → Option ℕ
as_snapshot (segment s) = None
as_snapshot (version v k) = Some k

-- what the chunk, or the commit, of a stamp spells
abbrev pub segment_in : List (Option Spelled) → ℕ → Option Segment
segment_in done k = option_and_then as_segment (answer done k)

abbrev pub version_in : List (Option Spelled) → ℕ → Option Version
version_in done k = option_and_then as_version (answer done k)

-- the snapshot at which the chain of a commit begins
abbrev pub snapshot_in : List (Option Spelled) → ℕ → Option ℕ
snapshot_in done k = option_and_then as_snapshot (answer done k)

-- the rows of a chunk, if it is so deep
abbrev pub rows_if : ℕ → Segment → Option Rows
rows_if depth s = if s.depth == depth then Some s.rows else None

abbrev pub rows_in : List (Option Spelled) → ℕ → ℕ → Option Rows
rows_in done depth k = option_and_then (rows_if depth) (segment_in done k)

-- the rows begin with this key
abbrev pub begins_with : Bytes → Rows → Bool
begins_with k [] = false
begins_with k (r ∷ rs) = same_text r.0 k

-- The rows of children one after another, each under its first key.
abbrev pub joined_one : Bytes → Option Rows → Option Rows → Option Rows
joined_one k None more = None
joined_one k (Some rs) None = None
joined_one k (Some rs) (Some more) = if begins_with k rs then Some (rs ++ more) else None

abbrev pub joined_rows : List (Bytes × Option Rows) → Option Rows
joined_rows [] = Some []
joined_rows (e ∷ es) = joined_one e.0 e.1 (joined_rows es)

-- a chunk with these rows below it, if it has at most 16 entries
abbrev pub sized : ℕ → ℕ → Rows → Option Segment
sized entries depth rows = if nat_le entries 16 then Some (record { depth = depth; rows = rows }) else None

-- children of one depth, at least one
abbrev pub inner_in : List (Option Spelled) → List (Bytes × ℕ) → Option Segment
inner_in done [] = None
inner_in done (e ∷ es) = option_and_then (λ s.
    option_and_then (sized (length (e ∷ es)) (s.depth + 1))
    (joined_rows (map (λ x. (x.0, rows_in done s.depth x.1)) (e ∷ es))))
    (segment_in done e.1)

abbrev pub chunk_in : List (Option Spelled) → Chunk ℕ → Option Segment
chunk_in done (Leaf rows) = sized (length rows) 1 rows
chunk_in done (Inner kids) = inner_in done kids

-- the map of a root's rows, whose keys are in strict order
abbrev pub segment_map : Segment → Option Entries
segment_map s = if finite.is_sorted (slice_cmp nat_cmp) s.rows then Some (finite.from_sorted s.rows) else None

abbrev pub map_in : List (Option Spelled) → ℕ → Option Entries
map_in done root = option_and_then segment_map (segment_in done root)

-- what a basis spells, if its chain begins at this snapshot
abbrev pub basis_in : List (Option Spelled) → ℕ → ℕ → Option Version
basis_in done basis snapshot = option_and_then (λ k. if k == snapshot then version_in done basis else None)
    (snapshot_in done basis)

-- the state after what a commit adds to its basis
abbrev pub stepped : State → CommitChange → State
stepped s (Local x) = after_mutate s x
stepped s Closed = after_closing s

-- each client's last id, where ids follow: the confirmed ones, overwritten by those of what is pending
abbrev pub said_id : Mutation → Confirmed
said_id x = record { client = x.client; id = x.id }

abbrev pub last_ids : State → Ids
last_ids s = overwritten s.confirmed (map said_id s.pending)

-- whether they are the same ids of the same clients
abbrev pub same_ids : Ids → Ids → Bool
same_ids is js = pointwise (λ a b. same_text a.0 b.0 && a.1 == b.1) (finite.entries is) (finite.entries js)

-- whether a commit over the state tells each client's last id there, or none
abbrev pub tells_right : Option Ids → State → Bool
tells_right None s = true
tells_right (Some ids) s = same_ids ids (last_ids s)

-- the state after one step more, where no wrong ids are told; a closed one has none
abbrev pub state_over : Option Ids → CommitChange → Version → Option State
state_over told step v =
    if v.state.closed then None else (if tells_right told v.state then Some (stepped v.state step) else None)

-- a snapshot spells a state with nothing pending, a commit over a basis the basis's state after one step more
abbrev pub state_in : List (Option Spelled) → CommitKind ℕ → Entries → Option State
state_in done (Snapshot s) m = Some (pulled_state m s.cookie s.confirmed)
state_in done (Over o) m = option_and_then (state_over o.told o.step) (basis_in done o.basis o.snapshot)

-- a commit spells that state, and the map of its root for queries
abbrev pub commit_in : List (Option Spelled) → Commit ℕ → Option Version
commit_in done c = option_and_then (λ m. option_map (λ s. record { state = s; read = m }) (state_in done c.kind m))
    (map_in done c.root)

-- the snapshot of a commit's chain; a snapshot of this stamp begins one
abbrev pub snapshot_of : ℕ → CommitKind ℕ → ℕ
snapshot_of own (Snapshot s) = own
snapshot_of own (Over o) = o.snapshot

-- what a content spells, by what those before it spell; its stamp is their number
abbrev pub spelled_by : List (Option Spelled) → Node ℕ → Option Spelled
spelled_by done (node.Chunk c) = option_map segment (chunk_in done c)
spelled_by done (node.Commit c) = option_map (λ v. version v (snapshot_of (length done) c.kind)) (commit_in done c)

-- what each stamp spells
abbrev pub spelled : Contents → List (Option Spelled)
spelled contents = folded spelled_by [] contents

abbrev pub segment_at : Contents → ℕ → Option Segment
segment_at contents k = segment_in (spelled contents) k

abbrev pub rows_at : Contents → ℕ → ℕ → Option Rows
rows_at contents depth k = rows_in (spelled contents) depth k

abbrev pub map_at : Contents → ℕ → Option Entries
map_at contents root = map_in (spelled contents) root

abbrev pub version_at : Contents → ℕ → Option Version
version_at contents k = version_in (spelled contents) k

-- the stamp of the snapshot at which the chain of this commit begins
abbrev pub snapshot_at : Contents → ℕ → Option ℕ
snapshot_at contents k = snapshot_in (spelled contents) k

-- the version of a state: queries read the state's view
abbrev pub version_of : Meanings → State → Version
version_of means s = record { state = s; read = view_of means s }

-- the commit of the stamp spells the state, and queries read the state's view there
abbrev pub Spells : Meanings → Contents → ℕ → State → Type 0
Spells means contents stamp s = version_at contents stamp ≡ Some (version_of means s)
