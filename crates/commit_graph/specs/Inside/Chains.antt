-- What one commit tells of its chain, which leads from a head by the bases to a snapshot.
use Rattle.std.specs.Prelude.{◌≡◌, ℕ, Bool, true, false, List, [], ◌∷◌, if◌then◌else◌, slice_get, Some, None, Option}
use Rattle.std.specs.Prelude.{IsSome, nat_lt, option_map}
use Rattle.group_history.specs.declared.nodes.Commit.{Commit}
use Rattle.group_history.specs.declared.nodes.CommitKind.{CommitKind}
use Rattle.group_history.specs.declared.nodes.CommitKind.TheVariants.{Snapshot, Over}
use Rattle.group_history.specs.declared.nodes.CommitChange.{CommitChange}
use Rattle.group_history.specs.declared.nodes.CommitChange.TheVariants.{Local, Closed}
use Rattle.group_history.specs.declared.nodes.Snapshot.{Snapshot as Snapped}
use Rattle.group_history.specs.declared.nodes.Node.TheVariants as node
use Rattle.group_history.specs.declared.mutations.MutationFields.{MutationFields as Mutation}
use Rattle.group_history.specs.declared.refs.Ref.{Ref}
use Rattle.group_history.specs.Map.{Bytes, same_text}
use Rattle.group_history.specs.Cookies.{Cookie}
use Rattle.group_history.specs.Naming.{commit_content, commit_children}
use Rattle.map_chunks.specs.Places.{AreAll}
use Rattle.group_history.specs.State.{State, Ids, confirmed_id}
use Rattle.group_history.specs.Spelling.{Contents, map_at, said_id, version_at}
use Rattle.commit_graph.specs.declared.chains.Base.{Base}
use Rattle.commit_graph.specs.declared.chains.Link.{Link}
use Rattle.commit_graph.specs.declared.chains.SaidIds.{SaidIds}
use Rattle.commit_graph.specs.declared.chains.Top.{Top}

-- a commit lies at a stamp
abbrev pub LiesAt : Contents → ℕ → Commit Ref → Type 0
LiesAt ns k c = slice_get ns k ≡ Some (commit_content c)

-- A commit lies there, and a node may be looked for at each reference that it has.
abbrev pub IsShownAt : (Ref → Type 0) → Contents → ℕ → Commit Ref → Type 0
IsShownAt places ns k c = AreAll places (commit_children c) × LiesAt ns k c

-- the commit before it
abbrev pub basis_named : CommitKind Ref → Option Ref
basis_named (Snapshot s) = None
basis_named (Over o) = Some o.basis

abbrev pub basis_of : Commit Ref → Option Ref
basis_of c = basis_named c.kind

-- the mutation that a step adds to what is pending
abbrev pub added_by : CommitChange → Option Mutation
added_by (Local x) = Some x
added_by Closed = None

abbrev pub listed : {A : Type 0} → Option A → List A
listed None = []
listed (Some x) = x ∷ []

-- a commit over a basis as a link of its chain
abbrev pub link_named : CommitKind Ref → Option Link
link_named (Snapshot s) = None
link_named (Over o) = Some (record { added = added_by o.step; basis = o.basis })

abbrev pub link_of : Commit Ref → Option Link
link_of c = link_named c.kind

-- whether a step closes the group
abbrev pub closes : CommitChange → Bool
closes (Local x) = false
closes Closed = true

-- the snapshot of a commit's chain; a snapshot is the one of its own, by the reference at which it is shown
abbrev pub snapshot_named : Ref → CommitKind Ref → Ref
snapshot_named at (Snapshot s) = at
snapshot_named at (Over o) = o.snapshot

abbrev pub closes_group : CommitKind Ref → Bool
closes_group (Snapshot s) = false
closes_group (Over o) = closes o.step

-- what a commit tells by one look
abbrev pub top_of : Ref → Commit Ref → Top
top_of at c = record { root = c.root; snapshot = snapshot_named at c.kind; closed = closes_group c.kind }

-- The id that a commit alone knows of a client: a snapshot the confirmed one, a local commit its mutation's, if that is
-- the client's, or else the one that it tells.
abbrev pub id_alone : Bytes → CommitChange → ℕ
id_alone client (Local x) = if same_text x.client client then x.id else 0
id_alone client Closed = 0

abbrev pub own_or_told : Bytes → ℕ → Option Ids → ℕ
own_or_told client own None = own
own_or_told client own (Some ids) = if nat_lt 0 own then own else confirmed_id ids client

abbrev pub id_named : Bytes → CommitKind Ref → ℕ
id_named client (Snapshot s) = confirmed_id s.confirmed client
id_named client (Over o) = own_or_told client (id_alone client o.step) o.told

abbrev pub own_id : Bytes → Commit Ref → ℕ
own_id client c = id_named client c.kind

-- where clients' ids are sought next: nowhere behind a snapshot, and nowhere behind a commit that tells all
abbrev pub next_told : Ref → Option Ids → Option Ref
next_told basis None = Some basis
next_told basis (Some ids) = None

-- what a commit says of clients' last ids
abbrev pub said_named : CommitKind Ref → SaidIds
said_named (Snapshot s) = record { said = None; told = Some s.confirmed; next = None }
said_named (Over o) = record {
  said = option_map said_id (added_by o.step);
  told = o.told;
  next = next_told o.basis o.told;
}

abbrev pub said_of : Commit Ref → SaidIds
said_of c = said_named c.kind

abbrev pub next_of : Commit Ref → Option Ref
next_of c = (said_of c).next

abbrev pub IsSnapshot : Commit Ref → Type 0
IsSnapshot c = (s : Snapped) × (c.kind ≡ Snapshot s)

-- what a snapshot has from the server
abbrev pub cookie_in : CommitKind Ref → Cookie → Type 0
cookie_in (Snapshot s) cookie = cookie ≡ s.cookie
cookie_in (Over o) cookie = ⊥

abbrev pub HasCookie : Commit Ref → Cookie → Type 0
HasCookie c cookie = cookie_in c.kind cookie

abbrev pub base_in : Ref → CommitKind Ref → Base → Type 0
base_in root (Snapshot s) base = base ≡ record { cookie = s.cookie; confirmed = s.confirmed; pulled = root }
base_in root (Over o) base = ⊥

abbrev pub HasBase : Commit Ref → Base → Type 0
HasBase c base = base_in c.root c.kind base

-- the content of a snapshot over this root
abbrev pub snapshot_content : ℕ → Snapped → Commit ℕ
snapshot_content root s = record { root = root; kind = Snapshot s }

-- a snapshot with all below it lies at a stamp
abbrev pub IsSnapshotAt : Contents → ℕ → Type 0
IsSnapshotAt ns k = IsSome (version_at ns k)
    × ((root : ℕ) × (s : Snapped) × (slice_get ns k ≡ Some (node.Commit (snapshot_content root s))))

-- The snapshot of a state lies at a stamp: it has the state's cookie and confirmed ids, and its root spells the pulled
-- map.
pub record IsBasis (ns : Contents) (k : ℕ) (s : State) : Type 0 where
  pub root : ℕ
  pub content : Snapped
  pub lies : slice_get ns k ≡ Some (node.Commit (snapshot_content root content))
  pub cookie : content.cookie ≡ s.cookie
  pub confirmed : content.confirmed ≡ s.confirmed
  pub pulled : map_at ns root ≡ Some s.pulled
