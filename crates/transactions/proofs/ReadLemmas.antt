-- A commit that is read while more is known to be placed.
use Rattle.std.proofs.Common.{◌≡◌, ℕ, Option, Some, None, refl, sym, ap, subst, ◌∙◌}
use Rattle.std.specs.Prelude.{IsSome}
use mathlib.Core.List.{IsPrefix}
use Rattle.group_history.specs.Map.{Entries}
use Rattle.group_history.specs.Spelling.{Contents, Version, version_at, map_at, snapshot_at}
use Rattle.group_history.specs.State.{State, pulled_state}
use Rattle.commit_graph.specs.Inside.Chains.{snapshot_content}
use Rattle.commit_graph.proofs.Snapshots.{begins}
use Rattle.commit_graph.proofs.Spelled.{version-grown, map-grown, commit-made}
use Rattle.map_chunks.specs.Shown.{chunk_rows}
use Rattle.map_chunks.proofs.TreeLemmas.{MapOf, map_at-rows, map_is}
use Rattle.transactions.specs.Reads.{version_or, read_version, pulled_version, IsRead}

pub some_version : (o : Option Version) → IsSome o → o ≡ Some (version_or o)
some_version None h = absurd (cc h)
some_version (Some v) h = refl

-- the version stays
pub version-same : (old new : Contents) (head root : ℕ) → IsPrefix old new → IsRead old head root
    → read_version new head ≡ read_version old head
version-same old new head root p r = ap version_or (version-grown old new head (read_version old head) p r.version)

-- and so does what is kept
pub read-kept : (old new : Contents) (head root : ℕ) → IsPrefix old new → IsRead old head root → IsRead new head root
read-kept old new head root p r =
    let same = version-same old new head root p r in
    record {
      version = version-grown old new head (read_version old head) p r.version ∙ ap Some (sym same);
      map = map-grown old new root (read_version old head).read p r.map ∙ ap (λ (v : Version). Some v.read) (sym same);
    }

-- a commit and its root that were just read
pub read-opened : (old new : Contents) (head root : ℕ) → IsPrefix old new → IsSome (version_at old head)
    → ((v : Version) → version_at old head ≡ Some v → map_at new root ≡ Some v.read) → IsRead new head root
read-opened old new head root p h at =
    let v = read_version old head in
    let is = some_version (version_at old head) h in
    let later = version-grown old new head v p is in
    let same : read_version new head ≡ v = ap version_or later in
    record { version = later ∙ ap Some (sym same); map = at v is ∙ ap (λ (w : Version). Some w.read) (sym same) }

pub read-version : (old new : Contents) (head : ℕ) (v : Version) → IsPrefix old new → version_at old head ≡ Some v
    → read_version new head ≡ v
read-version old new head v p h = ap version_or (version-grown old new head v p h)

-- a commit and its root that are known
pub read-is : (cs : Contents) (head root : ℕ) (v : Version) → version_at cs head ≡ Some v → map_at cs root ≡ Some v.read
    → IsRead cs head root
read-is cs head root v is at =
    let same : read_version cs head ≡ v = ap version_or is in
    record { version = is ∙ ap Some (sym same); map = at ∙ ap (λ (w : Version). Some w.read) (sym same) }

-- the rows of the root's chunk are the map
pub read_rows : (cs : Contents) (head root : ℕ) → IsRead cs head root
    → MapOf (chunk_rows cs root) (read_version cs head).read
read_rows cs head root r = map_is (chunk_rows cs root) (read_version cs head).read (sym (map_at-rows cs root) ∙ r.map)

-- WHAT THE SERVER LAST SENT

-- a version of this map and of the state of a snapshot over it
snapped : (w v : Version) → w.read ≡ v.state.pulled → w.state ≡ pulled_state w.read v.state.cookie v.state.confirmed
    → w ≡ pulled_version v
snapped w v read state =
    let both : w.state ≡ pulled_state v.state.pulled v.state.cookie v.state.confirmed =
    state ∙ ap (λ (m : Entries). pulled_state m v.state.cookie v.state.confirmed) read in
    ap (λ (s : State). let r : Version = record { state = s; read = w.read } in r) both
    ∙ ap (λ (m : Entries). let r : Version = record {
      state = pulled_state v.state.pulled v.state.cookie v.state.confirmed;
      read = m;
    } in r) read

-- the snapshot at which a commit's chain begins spells the commit's version without what is pending
pub snapshot-version : (cs : Contents) (head at : ℕ) (v : Version) → version_at cs head ≡ Some v
    → snapshot_at cs head ≡ Some at → version_at cs at ≡ Some (pulled_version v)
snapshot-version cs head at v is from =
    let b = begins cs head v at is from in
    let w = version_or (version_at cs at) in
    let here = some_version (version_at cs at) b.lies.0 in
    let m = commit-made cs at (snapshot_content b.base.root b.base.content) w b.base.lies here in
    let e : Some w.read ≡ Some v.state.pulled = sym m.1 ∙ b.base.pulled in
    let read : w.read ≡ v.state.pulled = cc e in
    let state : w.state ≡ pulled_state w.read v.state.cookie v.state.confirmed = m.3
    ∙ ap (λ c. pulled_state w.read c b.base.content.confirmed) b.base.cookie
    ∙ ap (λ i. pulled_state w.read v.state.cookie i) b.base.confirmed in
    here ∙ ap Some (snapped w v read state)

-- and so it does of a commit that is read, after more is known
pub snapshot-read : (old new : Contents) (head root at : ℕ) → IsPrefix old new → IsRead old head root
    → snapshot_at new head ≡ Some at → version_at new at ≡ Some (pulled_version (read_version old head))
snapshot-read old new head root at p r from =
    snapshot-version new head at (read_version old head)
    (version-grown old new head (read_version old head) p r.version) from

pub snapshot-known : (old new : Contents) (head root at : ℕ) → IsPrefix old new → IsRead old head root
    → snapshot_at new head ≡ Some at → IsSome (version_at new at)
snapshot-known old new head root at p r from =
    subst (λ (o : Option Version). IsSome o) (sym (snapshot-read old new head root at p r from)) refl
