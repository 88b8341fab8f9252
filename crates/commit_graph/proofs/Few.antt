-- How much is pending at a commit, and how large ids are there.
use Rattle.std.proofs.Common.{◌≡◌, ℕ, zero, suc, ◌+◌, ◌<◌, ◌≤◌, ◌^◌, [], ◌∷◌, length, Some, ap, arith}
use Rattle.std.proofs.Common.{length-append}
use Rattle.group_history.specs.declared.nodes.CommitKind.{CommitKind}
use Rattle.group_history.specs.declared.nodes.CommitKind.TheVariants.{Snapshot, Over}
use Rattle.group_history.specs.declared.nodes.CommitChange.{CommitChange}
use Rattle.group_history.specs.declared.nodes.CommitChange.TheVariants.{Local, Closed}
use Rattle.group_history.specs.declared.refs.Ref.{Ref}
use Rattle.group_history.specs.Ids.{IdsFollow}
use Rattle.group_history.specs.Map.{Bytes}
use Rattle.group_history.specs.Refs.{stamp_of, stamps}
use Rattle.group_history.specs.Spelling.{Contents, Version, version_at, stepped}
use Rattle.group_history.specs.State.{State, last_id}
use Rattle.group_history.proofs.IdLemmas.{last_id-≤}
use Rattle.group_history.proofs.Spellings.{version-content}
use Rattle.commit_graph.proofs.Spelled.{IsMade, commit-made}

-- each pending mutation has a commit of its own
few_over : (s : State) (step : CommitChange) → length (stepped s step).pending ≤ length s.pending + 1
few_over s (Local x) = omega (arith, length-append s.pending (x ∷ []))
few_over s Closed = omega arith

few_at : (ns : Contents) (k : ℕ) (v : Version) (kind : CommitKind ℕ) → IsMade ns k kind v
    → ((j : ℕ) (w : Version) → j < k → version_at ns j ≡ Some w → length w.state.pending ≤ j)
    → length v.state.pending ≤ k
few_at ns k v (Snapshot s) made below =
    let none : length v.state.pending ≡ 0 = ap (λ (w : State). length w.pending) made in
    omega (arith, none)
few_at ns k v (Over o) made below =
    let same : length v.state.pending ≡ length (stepped made.0.state o.step).pending = ap
    (λ (w : State). length w.pending) made.5 in
    let low = below o.basis made.0 made.1 made.2 in
    let less = made.1 in
    let more = few_over made.0.state o.step in
    omega (arith, same, more, low, less)

few_below : (n : ℕ) (ns : Contents) (k : ℕ) (v : Version) → k < n → version_at ns k ≡ Some v
    → length v.state.pending ≤ k
few_below zero ns k v l h = absurd (omega arith)
few_below (suc n) ns k v l h = let c = version-content ns k v h in
    few_at ns k v c.0.kind (commit-made ns k c.0 v c.2 h).3 (λ j w lt g. few_below n ns j w (omega (arith, l, lt)) g)

pending-few : (ns : Contents) (k : ℕ) (v : Version) → version_at ns k ≡ Some v → length v.state.pending ≤ k
pending-few ns k v h = few_below (suc k) ns k v (omega arith) h

-- a stamp is below their number
pub stamp-low : (r : Ref) → r.bits < 2 ^ 64 → stamp_of r < stamps
stamp-low r h = omega (arith, h)

-- so a client's last id at a commit is far from the last number
pub last_id-small : (ns : Contents) (at : Ref) (client : Bytes) (v : Version) → stamp_of at < stamps
    → version_at ns (stamp_of at) ≡ Some v → IdsFollow v.state.confirmed v.state.pending
    → last_id v.state client < 2 ^ 53
last_id-small ns at client v small is ids =
    let few = pending-few ns (stamp_of at) v is in
    let low = last_id-≤ v.state.confirmed v.state.pending client ids in
    omega (arith, few, low, small)
