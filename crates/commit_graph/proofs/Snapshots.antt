-- The snapshot at which a commit's chain begins.
use Rattle.std.proofs.Common.{◌≡◌, ℕ, zero, suc, ◌<◌, ◌≤◌, Some, Option, slice_get, refl, ap, sym, subst, ◌∙◌, arith}
use Rattle.std.specs.Prelude.{IsSome}
use Rattle.group_history.specs.declared.nodes.CommitKind.{CommitKind}
use Rattle.group_history.specs.declared.nodes.CommitKind.TheVariants.{Snapshot, Over}
use Rattle.group_history.specs.declared.nodes.CommitChange.{CommitChange}
use Rattle.group_history.specs.declared.nodes.CommitChange.TheVariants.{Local, Closed}
use Rattle.group_history.specs.declared.nodes.Node.TheVariants as node
use Rattle.group_history.specs.State.{State}
use Rattle.group_history.specs.Spelling.{Contents, Version, version_at, snapshot_at, snapshot_of, stepped, map_at}
use Rattle.commit_graph.specs.Inside.Chains.{IsSnapshotAt, IsBasis}
use Rattle.commit_graph.proofs.Spelled.{IsMade, commit-made, commit-at, content-at, spelled_version}

-- a step leaves what the server last sent
base_stepped : (ns : Contents) (k : ℕ) (s : State) (step : CommitChange) → IsBasis ns k s
    → IsBasis ns k (stepped s step)
base_stepped ns k s (Local x) b = record {
  root = b.root;
  content = b.content;
  lies = b.lies;
  cookie = b.cookie;
  confirmed = b.confirmed;
  pulled = b.pulled;
}
base_stepped ns k s Closed b = record {
  root = b.root;
  content = b.content;
  lies = b.lies;
  cookie = b.cookie;
  confirmed = b.confirmed;
  pulled = b.pulled;
}

-- What is found where a chain begins: the snapshot of the state, by no greater stamp.
pub record Begins (ns : Contents) (k j : ℕ) (s : State) : Type 0 where
  pub base : IsBasis ns j s
  pub lies : IsSnapshotAt ns j
  pub low : j ≤ k

begins_by : (ns : Contents) (k j : ℕ) (root : ℕ) (kind : CommitKind ℕ) (v : Version)
    → slice_get ns k ≡ Some (node.Commit (record { root = root; kind = kind })) → version_at ns k ≡ Some v
    → map_at ns root ≡ Some v.read → j ≡ snapshot_of k kind → IsMade ns k kind v
    → ((i : ℕ) (b : Version) (h : ℕ) → i < k → version_at ns i ≡ Some b → snapshot_at ns i ≡ Some h
    → Begins ns i h b.state) → Begins ns k j v.state
begins_by ns k j root (Snapshot sn) v is h read at made below =
    subst (λ (i : ℕ). Begins ns k i v.state) (sym at) (record {
      base = record {
        root = root;
        content = sn;
        lies = is;
        cookie = sym (ap (λ (s : State). s.cookie) made);
        confirmed = sym (ap (λ (s : State). s.confirmed) made);
        pulled = read ∙ ap Some (sym (ap (λ (s : State). s.pulled) made));
      };
      lies = (subst (λ (o : Option Version). IsSome o) (sym h) refl, (root, sn, is));
      low = omega arith;
    })
begins_by ns k j root (Over o) v is h read at made below =
    let b = below o.basis made.0 o.snapshot made.1 made.2 made.3 in
    subst (λ (i : ℕ). Begins ns k i v.state) (sym at) (record {
      base = subst (λ (s : State). IsBasis ns o.snapshot s) (sym made.5)
          (base_stepped ns o.snapshot made.0.state o.step b.base);
      lies = b.lies;
      low = omega (arith, b.low, made.1);
    })

begins_from : (n : ℕ) (ns : Contents) (k : ℕ) (v : Version) (j : ℕ) → k < n → version_at ns k ≡ Some v
    → snapshot_at ns k ≡ Some j → Begins ns k j v.state
begins_from zero ns k v j low h s = absurd (omega (arith, low))
begins_from (suc n) ns k v j low h s =
    let w = spelled_version ns k v h in
    let d = content-at ns k _ w.1 in
    let c = commit-at ns k d.0 v d.1 h in
    let is : slice_get ns k ≡ Some (node.Commit c.0) = d.1 ∙ ap Some c.1 in
    let m = commit-made ns k c.0 v is h in
    let at : j ≡ snapshot_of k c.0.kind = (let e : Some j ≡ Some (snapshot_of k c.0.kind) = sym s ∙ m.2 in cc e) in
    begins_by ns k j c.0.root c.0.kind v is h m.1 at m.3
    (λ i b h low' at spells. begins_from n ns i b h (omega (arith, low, low')) at spells)

pub begins : (ns : Contents) (k : ℕ) (v : Version) (j : ℕ) → version_at ns k ≡ Some v → snapshot_at ns k ≡ Some j
    → Begins ns k j v.state
begins ns k v j h s = begins_from (suc k) ns k v j (omega arith) h s
