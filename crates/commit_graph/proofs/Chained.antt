-- What the looks along a chain tell of a commit's state.
use Rattle.std.proofs.Common.{◌≡◌, ℕ, suc, ◌<◌, List, [], ◌++◌, reverse, Some, None, Option, slice_get, refl, ap, sym}
use Rattle.std.proofs.Common.{subst, ◌∙◌, arith, append_assoc, true, false, cond, nat_lt}
use Rattle.std.specs.Prelude.{IsSome}
use Rattle.std.proofs.lemmas.Bool.{ltb-false, ltb-true}
use Rattle.std.proofs.lemmas.List.{append-nil}
use mathlib.Core.List.{IsPrefix, reverse-append}
use Rattle.group_history.specs.declared.nodes.Commit.{Commit}
use Rattle.group_history.specs.declared.nodes.CommitKind.{CommitKind}
use Rattle.group_history.specs.declared.nodes.CommitKind.TheVariants.{Snapshot, Over}
use Rattle.group_history.specs.declared.nodes.Snapshot.{Snapshot as Snapped}
use Rattle.group_history.specs.declared.nodes.CommitChange.{CommitChange}
use Rattle.group_history.specs.declared.nodes.CommitChange.TheVariants.{Local, Closed}
use Rattle.group_history.specs.declared.nodes.Node.TheVariants as node
use Rattle.group_history.specs.declared.mutations.MutationFields.{MutationFields as Mutation}
use Rattle.group_history.specs.declared.refs.Ref.{Ref}
use Rattle.group_history.specs.Map.{Bytes}
use Rattle.group_history.specs.Refs.{stamp_of}
use Rattle.group_history.specs.Naming.{renamed_kind, commit_content}
use Rattle.group_history.specs.Ids.{AreConsecutive, IdsFollow}
use Rattle.group_history.specs.State.{State, Ids, confirmed_id, ids_of, last_id}
use Rattle.group_history.specs.Spelling.{Contents, Version, version_at, snapshot_at, snapshot_of, stepped, map_at}
use Rattle.group_history.specs.Spelling.{tells_right}
use Rattle.group_history.specs.Cookies.{Cookie}
use Rattle.group_history.proofs.Lists.{get_more, prefix_trans}
use Rattle.group_history.proofs.Telling.{last_ids-last, told_right}
use Rattle.commit_graph.specs.declared.chains.Base.{Base}
use Rattle.commit_graph.specs.declared.chains.Link.{Link}
use Rattle.commit_graph.specs.LastIds.{last_in, last_at}
use Rattle.commit_graph.specs.Chains.{IsBaseOf}
use Rattle.commit_graph.specs.Inside.Chains.{LiesAt, added_by, listed, link_of, link_named}
use Rattle.commit_graph.specs.Inside.Chains.{top_of, snapshot_named, closes_group, closes, id_alone, own_id, id_named}
use Rattle.commit_graph.specs.Inside.Chains.{IsSnapshot, IsSnapshotAt, HasCookie, cookie_in, HasBase, base_in}
use Rattle.commit_graph.specs.Inside.Chains.{snapshot_content, IsBasis, own_or_told, next_of, next_told, said_named}
use Rattle.commit_graph.proofs.Spelled.{IsMade, commit-made, content-at, spelled_version, version-grown, map-grown}
use Rattle.commit_graph.proofs.LastIds.{newest_id}

pub some_version : (ns : Contents) (k : ℕ) → IsSome (version_at ns k) → (v : Version) × (version_at ns k ≡ Some v)
some_version ns k h = of_some (version_at ns k) h
  where
    of_some : (o : Option Version) → IsSome o → (v : Version) × (o ≡ Some v)
    of_some None h = absurd (cc h)
    of_some (Some v) h = (v, refl)

pub version_stays : (ns more : Contents) (k : ℕ) → IsPrefix ns more → IsSome (version_at ns k)
    → IsSome (version_at more k)
version_stays ns more k pre h = let v = some_version ns k h in
    subst (λ (o : Option Version). IsSome o) (sym (version-grown ns more k v.0 pre v.1)) refl

pub get_stays : {A : Type 0} (xs ys : List A) (k : ℕ) (x : A) → IsPrefix xs ys → slice_get xs k ≡ Some x
    → slice_get ys k ≡ Some x
get_stays xs ys k x pre h = subst (λ (w : List _). slice_get w k ≡ Some x) pre.1 (get_more xs pre.0 k x h)

-- what lies where a commit of this root and kind was placed
abbrev pub LiesSo : Contents → ℕ → Ref → CommitKind Ref → Type 0
LiesSo ns k root kind = slice_get ns k ≡ Some
    (node.Commit (record { root = stamp_of root; kind = renamed_kind stamp_of kind }))

-- what lies where a commit with all below it lay, lay there
pub lies_was : (ns more : Contents) (k : ℕ) (c : Commit Ref) → IsSome (version_at ns k) → IsPrefix ns more
    → LiesAt more k c → LiesAt ns k c
lies_was ns more k c h pre lies =
    let v = some_version ns k h in
    let d = content-at ns k _ (spelled_version ns k v.0 v.1).1 in
    d.1 ∙ (sym (get_stays ns more k d.0 pre d.1) ∙ lies)

-- what is shown where a snapshot lies is one
snapshot_only : (kind : CommitKind Ref) (s : Snapped) → Snapshot s ≡ renamed_kind stamp_of kind
    → (t : Snapped) × (kind ≡ Snapshot t)
snapshot_only (Snapshot t) s e = (t, refl)
snapshot_only (Over o) s e = absurd (cc e)

pub shown_snapshot : (ns : Contents) (k : ℕ) (c : Commit Ref) → IsSnapshotAt ns k → LiesAt ns k c → IsSnapshot c
shown_snapshot ns k c at lies =
    let e : Some (node.Commit (snapshot_content at.1.0 at.1.1)) ≡ Some (commit_content c) = sym at.1.2 ∙ lies in
    let f : snapshot_content at.1.0 at.1.1
    ≡ record { root = stamp_of c.root; kind = renamed_kind stamp_of c.kind } = cc e in
    snapshot_only c.kind at.1.1 (ap (λ (w : Commit ℕ). w.kind) f)

-- While a chain is gone down from a head: what is pending at the head is what is pending at the commit at hand and then
-- the mutations met, the newest first.
pub record IsDescent (first ns : Contents) (head at : ℕ) (met : List Mutation) : Type 0 where
  pub version : Version
  pub whole : version_at first head ≡ Some version
  pub left : Version
  pub here : version_at ns at ≡ Some left
  pub pending : version.state.pending ≡ left.state.pending ++ reverse met
  pub grown : IsPrefix first ns

pub descent_begins : (first : Contents) (head : ℕ) → IsSome (version_at first head) → IsPrefix first first
    → IsDescent first first head head []
descent_begins first head h pre = let v = some_version first head h in
    record {
      version = v.0;
      whole = v.1;
      left = v.0;
      here = v.1;
      pending = sym (append-nil v.0.state.pending);
      grown = pre;
    }

stepped_pending : (s : State) (step : CommitChange) → (stepped s step).pending ≡ s.pending ++ listed (added_by step)
stepped_pending s (Local x) = refl
stepped_pending s Closed = sym (append-nil s.pending)

pub reverse_listed : {A : Type 0} (o : Option A) → reverse (listed o) ≡ listed o
reverse_listed None = refl
reverse_listed (Some x) = refl

longer : (xs met : List Mutation) (o : Option Mutation)
    → (xs ++ listed o) ++ reverse met ≡ xs ++ reverse (met ++ listed o)
longer xs met o =
    append_assoc xs (listed o) (reverse met)
    ∙ ap (λ w. xs ++ w) (ap (λ w. w ++ reverse met) (sym (reverse_listed o)) ∙ sym (reverse-append met (listed o)))

descent_over : (first ns more : Contents) (head at : ℕ) (met : List Mutation) (root : Ref) (kind : CommitKind Ref)
    (l : Link)
    → IsDescent first ns head at met → IsPrefix ns more → LiesSo more at root kind → link_named kind ≡ Some l
    → (stamp_of l.basis < at) × IsDescent first more head (stamp_of l.basis) (met ++ listed l.added)
descent_over first ns more head at met root (Snapshot s) l d pre lies is = absurd (cc is)
descent_over first ns more head at met root (Over o) l d pre lies is =
    let m = commit-made more at _ d.left lies (version-grown ns more at d.left pre d.here) in
    let b = m.3 in
    let e : (let r : Link = record { added = added_by o.step; basis = o.basis } in r) ≡ l = cc is in
    subst (λ (l : Link). (stamp_of l.basis < at)
    × IsDescent first more head (stamp_of l.basis) (met ++ listed l.added)) e (
      b.1,
      record {
        version = d.version;
        whole = d.whole;
        left = b.0;
        here = b.2;
        pending = d.pending ∙ ap (λ (w : List Mutation). w ++ reverse met)
            (ap (λ (s : State). s.pending) b.5 ∙ stepped_pending b.0.state o.step) ∙ longer b.0.state.pending met
            (added_by o.step);
        grown = prefix_trans first ns more d.grown pre;
      },
    )

-- one commit down
pub descent_step : (first ns more : Contents) (head at : ℕ) (met : List Mutation) (c : Commit Ref) (l : Link)
    → IsDescent first ns head at met → IsPrefix ns more → LiesAt more at c → link_of c ≡ Some l
    → (stamp_of l.basis < at) × IsDescent first more head (stamp_of l.basis) (met ++ listed l.added)
descent_step first ns more head at met c l d pre lies is = descent_over first ns more head at met c.root
    c.kind l d pre lies is

pub none_from : {A : Type 0} (o : Option A) → ((x : A) → o ≡ Some x → ⊥) → o ≡ None
none_from None h = refl
none_from (Some x) h = absurd (h x refl)

-- what is no link is a snapshot
no_link_named : (kind : CommitKind Ref) → link_named kind ≡ None → (s : Snapped) × (kind ≡ Snapshot s)
no_link_named (Snapshot s) h = (s, refl)
no_link_named (Over o) h = absurd (cc h)

pub no_link : (c : Commit Ref) → link_of c ≡ None → IsSnapshot c
no_link c h = no_link_named c.kind h

descent_bottom : (first ns more : Contents) (head at : ℕ) (met : List Mutation) (root : Ref) (kind : CommitKind Ref)
    → IsDescent first ns head at met → IsPrefix ns more → LiesSo more at root kind → (s : Snapped) × (kind ≡ Snapshot s)
    → (v : Version) → version_at first head ≡ Some v → reverse met ≡ v.state.pending
descent_bottom first ns more head at met root (Over o) d pre lies is v h = absurd (cc (is.1))
descent_bottom first ns more head at met root (Snapshot s) d pre lies is v h =
    let m = commit-made more at _ d.left lies (version-grown ns more at d.left pre d.here) in
    let same : d.version ≡ v = (let e : Some d.version ≡ Some v = sym d.whole ∙ h in cc e) in
    sym (ap (λ (w : Version). w.state.pending) (sym same) ∙ d.pending ∙ ap
    (λ (w : State). w.pending ++ reverse met) m.3)

-- at the snapshot
pub descent_ends : (first ns more : Contents) (head at : ℕ) (met : List Mutation) (c : Commit Ref)
    → IsDescent first ns head at met → IsPrefix ns more → LiesAt more at c → IsSnapshot c
    → (v : Version) → version_at first head ≡ Some v → reverse met ≡ v.state.pending
descent_ends first ns more head at met c d pre lies is = descent_bottom first ns more head at met c.root
    c.kind d pre lies is

pub root_read : (first more : Contents) (head : ℕ) (c : Commit Ref) (v : Version) → version_at first head ≡ Some v
    → IsPrefix first more → LiesAt more head c → map_at more (stamp_of c.root) ≡ Some v.read
root_read first more head c v h pre lies = (commit-made more head _ v lies (version-grown first more head v pre h)).1

-- WHAT A COMMIT TELLS OF ITS CHAIN

top_stamp : (at : Ref) (kind : CommitKind Ref)
    → stamp_of (snapshot_named at kind) ≡ snapshot_of (stamp_of at) (renamed_kind stamp_of kind)
top_stamp at (Snapshot s) = refl
top_stamp at (Over o) = refl

stepped_closed : (s : State) (step : CommitChange) → s.closed ≡ false → closes step ≡ (stepped s step).closed
stepped_closed s (Local x) is_open = sym is_open
stepped_closed s Closed is_open = refl

top_closed : (ns : Contents) (k : ℕ) (kind : CommitKind Ref) (v : Version) → IsMade ns k (renamed_kind stamp_of kind) v
    → closes_group kind ≡ v.state.closed
top_closed ns k (Snapshot s) v made = sym (ap (λ (w : State). w.closed) made)
top_closed ns k (Over o) v made = stepped_closed made.0.state o.step made.4 ∙ sym (ap (λ (w : State). w.closed) made.5)

pub top_found : (first more : Contents) (head : Ref) (c : Commit Ref) (v : Version)
    → version_at first (stamp_of head) ≡ Some v → IsPrefix first more → LiesAt more (stamp_of head) c
    → ((top_of head c).closed ≡ v.state.closed) × (map_at more (stamp_of (top_of head c).root) ≡ Some v.read)
    × (snapshot_at more (stamp_of head) ≡ Some (stamp_of (top_of head c).snapshot))
top_found first more head c v h pre lies =
    let m = commit-made more (stamp_of head) _ v lies (version-grown first more (stamp_of head) v pre h) in
    (top_closed more (stamp_of head) c.kind v m.3, m.1, m.2 ∙ ap Some (sym (top_stamp head c.kind)))

-- While a client's newest commit is looked for: its last id is that of the commit at hand, where its ids follow.
abbrev pub IsSearch : Contents → Bytes → ℕ → Option Ref → Type 0
IsSearch ns client last None = 0 ≡ last
IsSearch ns client last (Some at) = (b : Version) × (version_at ns (stamp_of at) ≡ Some b)
    × AreConsecutive (confirmed_id b.state.confirmed client) (ids_of client b.state.pending)
    × (last_id b.state client ≡ last)

-- how far the chain can still go
abbrev pub ahead : Option Ref → ℕ
ahead None = 0
ahead (Some at) = suc (stamp_of at)

pub search_begins : (ns : Contents) (at : Ref) (client : Bytes) (v : Version) → version_at ns (stamp_of at) ≡ Some v
    → IdsFollow v.state.confirmed v.state.pending → IsSearch ns client (last_id v.state client) (Some at)
search_begins ns at client v h ids = (v, h, ids.pending_ids client, refl)

-- a commit over a basis, by the id of its own mutation
told_over : (ns : Contents) (client : Bytes) (own last : ℕ) (basis : Ref) (at : ℕ) (told : Option Ids) (b : Version)
    → stamp_of basis < at → version_at ns (stamp_of basis) ≡ Some b → tells_right told b.state ≡ true
    → (0 < own → own ≡ last)
    → (own ≡ 0 → AreConsecutive (confirmed_id b.state.confirmed client) (ids_of client b.state.pending)
    × (last_id b.state client ≡ last))
    → (ahead (next_told basis told) < suc at) × (0 < own_or_told client own told → own_or_told client own told ≡ last)
    × (own_or_told client own told ≡ 0 → IsSearch ns client last (next_told basis told))
told_over ns client own last basis at None b low here right newer older =
    (omega (arith, low), newer, λ h. let u = older h in (b, here, u.0, u.1))
told_over ns client own last basis at (Some ids) b low here right newer older =
    let is : own_or_told client own (Some ids) ≡ last = elim (nat_lt 0 own) as (λ t. nat_lt 0 own ≡ t
    → cond t own (confirmed_id ids client) ≡ last) [
      | true ↦ λ e. newer (ltb-true 0 own e)
      | false ↦ λ e.
          let none = ltb-false 0 own e in
          let u = older (omega (arith, none)) in
          ap (λ (i : Ids). confirmed_id i client) (told_right b.state (Some ids) ids right refl)
          ∙ last_ids-last b.state client u.0 ∙ u.1
    ] refl in
    (omega arith, λ h. is, λ h. sym h ∙ is)

search_over : (ns more : Contents) (client : Bytes) (last : ℕ) (at : Ref) (root : Ref) (kind : CommitKind Ref)
    → IsSearch ns client last (Some at) → IsPrefix ns more → LiesSo more (stamp_of at) root kind
    → (ahead (said_named kind).next < suc (stamp_of at)) × (0 < id_named client kind → id_named client kind ≡ last)
    × (id_named client kind ≡ 0 → IsSearch more client last (said_named kind).next)
search_over ns more client last at root (Snapshot s) d pre lies =
    let m = commit-made more (stamp_of at) _ d.0 lies (version-grown ns more (stamp_of at) d.0 pre d.1) in
    let is : confirmed_id s.confirmed client ≡ last = ap (λ (w : State). last_id w client) (sym m.3) ∙ d.3 in
    (omega arith, λ h. is, λ h. sym h ∙ is)
search_over ns more client last at root (Over o) d pre lies =
    let m = commit-made more (stamp_of at) _ d.0 lies (version-grown ns more (stamp_of at) d.0 pre d.1) in
    let b = m.3 in
    let ids : AreConsecutive (confirmed_id (stepped b.0.state o.step).confirmed client)
    (ids_of client (stepped b.0.state o.step).pending) =
    subst (λ (w : State). AreConsecutive (confirmed_id w.confirmed client) (ids_of client w.pending)) b.5 d.2 in
    let is : last_id (stepped b.0.state o.step) client ≡ last = ap (λ (w : State). last_id w client) (sym b.5) ∙ d.3 in
    let t = by_step b.0.state o.step ids in
    told_over more client (id_alone client o.step) last o.basis (stamp_of at) o.told b.0 b.1 b.2 b.6
    (λ h. sym (t.0 h) ∙ is) (λ h. let u = t.1 h in (u.0, sym u.1 ∙ is))
  where
    by_step : (s : State) (step : CommitChange) → AreConsecutive (confirmed_id (stepped s step).confirmed client)
        (ids_of client (stepped s step).pending)
        → (0 < id_alone client step → last_id (stepped s step) client ≡ id_alone client step)
        × (id_alone client step ≡ 0 → AreConsecutive (confirmed_id s.confirmed client) (ids_of client s.pending)
        × (last_id (stepped s step) client ≡ last_id s client))
    by_step s (Local x) ids = newest_id s x client ids
    by_step s Closed ids = (λ h. absurd (omega (arith, h)), λ h. (ids, refl))

-- A commit that knows an id of the client has its last one; below one that knows none the search goes on.
pub search_step : (ns more : Contents) (client : Bytes) (last : ℕ) (at : Ref) (c : Commit Ref)
    → IsSearch ns client last (Some at) → IsPrefix ns more → LiesAt more (stamp_of at) c
    → (ahead (next_of c) < suc (stamp_of at)) × (0 < own_id client c → own_id client c ≡ last)
    × (own_id client c ≡ 0 → IsSearch more client last (next_of c))
search_step ns more client last at c d pre lies = search_over ns more client last at c.root c.kind d pre lies

last_in-some : (client : Bytes) (o : Option Version) (id : ℕ) → last_in client o ≡ Some id
    → (v : Version) × (o ≡ Some v) × (last_id v.state client ≡ id)
last_in-some client None id h = absurd (cc h)
last_in-some client (Some v) id h = (v, refl, (let e : Some (last_id v.state client) ≡ Some id = h in cc e))

-- at a commit where the last id was found before, it is that one
pub search_ends : (first ns : Contents) (client : Bytes) (last : ℕ) (at : Ref) (k id : ℕ)
    → IsSearch ns client last (Some at) → IsPrefix first ns → k ≡ stamp_of at
    → last_at first k client ≡ Some id → id ≡ last
search_ends first ns client last at k id d pre same was =
    let f = last_in-some client (version_at first k) id was in
    let here : version_at ns (stamp_of at)
    ≡ Some f.0 = subst (λ (n : ℕ). version_at ns n ≡ Some f.0) same (version-grown first ns k f.0 pre f.1) in
    let one : f.0 ≡ d.0 = (let e : Some f.0 ≡ Some d.0 = sym here ∙ d.1 in cc e) in
    sym f.2 ∙ ap (λ (v : Version). last_id v.state client) one ∙ d.3

-- A SNAPSHOT THAT IS SHOWN AGAIN HAS WHAT ITS STATE HAS FROM THE SERVER

same_content : (ns more : Contents) (k : ℕ) (root : Ref) (s : Snapped) (t : State) (b : IsBasis ns k t)
    → IsPrefix ns more → LiesSo more k root (Snapshot s) → (b.root ≡ stamp_of root) × (b.content ≡ s)
same_content ns more k root s t b pre lies =
    let e : Some (node.Commit (snapshot_content b.root b.content))
    ≡ Some (node.Commit (snapshot_content (stamp_of root) s)) = sym
    (get_stays ns more k (node.Commit (snapshot_content b.root b.content)) pre b.lies) ∙ lies in
    let f : snapshot_content b.root b.content ≡ snapshot_content (stamp_of root) s = cc e in
    let k : (let w : CommitKind ℕ = Snapshot b.content in w) ≡ Snapshot s = ap (λ (w : Commit ℕ). w.kind) f in
    (ap (λ (w : Commit ℕ). w.root) f, cc k)

has_cookie : (ns more : Contents) (k : ℕ) (root : Ref) (kind : CommitKind Ref) (t : State) (cookie : Cookie)
    → IsBasis ns k t
    → IsPrefix ns more → LiesSo more k root kind → cookie_in kind cookie → cookie ≡ t.cookie
has_cookie ns more k root (Over o) t cookie b pre lies has = absurd has
has_cookie ns more k root (Snapshot s) t cookie b pre lies has =
    has ∙ (sym (ap (λ (w : Snapped). w.cookie) (same_content ns more k root s t b pre lies).1) ∙ b.cookie)

pub base_cookie : (ns more : Contents) (k : ℕ) (c : Commit Ref) (s : State) (cookie : Cookie) → IsBasis ns k s
    → IsPrefix ns more → LiesAt more k c → HasCookie c cookie → cookie ≡ s.cookie
base_cookie ns more k c s cookie b pre lies has = has_cookie ns more k c.root c.kind s cookie b pre lies has

has_base : (ns more : Contents) (k : ℕ) (root : Ref) (kind : CommitKind Ref) (t : State) (base : Base) → IsBasis ns k t
    → IsPrefix ns more → LiesSo more k root kind → base_in root kind base → IsBaseOf more t base
has_base ns more k root (Over o) t base b pre lies has = absurd has
has_base ns more k root (Snapshot s) t base b pre lies has =
    let same = same_content ns more k root s t b pre lies in (
      ap (λ (w : Base). w.cookie) has ∙ (sym (ap (λ (w : Snapped). w.cookie) same.1) ∙ b.cookie),
      ap (λ (w : Base). w.confirmed) has ∙ (sym (ap (λ (w : Snapped). w.confirmed) same.1) ∙ b.confirmed),
      ap (λ (w : Base). map_at more (stamp_of w.pulled)) has ∙
          (ap (map_at more) (sym same.0) ∙ map-grown ns more b.root t.pulled pre b.pulled),
    )

pub base_whole : (ns more : Contents) (k : ℕ) (c : Commit Ref) (s : State) (base : Base) → IsBasis ns k s
    → IsPrefix ns more → LiesAt more k c → HasBase c base → IsBaseOf more s base
base_whole ns more k c s base b pre lies has = has_base ns more k c.root c.kind s base b pre lies has
