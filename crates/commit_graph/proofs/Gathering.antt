-- While each client's last id at a commit is gathered on the way down its chain.
use Rattle.std.proofs.Common.{◌≡◌, ℕ, suc, ◌<◌, List, [], ◌∷◌, ◌++◌, map, reverse, Some, None, Option, refl, ap, sym}
use Rattle.std.proofs.Common.{◌∙◌, subst, arith, true, T, is_none}
use Rattle.std.specs.Prelude.{option_map}
use Rattle.std.specs.FinMap as finite
use Rattle.std.proofs.lemmas.List.{append-nil, map-append}
use mathlib.Core.List.{IsPrefix, reverse-append}
use Rattle.group_history.specs.declared.nodes.Commit.{Commit}
use Rattle.group_history.specs.declared.nodes.CommitChange.{CommitChange}
use Rattle.group_history.specs.declared.nodes.CommitChange.TheVariants.{Local, Closed}
use Rattle.group_history.specs.declared.nodes.CommitKind.{CommitKind}
use Rattle.group_history.specs.declared.nodes.CommitKind.TheVariants.{Snapshot, Over}
use Rattle.group_history.specs.declared.refs.Ref.{Ref}
use Rattle.group_history.specs.declared.responses.Confirmed.{Confirmed}
use Rattle.group_history.specs.Pulling.{overwritten}
use Rattle.group_history.specs.Refs.{stamp_of}
use Rattle.group_history.specs.Spelling.{Contents, Version, last_ids, said_id, stepped, tells_right, version_at}
use Rattle.group_history.specs.State.{Ids, State}
use Rattle.group_history.specs.Map.{Bytes}
use Rattle.group_history.proofs.Telling.{insert_twice, overwritten-append, told_right}
use Rattle.commit_graph.specs.Inside.Chains.{LiesAt, added_by, listed, next_told, said_named, said_of}
use Rattle.commit_graph.specs.Inside.Telling.{IsLastOf, IsOlder, SaysBy, SaysIds}
use Rattle.commit_graph.specs.declared.chains.SaidIds.{SaidIds}
use Rattle.commit_graph.proofs.Chained.{LiesSo, ahead}
use Rattle.commit_graph.proofs.Spelled.{commit-made, version-grown}

-- The ids at the commit at hand, overwritten by those of the commits above it, the newest of which stands first; or
-- those that the last one told.
abbrev pub IsGathered : Contents → State → Option Ref → Option Ids → List Confirmed → Type 0
IsGathered ns s (Some at) told newer = (b : Version) × (version_at ns (stamp_of at) ≡ Some b)
    × (last_ids s ≡ overwritten (last_ids b.state) (reverse newer))
IsGathered ns s None (Some ids) newer = last_ids s ≡ overwritten ids (reverse newer)
IsGathered ns s None None newer = ⊥

pub gather_begins : (ns : Contents) (at : Ref) (v : Version) (told : Option Ids) → version_at ns (stamp_of at) ≡ Some v
    → IsGathered ns v.state (Some at) told []
gather_begins ns at v told h = (v, h, refl)

last_stepped : (s : State) (step : CommitChange)
    → last_ids (stepped s step) ≡ overwritten (last_ids s) (listed (option_map said_id (added_by step)))
last_stepped s (Local x) = ap (overwritten s.confirmed) (map-append said_id s.pending (x ∷ []))
    ∙ overwritten-append s.confirmed (map said_id s.pending) (said_id x ∷ [])
last_stepped s Closed = refl

-- an older id is added behind the others
pub older_pushed : (newer : List Confirmed) (said : Confirmed) (all : List Confirmed) → all ≡ newer ++ said ∷ []
    → IsOlder newer (said ∷ []) all
older_pushed newer said all is ids =
    sym (overwritten-append ids (said ∷ []) (reverse newer))
    ∙ ap (overwritten ids) (sym (ap reverse is ∙ reverse-append newer (said ∷ [])))

-- or left out, where the last of the others is its client's
pub older_known : (newer : List Confirmed) (said : Confirmed) → IsLastOf said.client newer
    → IsOlder newer (said ∷ []) newer
older_known newer said (front, last, is, own) ids =
    let back : reverse newer ≡ last ∷ reverse front = ap reverse is ∙ reverse-append front (last ∷ []) in
    ap (overwritten (finite.insert ids said.client said.id)) back
    ∙ ap (λ (w : Ids). overwritten w (reverse front)) (subst (λ (client : Bytes).
    finite.insert (finite.insert ids client said.id) last.client last.id ≡ finite.insert ids last.client last.id) own
    (insert_twice ids last.client said.id last.id))
    ∙ ap (overwritten ids) (sym back)

gather_told : (ns : Contents) (s : State) (basis : Ref) (told : Option Ids) (b : Version) (newer : List Confirmed)
    → version_at ns (stamp_of basis) ≡ Some b → tells_right told b.state ≡ true
    → last_ids s ≡ overwritten (last_ids b.state) (reverse newer) → IsGathered ns s (next_told basis told) told newer
gather_told ns s basis None b newer here right is = (b, here, is)
gather_told ns s basis (Some ids) b newer here right is =
    is ∙ ap (λ (w : Ids). overwritten w (reverse newer)) (sym (told_right b.state (Some ids) ids right refl))

told_ahead : (basis : Ref) (told : Option Ids) (at : ℕ) → stamp_of basis < at → ahead (next_told basis told) < suc at
told_ahead basis None at low = omega (arith, low)
told_ahead basis (Some ids) at low = omega arith

gather_over : (ns more : Contents) (s : State) (at : Ref) (told : Option Ids) (newer : List Confirmed) (root : Ref)
    (kind : CommitKind Ref) (all : List Confirmed)
    → IsGathered ns s (Some at) told newer → IsPrefix ns more → LiesSo more (stamp_of at) root kind
    → IsOlder newer (listed (said_named kind).said) all
    → (ahead (said_named kind).next < suc (stamp_of at))
    × IsGathered more s (said_named kind).next (said_named kind).told all
gather_over ns more s at told newer root (Snapshot sn) all d pre lies older =
    let m = commit-made more (stamp_of at) _ d.0 lies (version-grown ns more (stamp_of at) d.0 pre d.1) in (
      omega arith,
      d.2 ∙ ap (λ (w : State). overwritten (last_ids w) (reverse newer)) m.3
          ∙ older sn.confirmed,
    )
gather_over ns more s at told newer root (Over o) all d pre lies older =
    let m = commit-made more (stamp_of at) _ d.0 lies (version-grown ns more (stamp_of at) d.0 pre d.1) in
    let b = m.3 in
    let is : last_ids s ≡ overwritten (last_ids b.0.state) (reverse all) =
    d.2 ∙ ap (λ (w : State). overwritten (last_ids w) (reverse newer)) b.5
    ∙ ap (λ (w : Ids). overwritten w (reverse newer)) (last_stepped b.0.state o.step)
    ∙ older (last_ids b.0.state) in
    (told_ahead o.basis o.told (stamp_of at) b.1, gather_told more s o.basis o.told b.0 all b.2 b.6 is)

gather_step : (ns more : Contents) (s : State) (at : Ref) (told : Option Ids) (newer : List Confirmed)
    (c : Commit Ref) (all : List Confirmed)
    → IsGathered ns s (Some at) told newer → IsPrefix ns more → LiesAt more (stamp_of at) c
    → IsOlder newer (listed (said_of c).said) all
    → (ahead (said_of c).next < suc (stamp_of at)) × IsGathered more s (said_of c).next (said_of c).told all
gather_step ns more s at told newer c all d pre lies older =
    gather_over ns more s at told newer c.root c.kind all d pre lies older

-- at the end something was told
pub gather_ends : (ns : Contents) (s : State) (told : Option Ids) (newer : List Confirmed)
    → IsGathered ns s None told newer → (ids : Ids) × (told ≡ Some ids) × (last_ids s ≡ overwritten ids (reverse newer))
gather_ends ns s None newer h = absurd h
gather_ends ns s (Some ids) newer h = (ids, refl, h)

fold_own : (s : State) (ids : Ids) (own : Option Confirmed) (newer : List Confirmed)
    → last_ids s ≡ overwritten ids (reverse (newer ++ listed own))
    → last_ids s ≡ overwritten (overwritten ids (listed own)) (reverse newer)
fold_own s ids None newer is = is ∙ ap (λ w. overwritten ids (reverse w)) (append-nil newer)
fold_own s ids (Some c) newer is = is ∙ ap (overwritten ids) (reverse-append newer (c ∷ []))

older_own : (newer : List Confirmed) (own : Option Confirmed) → IsOlder newer (listed own) (newer ++ listed own)
older_own newer None ids = ap (λ w. overwritten ids (reverse w)) (sym (append-nil newer))
older_own newer (Some c) ids = older_pushed newer c (newer ++ c ∷ []) refl ids

next_none : (basis : Ref) (told : Option Ids) (ids : Ids) → told ≡ Some ids → next_told basis told ≡ None
next_none basis None ids e = absurd (subst (λ (o : Option Ids). T (is_none o)) e tt)
next_none basis (Some own) ids e = refl

told_last : (kind : CommitKind Ref) (ids : Ids) → (said_named kind).told ≡ Some ids → (said_named kind).next ≡ None
told_last (Snapshot sn) ids e = refl
told_last (Over o) ids e = next_none o.basis o.told ids e

said_by : (ns : Contents) (s : State) (next : Option Ref) (own : Option Confirmed) (told : Option Ids)
    (newer : List Confirmed) (found : SaidIds) → ((ids : Ids) → told ≡ Some ids → next ≡ None)
    → ((all : List Confirmed) → IsOlder newer (listed own) all → IsGathered ns s next told all)
    → SaysBy newer own told found → found.next ≡ next
    → IsGathered ns s found.next found.told (newer ++ listed found.said)
said_by ns s next own None newer found last met says is =
    subst (λ (o : Option Ref). IsGathered ns s o found.told (newer ++ listed found.said)) (sym is)
    (subst (λ (o : Option Ids). IsGathered ns s next o (newer ++ listed found.said)) (sym says.1)
    (met (newer ++ listed found.said) says.0))
said_by ns s next own (Some ids) newer found last met says is =
    let none = last ids refl in
    let all = newer ++ listed own in
    let here : IsGathered ns s None (Some ids) all =
    subst (λ (o : Option Ref). IsGathered ns s o (Some ids) all) none (met all (older_own newer own)) in
    let left : newer ++ listed found.said ≡ newer =
    ap (λ (o : Option Confirmed). newer ++ listed o) says.0 ∙ append-nil newer in
    subst (λ (o : Option Ref). IsGathered ns s o found.told (newer ++ listed found.said)) (sym (is ∙ none))
    (subst (λ (o : Option Ids). IsGathered ns s None o (newer ++ listed found.said)) (sym says.1)
    (subst (IsGathered ns s None (Some (overwritten ids (listed own)))) (sym left) (fold_own s ids own newer here)))

-- one commit down, by what it says
pub gather_said : (ns more : Contents) (s : State) (at : Ref) (told : Option Ids) (newer : List Confirmed)
    (c : Commit Ref) (found : SaidIds)
    → IsGathered ns s (Some at) told newer → IsPrefix ns more → LiesAt more (stamp_of at) c
    → SaysIds newer (said_of c) found
    → (ahead found.next < suc (stamp_of at)) × IsGathered more s found.next found.told (newer ++ listed found.said)
gather_said ns more s at told newer c found d pre lies says =
    let own = (said_of c).said in (
      subst (λ (o : Option Ref). ahead o < suc (stamp_of at)) (sym says.next)
          (gather_step ns more s at told newer c (newer ++ listed own) d pre lies (older_own newer own)).0,
      said_by more s (said_of c).next own (said_of c).told newer found (told_last c.kind)
          (λ all older. (gather_step ns more s at told newer c all d pre lies older).1) says.ids says.next,
    )
