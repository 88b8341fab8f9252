-- What the newest content of a list spells, and a draft's newest node.
use Rattle.std.proofs.Common.{◌≡◌, ℕ, ◌+◌, List, [], ◌∷◌, ◌++◌, true, false, cond, map, length, Option, Some, None}
use Rattle.std.proofs.Common.{refl, sym, ap}
use Rattle.std.proofs.Common.{◌∙◌, subst, arith, append_assoc, length-append}
use Rattle.std.specs.Prelude.{option_and_then, option_map, ◌==◌}
use Rattle.std.specs.FinMap as finite
use Rattle.std.proofs.lemmas.Bool.{eq-eqb}
use Rattle.std.proofs.lemmas.List.{map-append, length-map}
use Rattle.group_history.specs.declared.nodes.Chunk.TheVariants.{Leaf}
use Rattle.group_history.specs.declared.nodes.Commit.{Commit}
use Rattle.group_history.specs.declared.nodes.CommitKind.{CommitKind}
use Rattle.group_history.specs.declared.nodes.CommitKind.TheVariants.{Snapshot, Over}
use Rattle.group_history.specs.declared.nodes.CommitChange.{CommitChange}
use Rattle.group_history.specs.declared.nodes.Node.{Node}
use Rattle.group_history.specs.declared.nodes.Node.TheVariants as node
use Rattle.group_history.specs.declared.refs.Ref.{Ref}
use Rattle.group_history.specs.Cookies.{Cookie, null_cookie}
use Rattle.group_history.specs.Folds.{answer}
use Rattle.group_history.specs.Map.{Entries}
use Rattle.group_history.specs.Naming.{content_of}
use Rattle.group_history.specs.Refs.{stamp_of}
use Rattle.group_history.specs.Spelling.{Contents, Version, Spelled, as_version, as_snapshot, version, spelled}
use Rattle.group_history.specs.Spelling.{version_in, basis_in, state_in, state_over, stepped, snapshot_of, version_at}
use Rattle.group_history.specs.Spelling.{snapshot_at, map_at, tells_right}
use Rattle.group_history.specs.State.{State, Ids, opening, pulled_state}
use Rattle.group_history.proofs.Spellings.{spelled-newest, length-spelled}
use Rattle.group_history.proofs.TextMaps.{empty_map}
use Rattle.map_chunks.specs.Places.{with_nodes}
use Rattle.commit_graph.proofs.Spelled.{map-grown}
use Rattle.change_drafts.specs.Chaining.{HasTip}
use Rattle.change_drafts.specs.declared.tips.Tip.{Tip}

-- the content of a commit over a basis
abbrev over : {A : Type 0} → A → A → A → CommitChange → Option Ids → Commit A
over root basis snapshot step told = record {
  root = root;
  kind = Over (record { basis = basis; snapshot = snapshot; step = step; told = told });
}

abbrev made_of_state : Entries → State → Version
made_of_state m s = record { state = s; read = m }

-- what the newest commit spells, by what its parts spell
newest_commit : (cs : Contents) (root : ℕ) (kind : CommitKind ℕ) (m : Entries) (s : State) → map_at cs root ≡ Some m
    → state_in (spelled cs) kind m ≡ Some s
    → answer (spelled (cs ++ node.Commit (record { root = root; kind = kind }) ∷ [])) (length cs)
    ≡ Some (version (made_of_state m s) (snapshot_of (length cs) kind))
newest_commit cs root kind m s r state =
    let done = spelled cs in
    let mark : ℕ → Version → Spelled = λ n v. version v (snapshot_of n kind) in
    spelled-newest cs (node.Commit (record { root = root; kind = kind }))
    ∙ ap (λ o. option_map (mark (length done))
    (option_and_then (λ x. option_map (made_of_state x) (state_in done kind x)) o)) r
    ∙ ap (λ o. option_map (mark (length done)) (option_map (made_of_state m) o)) state
    ∙ ap (λ n. Some (mark n (made_of_state m s))) (length-spelled cs)

-- the state of a commit over a basis
over_state : (cs : Contents) (basis snapshot : ℕ) (step : CommitChange) (told : Option Ids) (v : Version) (m : Entries)
    → version_at cs basis ≡ Some v → snapshot_at cs basis ≡ Some snapshot → v.state.closed ≡ false
    → tells_right told v.state ≡ true
    → state_in (spelled cs) (Over (record { basis = basis; snapshot = snapshot; step = step; told = told })) m
    ≡ Some (stepped v.state step)
over_state cs basis snapshot step told v m b s is_open right =
    let done = spelled cs in
    let here : basis_in done basis snapshot ≡ Some v =
    ap (λ o. option_and_then (λ k. cond (k == snapshot) (version_in done basis) None) o) s
    ∙ ap (λ t. cond t (version_in done basis) None) (eq-eqb snapshot snapshot refl)
    ∙ b in
    let after : Option State = Some (stepped v.state step) in
    ap (λ o. option_and_then (state_over told step) o) here
    ∙ ap (λ t. cond t None (cond (tells_right told v.state) after None)) is_open
    ∙ ap (λ t. cond t after None) right

-- a draft with one node more
nodes-pushed : (contents : Contents) (nodes : List (Node Ref)) (n : Node Ref)
    → with_nodes contents (nodes ++ n ∷ []) ≡ with_nodes contents nodes ++ content_of n ∷ []
nodes-pushed contents nodes n = ap (λ w. contents ++ w) (map-append content_of nodes (n ∷ [])) ∙ sym
    (append_assoc contents (map content_of nodes) (content_of n ∷ []))

stamp_next : (contents : Contents) (nodes : List (Node Ref)) (first at : ℕ) → length contents ≡ first
    → at ≡ first + length nodes → length (with_nodes contents nodes) ≡ at
stamp_next contents nodes first at l h = omega
    (arith, l, h, length-append contents (map content_of nodes), length-map nodes content_of)

-- the newest node of a draft spells the version, so it is a tip with a root that was there before
tip_of : (contents : Contents) (mid new : List (Node Ref)) (first : ℕ) (n : Node Ref) (tip : Tip) (v : Version)
    → length contents ≡ first → new ≡ mid ++ n ∷ [] → stamp_of tip.commit ≡ first + length mid
    → answer (spelled (with_nodes contents mid ++ content_of n ∷ [])) (length (with_nodes contents mid))
    ≡ Some (version v (stamp_of tip.snapshot)) → map_at (with_nodes contents mid) (stamp_of tip.root) ≡ Some v.read
    → HasTip (with_nodes contents new) tip v
tip_of contents mid new first n tip v l is stamp h r =
    let cs = with_nodes contents mid in
    let all : with_nodes contents new ≡ cs ++ content_of n
    ∷ [] = ap (with_nodes contents) is ∙ nodes-pushed contents mid n in
    let long : length cs ≡ stamp_of tip.commit = stamp_next contents mid first (stamp_of tip.commit) l stamp in
    let here : answer (spelled (with_nodes contents new)) (stamp_of tip.commit)
    ≡ Some (version v (stamp_of tip.snapshot)) =
    subst (λ (w : Contents). answer (spelled w) (stamp_of tip.commit)
    ≡ Some (version v (stamp_of tip.snapshot))) (sym all)
    (subst (λ (k : ℕ). answer (spelled (cs ++ content_of n ∷ [])) k
    ≡ Some (version v (stamp_of tip.snapshot))) long h) in (
      ap (λ o. option_and_then as_version o) here,
      map-grown cs (with_nodes contents new) (stamp_of tip.root) v.read (content_of n ∷ [], sym all) r,
      ap (λ o. option_and_then as_snapshot o) here,
    )

-- a commit over a basis
pub over_tip : (contents : Contents) (mid new : List (Node Ref)) (first : ℕ) (basis : Tip) (root at : Ref)
    (step : CommitChange) (told : Option Ids) (v : Version) (m : Entries)
    → length contents ≡ first → new ≡ mid ++ node.Commit (over root basis.commit basis.snapshot step told) ∷ []
    → stamp_of at ≡ first + length mid
    → version_at (with_nodes contents mid) (stamp_of basis.commit) ≡ Some v
    → snapshot_at (with_nodes contents mid) (stamp_of basis.commit) ≡ Some (stamp_of basis.snapshot)
    → v.state.closed ≡ false → tells_right told v.state ≡ true
    → map_at (with_nodes contents mid) (stamp_of root) ≡ Some m
    → HasTip (with_nodes contents new) (record { commit = at; snapshot = basis.snapshot; root = root })
    (made_of_state m (stepped v.state step))
over_tip contents mid new first basis root at step told v m l is stamp b s is_open right r =
    let cs = with_nodes contents mid in
    tip_of contents mid new first (node.Commit (over root basis.commit basis.snapshot step told))
    (record { commit = at; snapshot = basis.snapshot; root = root })
    (made_of_state m (stepped v.state step)) l is stamp
    (newest_commit cs (stamp_of root) (Over
    (record { basis = stamp_of basis.commit; snapshot = stamp_of basis.snapshot; step = step; told = told })) m
    (stepped v.state step) r (over_state cs (stamp_of basis.commit)
    (stamp_of basis.snapshot) step told v m b s is_open right)) r

-- a snapshot
pub snapshot_tip : (contents : Contents) (mid new : List (Node Ref)) (first : ℕ) (root at : Ref) (cookie : Cookie)
    (confirmed : Ids) (m : Entries)
    → length contents ≡ first → new ≡ mid ++ node.Commit
    (record { root = root; kind = Snapshot (record { cookie = cookie; confirmed = confirmed }) }) ∷ []
    → stamp_of at ≡ first + length mid
    → map_at (with_nodes contents mid) (stamp_of root) ≡ Some m
    → HasTip (with_nodes contents new) (record { commit = at; snapshot = at; root = root })
    (made_of_state m (pulled_state m cookie confirmed))
snapshot_tip contents mid new first root at cookie confirmed m l is stamp r =
    let cs = with_nodes contents mid in
    let long : length cs ≡ stamp_of at = stamp_next contents mid first (stamp_of at) l stamp in
    let v : Version = made_of_state m (pulled_state m cookie confirmed) in
    tip_of contents mid new first (node.Commit
    (record { root = root; kind = Snapshot (record { cookie = cookie; confirmed = confirmed }) }))
    (record { commit = at; snapshot = at; root = root }) v l is stamp
    (newest_commit cs (stamp_of root) (Snapshot (record { cookie = cookie; confirmed = confirmed })) m
    (pulled_state m cookie confirmed) r refl ∙ ap (λ (k : ℕ). Some (version v k)) long) r

empty_leaf : map_at (node.Chunk (Leaf []) ∷ []) 0 ≡ Some finite.empty
empty_leaf = ap (λ (m : Entries). Some m) empty_map

-- the two nodes with which a group opens
pub opening_tip : (one two : List (Node Ref)) (leaf : Node Ref) (root at : Ref) (cookie : Cookie) (confirmed : Ids)
    → one ≡ [] ++ leaf ∷ [] → leaf ≡ node.Chunk (Leaf []) → stamp_of root ≡ 0
    → two ≡ one ++ node.Commit (record {
      root = root;
      kind = Snapshot (record { cookie = cookie; confirmed = confirmed });
    }) ∷ [] → stamp_of at ≡ 0 + length one
    → cookie ≡ null_cookie → confirmed ≡ finite.empty
    → version_at (with_nodes [] two) (stamp_of at) ≡ Some (made_of_state finite.empty opening)
opening_tip one two leaf root at cookie confirmed is is_leaf zero_root then stamp c i =
    let first : with_nodes [] one ≡ node.Chunk (Leaf [])
    ∷ [] = ap (with_nodes []) is ∙ ap (λ (n : Node Ref). content_of n ∷ []) is_leaf in
    let map : map_at (with_nodes [] one) (stamp_of root) ≡ Some finite.empty =
    ap (λ (w : Contents). map_at w (stamp_of root)) first ∙
    (ap (map_at (node.Chunk (Leaf []) ∷ [])) zero_root ∙ empty_leaf) in
    let tip = snapshot_tip [] one two 0 root at cookie confirmed finite.empty refl then stamp map in
    let whole : Cookie → Ids → Version = λ c i. made_of_state finite.empty (pulled_state finite.empty c i) in
    tip.0 ∙ (ap (λ (w : Cookie). Some (whole w confirmed)) c ∙ ap (λ (w : Ids). Some (whole null_cookie w)) i)
