-- A step of a trail written down as a node.
use Rattle.std.proofs.Common.{◌≡◌, ◌<◌, ◌≤◌, ◌+◌, ◌⊎◌, ℕ, zero, suc, inl, inr, List, [], ◌∷◌, ◌++◌, Some, length, set}
use Rattle.std.proofs.Common.{append_assoc, length-append, length-set, refl, reverse, sym, ap, ◌∙◌, subst, arith}
use Rattle.std.specs.Arc.{arc_value}
use Rattle.std.specs.List.{Contains}
use Rattle.std.proofs.lemmas.List.Elements.{Contains-append_left, Contains-append_right}
use Rattle.std.proofs.lemmas.List.{reverse-append}
use mathlib.Core.List.{IsPrefix}
use Rattle.group_history.specs.declared.nodes.Chunk.TheVariants as chunked
use Rattle.group_history.specs.declared.nodes.Node.{Node}
use Rattle.group_history.specs.declared.nodes.Node.TheVariants as node
use Rattle.group_history.specs.declared.refs.Ref.{Ref}
use Rattle.group_history.specs.Map.{Bytes}
use Rattle.group_history.specs.Naming.{content_of}
use Rattle.group_history.specs.Refs.{stamp_of, slot_of}
use Rattle.group_history.specs.Rows.{Rows, keys_of, paired, values_of}
use Rattle.group_history.specs.Spelling.{Contents, joined_rows, rows_at}
use Rattle.group_history.proofs.Lists.{cons_cases, first_here, later_here, no_element, prefix_trans}
use Rattle.group_history.proofs.Pairs.{keys_of-paired}
use Rattle.map_chunks.proofs.JoinLemmas.{some_is}
use Rattle.map_chunks.proofs.ListLemmas.{length-paired}
use Rattle.map_chunks.proofs.OpenLemmas.{rows-kept, shows_by}
use Rattle.map_chunks.specs.Drafts.{AreBelow}
use Rattle.map_chunks.specs.Places.{AddsNamed, AreNamed, places_of, with_nodes}
use Rattle.map_chunks.specs.Shown.{own, leaf_keys, Seen, shown}
use Rattle.map_chunks.specs.Wide.{IsWideAt}
use Rattle.map_nodes.proofs.BelowLemmas.{inner-below}
use Rattle.map_nodes.proofs.FreezeLemmas.{all-spelled, inner_pushed, leaf_pushed, nodes-grown}
use Rattle.map_nodes.proofs.FreezeLevels.{inner_level, leaf_level, step_level}
use Rattle.map_nodes.proofs.NamedLemmas.{adds-none, adds-one, adds-within, inner-named}
use Rattle.map_nodes.proofs.NodeLemmas.{shown-kids, shown-rows}
use Rattle.map_nodes.proofs.SpotLemmas.{step_places}
use Rattle.map_nodes.proofs.TrailLemmas.{kid_of, placed-places, step-fresh, step-pairs, topmost}
use Rattle.map_nodes.proofs.WideLemmas.{pushed_at, wide_inner, wide_node}
use Rattle.map_nodes.specs.Inside.Freezing.{AreFrozen, IsFrozen, IsLevel, IsWritten, child_places, kids_places}
use Rattle.map_nodes.specs.Inside.Nodes.{Kid}
use Rattle.map_nodes.specs.Levels.{placed_levels, seen_levels, NamedLater}
use Rattle.map_nodes.specs.Trails.{placed_kids, step_kids, step_names, step_seen, steps_seen, trail_seen}
use Rattle.map_nodes.specs.Trails.{AreSteps, IsStep, IsTrail}
use Rattle.map_nodes.specs.declared.nodes.OwnChild.TheVariants.{Placed, Own}
use Rattle.map_nodes.specs.declared.nodes.trails.End.{End}
use Rattle.map_nodes.specs.declared.nodes.trails.Step.{Step}

placed_frozen : (first : ℕ) (old new : List (Node Ref)) (at : Ref) → IsPrefix old new
    → IsFrozen first old new (Placed at) at
placed_frozen first old new at p contents depth rows l d h =
    rows-kept (with_nodes contents old) (with_nodes contents new) depth (stamp_of at) rows
    (nodes-grown contents old new p) h

all_frozen : (first : ℕ) (old new : List (Node Ref)) (ats : List Ref) → IsPrefix old new
    → AreFrozen first old new (placed_kids ats) ats
all_frozen first old new [] p = tt
all_frozen first old new (a ∷ ats) p = (placed_frozen first old new a p, all_frozen first old new ats p)

-- the names of a step's children
pub step_frozen : (first : ℕ) (old new : List (Node Ref)) (ats : List Ref) (i : ℕ) (n : Kid) (at : Ref)
    → IsPrefix old new → IsFrozen first old new (Own n) at
    → AreFrozen first old new (set (placed_kids ats) i (Own n)) (set ats i at)
step_frozen first old new [] i n at p f = tt
step_frozen first old new (a ∷ ats) zero n at p f = (f, all_frozen first old new ats p)
step_frozen first old new (a ∷ ats) (suc i) n at p f =
    (placed_frozen first old new a p, step_frozen first old new ats i n at p f)

names_in : (ats : List Ref) (i : ℕ) (n : Kid) (at r : Ref) → Contains (set ats i at) r
    → (at ≡ r) ⊎ Contains (kids_places (set (placed_kids ats) i (Own n))) r
names_in [] i n at r h = absurd (no_element r h)
names_in (a ∷ ats) zero n at r h = elim (cons_cases at ats r h) [
  | inl e ↦ inl e
  | inr q ↦ inr (Contains-append_right (child_places (Own n)) (kids_places (placed_kids ats)) r
      (subst (λ w. Contains w r) (sym (placed-places ats)) q))
]
names_in (a ∷ ats) (suc i) n at r h = elim (cons_cases a (set ats i at) r h) [
  | inl e ↦ inr (subst (λ w. Contains (a ∷ kids_places (set (placed_kids ats) i (Own n))) w) e
      (first_here a (kids_places (set (placed_kids ats) i (Own n)))))
  | inr q ↦ elim (names_in ats i n at r q) [
    | inl e ↦ inl e
    | inr w ↦ inr (later_here a (kids_places (set (placed_kids ats) i (Own n))) r w)
  ]
]

pub step_named : (first : ℕ) (ats : List Ref) (i : ℕ) (n : Kid) (at : Ref) → (first ≤ stamp_of at) × (slot_of at ≡ 0)
    → AreNamed first (kids_places (set (placed_kids ats) i (Own n))) (set ats i at)
step_named first ats i n at d r h = elim (names_in ats i n at r h) [
  | inl e ↦ inr (subst (λ w. (first ≤ stamp_of w) × (slot_of w ≡ 0)) e d)
  | inr w ↦ inl w
]

step_below : (m k : ℕ) (ats : List Ref) (i : ℕ) (n : Kid) (at : Ref) → m ≤ k → stamp_of at < k
    → AreBelow m (kids_places (set (placed_kids ats) i (Own n))) → AreBelow k (set ats i at)
step_below m k ats i n at le l b r h = elim (names_in ats i n at r h) [
  | inl e ↦ subst (λ w. stamp_of w < k) e l
  | inr w ↦ (let x = b r w in omega (arith, x, le))
]

-- the places of the chunk below are among those of the step
pub within_step : (ats : List Ref) (i : ℕ) (n : Kid) (r : Ref) → i < length ats
    → Contains (child_places (Own n)) r → Contains (kids_places (set (placed_kids ats) i (Own n))) r
within_step [] i n r l h = absurd (omega arith)
within_step (a ∷ ats) zero n r l h = Contains-append_left (child_places (Own n)) (kids_places (placed_kids ats)) r h
within_step (a ∷ ats) (suc i) n r l h = later_here a (kids_places (set (placed_kids ats) i (Own n))) r
    (within_step ats i n r (omega arith) h)

-- THE NODE

pub names_length : (s : Step) (below : Seen) (at : Ref) → IsStep s below → length (step_names s at)
    ≡ length (arc_value s.keys)
names_length s below at h = length-set s.children.items s.place at ∙ h.1

pub step_spelled : (contents : Contents) (first : ℕ) (old mid new : List (Node Ref)) (s : Step) (below : Seen)
    (at root : Ref) (rows : Rows) (es : List (Bytes × Ref)) → IsStep s below → length contents ≡ first
    → IsPrefix old mid → IsFrozen first old mid (Own (kid_of s below)) at
    → es ≡ paired (arc_value s.keys) (step_names s at) → new ≡ mid ++ node.Chunk (chunked.Inner es) ∷ []
    → stamp_of root ≡ first + length mid → shown (with_nodes contents old) (step_seen s below).pieces ≡ Some rows
    → rows_at (with_nodes contents new) (step_seen s below).depth (stamp_of root) ≡ Some rows
step_spelled contents first old mid new s below at root rows es h l p f e w k shows =
    let keys = arc_value s.keys in
    let kids = step_kids s below in
    let joined = sym (shown-kids (with_nodes contents old) below.depth (paired keys kids) h.3) ∙ shows in
    let spelt = all-spelled contents first old mid below.depth keys kids (step_names s at) rows l
    (step_frozen first old mid s.children.items s.place (kid_of s below) at p f) h.3 joined in
    let size : length es ≡ length keys = ap length e ∙ length-paired keys (step_names s at)
    (names_length s below at h) in
    inner_pushed contents first mid new es rows below.depth (below.depth + 1) root l w k (omega (arith, size, h.2))
    (omega (arith, size, h.0.0)) refl
    (ap (λ z. joined_rows (shows_by (rows_at (with_nodes contents mid) below.depth) z)) e ∙ spelt)

pub step_wide : (contents : Contents) (first : ℕ) (mid new : List (Node Ref)) (s : Step) (below : Seen)
    (at root : Ref) (es : List (Bytes × Ref)) → IsStep s below → length contents ≡ first
    → es ≡ paired (arc_value s.keys) (step_names s at) → new ≡ mid ++ node.Chunk (chunked.Inner es) ∷ []
    → stamp_of root ≡ first + length mid → 1 < length (arc_value s.keys)
    → IsWideAt (with_nodes contents new) (stamp_of root)
step_wide contents first mid new s below at root es h l e w k more =
    let size : length es ≡ length (arc_value s.keys) = ap length e ∙ length-paired (arc_value s.keys)
    (step_names s at) (names_length s below at h) in
    let x = node.Chunk (chunked.Inner es) in
    wide_node (with_nodes contents new) (stamp_of root) (content_of x)
    (pushed_at contents first mid new x root l w k) (wide_inner es (omega (arith, size, more)))

pub step_added : (first : ℕ) (old mid new : List (Node Ref)) (s : Step) (below : Seen) (at : Ref)
    (es : List (Bytes × Ref)) → IsStep s below → es ≡ paired (arc_value s.keys) (step_names s at)
    → new ≡ mid ++ node.Chunk (chunked.Inner es) ∷ [] → (first ≤ stamp_of at) × (slot_of at ≡ 0)
    → AddsNamed first (places_of below.pieces) old mid
    → AddsNamed first (places_of (step_seen s below).pieces) old new
step_added first old mid new s below at es h e w d a =
    let ats = s.children.items in
    let n = kid_of s below in
    let all = kids_places (step_kids s below) in
    subst (λ ps. AddsNamed first ps old new) (sym (step_places s below h))
    (adds-one first all old mid new (node.Chunk (chunked.Inner es))
    (adds-within first (places_of below.pieces) all old mid
    (λ r i. within_step ats s.place n r (omega (arith, h.1, h.2)) i) a)
    (inner-named first all (arc_value s.keys) (step_names s at) es (names_length s below at h) e
    (step_named first ats s.place n at d)) w)

pub step_children : (m k : ℕ) (s : Step) (below : Seen) (at : Ref) (es : List (Bytes × Ref)) → IsStep s below
    → es ≡ paired (arc_value s.keys) (step_names s at) → m ≤ k → stamp_of at < k
    → AreBelow m (places_of (step_seen s below).pieces) → AreBelow k (values_of es)
step_children m k s below at es h e le l b =
    inner-below k (arc_value s.keys) (step_names s at) es (names_length s below at h) e
    (step_below m k s.children.items s.place (kid_of s below) at le l
    (subst (AreBelow m) (step_places s below h) b))

-- what the chunk below names, the step does
pub below_step : (m : ℕ) (s : Step) (below : Seen) → IsStep s below → AreBelow m (places_of (step_seen s below).pieces)
    → AreBelow m (places_of below.pieces)
below_step m s below h b r i = b r (subst (λ ps. Contains ps r) (sym (step_places s below h))
    (within_step s.children.items s.place (kid_of s below) r (omega (arith, h.1, h.2)) i))

-- A WHOLE TRAIL

trail_back : (a b : List Step) (e : End) → IsTrail (a ++ b) e → IsTrail b e
trail_back [] b e h = h
trail_back (s ∷ a) b e h = trail_back a b e h.1

below_back : (m : ℕ) (a b : List Step) (e : End) → IsTrail (a ++ b) e
    → AreBelow m (places_of (trail_seen (a ++ b) e).pieces) → AreBelow m (places_of (trail_seen b e).pieces)
below_back m [] b e h l = l
below_back m (s ∷ a) b e h l = below_back m a b e h.1 (below_step m s (trail_seen (a ++ b) e) h.0 l)

pub written_leaf : (first : ℕ) (old new : List (Node Ref)) (e : End) (at : Ref) (leaf : Rows) → IsTrail [] e
    → leaf ≡ paired (arc_value e.keys) e.values.items → new ≡ old ++ node.Chunk (chunked.Leaf leaf) ∷ []
    → stamp_of at ≡ first + length old → slot_of at ≡ 0 → IsWritten first old new (trail_seen [] e) at
written_leaf first old new e at leaf h l w k z =
    let all = paired (arc_value e.keys) e.values.items in
    let x = node.Chunk (chunked.Leaf leaf) in
    let more : length new ≡ length old + 1 = omega (arith, ap length w, length-append old (x ∷ [])) in
    record {
      spelled = λ contents rows c shows. leaf_pushed contents first old new leaf rows 1 at c w k
          (omega (arith, ap length l, length-paired (arc_value e.keys) e.values.items h.1, h.0.0)) refl
          (l ∙ some_is (sym (shown-rows (with_nodes contents old) all) ∙ shows));
      levels = λ contents c. leaf_level contents first old new (trail_seen [] e) leaf at c w k refl
          (ap (λ ks. own 0 (leaf_keys ks) ∷ [])
          (sym (ap keys_of l ∙ keys_of-paired (arc_value e.keys) e.values.items h.1)));
      wide = λ contents c many. wide_node (with_nodes contents new) (stamp_of at) (content_of x)
          (pushed_at contents first old new x at c w k) refl;
      named = adds-one first (places_of (trail_seen [] e).pieces) old old new x
          (adds-none first (places_of (trail_seen [] e).pieces) old) (λ r i. absurd (no_element r i)) w;
      drafted = (omega (arith, k), z);
      below = omega (arith, k, more);
      count = more;
      grown = (x ∷ [], sym w);
    }

pub written_step : (first : ℕ) (old mid new : List (Node Ref)) (s : Step) (ss : List Step) (e : End) (at root : Ref)
    → IsTrail (s ∷ ss) e → IsWritten first old mid (trail_seen ss e) at
    → new ≡ mid ++ node.Chunk (chunked.Inner (paired (arc_value s.keys) (step_names s at))) ∷ []
    → stamp_of root ≡ first + length mid → slot_of root ≡ 0 → IsWritten first old new (trail_seen (s ∷ ss) e) root
written_step first old mid new s ss e at root h f w k z =
    let below = trail_seen ss e in
    let es = paired (arc_value s.keys) (step_names s at) in
    let x = node.Chunk (chunked.Inner es) in
    let more : length new ≡ length mid + 1 = omega (arith, ap length w, length-append mid (x ∷ [])) in
    let frozen : IsFrozen first old mid (Own (kid_of s below)) at = λ contents depth rows c d shows. subst
    (λ b. rows_at (with_nodes contents mid) b (stamp_of at) ≡ Some rows) d (f.spelled contents rows c shows) in
    let level : IsLevel first mid (Own (kid_of s below)) at = λ contents depth c d. subst
    (λ b. NamedLater first (with_nodes contents mid) (seen_levels below) (λ p. placed_levels p b (stamp_of at))) d
    (f.levels contents c) in
    record {
      spelled = λ contents rows c shows. step_spelled contents first old mid new s below at root rows es h.0 c f.grown
          frozen refl w k shows;
      levels = λ contents c. inner_level contents first mid new (step_seen s below) below.depth (below.depth + 1)
          (arc_value s.keys) (step_kids s below) (step_names s at) root c w k refl (omega arith) refl
          (step-pairs s below h.0) (names_length s below at h.0) h.0.3
          (step_level first mid s.children.items s.place (kid_of s below) at level);
      wide = λ contents c many. step_wide contents first mid new s below at root es h.0 c refl w k many;
      named = step_added first old mid new s below at es h.0 refl w f.drafted f.named;
      drafted = (omega (arith, k), z);
      below = omega (arith, k, more);
      count = omega (arith, f.count, more, step-fresh s below h.0);
      grown = prefix_trans old mid new f.grown (x ∷ [], sym w);
    }

-- STEPS, THE LOWEST FIRST

-- the steps below one, itself, and those above it
turned : (all ss rest : List Step) (s : Step) → all ≡ (ss ++ s ∷ []) ++ rest → reverse all
    ≡ reverse rest ++ s ∷ reverse ss
turned all ss rest s w = ap reverse w ∙ reverse-append (ss ++ s ∷ []) rest
    ∙ ap (λ z. reverse rest ++ z) (topmost (ss ++ s ∷ []) ss s refl)

-- the next of the steps that are left, and the trail from it down
pub next_up : (all ss left rest : List Step) (s : Step) (e : End) → AreSteps all e → all ≡ ss ++ left → left ≡ s ∷ rest
    → (all ≡ (ss ++ s ∷ []) ++ rest) × IsTrail (s ∷ reverse ss) e
next_up all ss left rest s e h w l =
    let whole : all ≡ (ss ++ s ∷ []) ++ rest = w ∙ ap (λ z. ss ++ z) l ∙ sym (append_assoc ss (s ∷ []) rest) in
    (whole, trail_back (reverse rest) (s ∷ reverse ss) e (subst (λ z. IsTrail z e) (turned all ss rest s whole) h))

pub below_up : (m : ℕ) (all ss rest : List Step) (s : Step) (e : End) → AreSteps all e
    → all ≡ (ss ++ s ∷ []) ++ rest → AreBelow m (places_of (steps_seen all e).pieces)
    → AreBelow m (places_of (trail_seen (s ∷ reverse ss) e).pieces)
below_up m all ss rest s e h w b =
    let t = turned all ss rest s w in
    below_back m (reverse rest) (s ∷ reverse ss) e (subst (λ z. IsTrail z e) t h)
    (subst (λ z. AreBelow m (places_of (trail_seen z e).pieces)) t b)
