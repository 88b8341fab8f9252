-- Where on a trail a key belongs.
use Rattle.std.proofs.Common.{◌≡◌, ◌≢◌, ◌<◌, ℕ, zero, suc, slice_get, List, [], ◌∷◌, Option, Some, None, length}
use Rattle.std.proofs.Common.{get_or, true, false, true≢false, refl, reverse, sym, ap}
use Rattle.std.proofs.Common.{◌∙◌, subst, arith, nat_cmp}
use Rattle.std.proofs.lemmas.List.{length-reverse}
use Rattle.std.specs.Arc.{arc_value}
use Rattle.std.specs.List.{Contains}
use Rattle.std.specs.Prelude.{◌==◌}
use Rattle.std.proofs.lemmas.Bool.Decides.{nat_tests}
use Rattle.std.specs.Cmp.Lexicographic.{slice_cmp}
use Rattle.std.specs.FinMap.{find}
use Rattle.group_history.specs.declared.refs.Ref.{Ref}
use Rattle.group_history.specs.Map.{Bytes}
use Rattle.group_history.specs.Refs.{stamp_of}
use Rattle.group_history.specs.Rows.{Rows, paired}
use Rattle.group_history.specs.Spelling.{Contents, joined_rows}
use Rattle.group_history.proofs.Lists.{one_here}
use Rattle.map_chunks.proofs.EmptyLemmas.{some_rows}
use Rattle.map_chunks.proofs.JoinLemmas.{some_is}
use Rattle.map_chunks.proofs.ListLemmas.{length-paired}
use Rattle.map_chunks.proofs.OpenLemmas.{shows_of, tree_of}
use Rattle.map_chunks.specs.Places.{places_of}
use Rattle.map_chunks.specs.Search.{IsPlace}
use Rattle.map_chunks.specs.Shown.{Seen, chunk_rows, shown, rows_or, IsTree}
use Rattle.map_nodes.proofs.NamedLemmas.{kid-within, places-kids}
use Rattle.map_nodes.proofs.NodeLemmas.{down-find, down_own, down_placed, kid_rows, shown-kids, shown-rows}
use Rattle.map_nodes.proofs.TrailLemmas.{here_own, here_placed, kid_of, step-pairs, step_down}
use Rattle.map_nodes.specs.Inside.Freezing.{child_places, kids_places}
use Rattle.map_nodes.specs.Inside.Spots.{IsSpot}
use Rattle.map_nodes.specs.Trails.{step_kids, step_seen, steps_seen, trail_seen, AreSteps, IsStep, IsTrail}
use Rattle.map_nodes.specs.declared.nodes.OwnChild.{OwnChild}
use Rattle.map_nodes.specs.declared.nodes.OwnChild.TheVariants.{Placed, Own}
use Rattle.map_nodes.specs.declared.nodes.trails.End.{End}
use Rattle.map_nodes.specs.declared.nodes.trails.Step.{Step}

-- a child that stands at a place
pub read_at : (kids : List OwnChild) (i : ℕ) (c : OwnChild) → slice_get kids i ≡ Some c
    → (i < length kids) × (c ≡ get_or kids i c)
read_at [] i c h = absurd cc
read_at (k ∷ kids) zero c h = (omega arith, (let e : k ≡ c = cc h in sym e))
read_at (k ∷ kids) (suc i) c h = let r = read_at kids i c h in (omega (arith, r.0), r.1)

pub step_places : (s : Step) (below : Seen) → IsStep s below
    → places_of (step_seen s below).pieces ≡ kids_places (step_kids s below)
step_places s below h = places-kids below.depth (arc_value s.keys) (step_kids s below) (step-pairs s below h)

-- a child's places are among the chunk's
child_within : (s : Step) (below : Seen) (i : ℕ) (c : OwnChild) (at : Ref) → IsStep s below
    → slice_get (step_kids s below) i ≡ Some c → Contains (child_places c) at
    → Contains (places_of (step_seen s below).pieces) at
child_within s below i c at h g w =
    let r = read_at (step_kids s below) i c g in
    subst (λ ps. Contains ps at) (sym (step_places s below h)) (kid-within (step_kids s below) i c r.0 r.1 at w)

-- the leaf
pub spot_leaf : (p : Contents) (key : Bytes) (e : End) → IsSpot p key (trail_seen [] e).pieces e None
spot_leaf p key e =
    let rows = paired (arc_value e.keys) e.values.items in
    ap (λ w. find (slice_cmp nat_cmp) key (rows_or w)) (sym (shown-rows p rows))

-- below the step
pub spot_tree : (p : Contents) (key : Bytes) (i : ℕ) (s : Step) (ss : List Step) (e : End) → IsTrail (s ∷ ss) e
    → IsPlace key (arc_value s.keys) i → i ≡ s.place → IsTree (shown p (trail_seen (s ∷ ss) e).pieces)
    → IsTree (shown p (trail_seen ss e).pieces)
spot_tree p key i s ss e h q j o =
    let below = trail_seen ss e in
    let g = ap (slice_get (step_kids s below)) j ∙ here_own s below h.0 in
    let d = step_down p s below key i (Own (kid_of s below)) h.0 q g o in
    let w = down_own p _ _ _ _ _ _ _ (kid_of s below) d refl in
    tree_of (shown p below.pieces) d.way.here w.0 d.way.strict

pub spot_on : (p : Contents) (key : Bytes) (i : ℕ) (s : Step) (ss : List Step) (e : End) (r : Option Ref)
    → IsTrail (s ∷ ss) e → IsPlace key (arc_value s.keys) i → i ≡ s.place
    → IsTree (shown p (trail_seen (s ∷ ss) e).pieces) → IsSpot p key (trail_seen ss e).pieces e r
    → IsSpot p key (trail_seen (s ∷ ss) e).pieces e r
spot_on p key i s ss e r h q j o x = by r x
  where
    below : Seen
    below = trail_seen ss e

    g : slice_get (step_kids s below) i ≡ Some (Own (kid_of s below))
    g = ap (slice_get (step_kids s below)) j ∙ here_own s below h.0

    same : find (slice_cmp nat_cmp) key (rows_or (shown p below.pieces))
        ≡ find (slice_cmp nat_cmp) key (rows_or (shown p (trail_seen (s ∷ ss) e).pieces))
    same =
        let d = step_down p s below key i (Own (kid_of s below)) h.0 q g o in
        down-find p _ _ _ _ _ _ _ (shown p below.pieces) d (down_own p _ _ _ _ _ _ _ (kid_of s below) d refl).0

    by : (r : Option Ref) → IsSpot p key below.pieces e r → IsSpot p key (trail_seen (s ∷ ss) e).pieces e r
    by None x = x ∙ same
    by (Some at) x = (x.0, x.1 ∙ same, child_within s below i (Own (kid_of s below)) at h.0 g x.2)

-- another child of the step
pub spot_off : (p : Contents) (key : Bytes) (i : ℕ) (s : Step) (ss : List Step) (e : End) (at : Ref)
    → IsTrail (s ∷ ss) e → IsPlace key (arc_value s.keys) i → i ≢ s.place → at ≡ get_or s.children.items i at
    → IsTree (shown p (trail_seen (s ∷ ss) e).pieces) → IsSpot p key (trail_seen (s ∷ ss) e).pieces e (Some at)
spot_off p key i s ss e at h q n a o =
    let below = trail_seen ss e in
    let g = here_placed s below i at h.0 q.0 n a in
    let d = step_down p s below key i (Placed at) h.0 q g o in
    let w = down_placed p _ _ _ _ _ _ _ at d refl in (
      tree_of (chunk_rows p (stamp_of at)) d.way.here w d.way.strict,
      down-find p _ _ _ _ _ _ _ (chunk_rows p (stamp_of at)) d w,
      child_within s below i (Placed at) at h.0 g (one_here at),
    )

-- A TRAIL WITHOUT ROWS

pub none_step : (p : Contents) (s : Step) (below : Seen) (rows : Rows) → IsStep s below
    → shown p (step_seen s below).pieces ≡ Some rows → false ≡ (length rows == 0)
none_step p s below rows h e =
    by (arc_value s.keys) (step_kids s below) (step-pairs s below h) (omega (arith, h.2))
    (sym (shown-kids p below.depth (paired (arc_value s.keys) (step_kids s below)) h.3) ∙ e)
  where
    by : (ks : List Bytes) (xs : List OwnChild) → length xs ≡ length ks → 0 < length ks
        → joined_rows (shows_of (kid_rows p below.depth) (paired ks xs)) ≡ Some rows → false ≡ (length rows == 0)
    by [] xs l z j = absurd (omega arith)
    by (k ∷ ks) [] l z j = absurd (omega arith)
    by (k ∷ ks) (x ∷ xs) l z j = some_rows (k, kid_rows p below.depth (k, x))
        (shows_of (kid_rows p below.depth) (paired ks xs)) rows j

pub none_leaf : (p : Contents) (e : End) (rows : Rows) → IsTrail [] e → shown p (trail_seen [] e).pieces ≡ Some rows
    → (length e.values.items == 0) ≡ (length rows == 0)
none_leaf p e rows h j =
    let r : paired (arc_value e.keys) e.values.items ≡ rows = some_is
    (sym (shown-rows p (paired (arc_value e.keys) e.values.items)) ∙ j) in
    ap (λ n. n == 0) (h.1 ∙ sym (length-paired (arc_value e.keys) e.values.items h.1) ∙ ap length r)

is_zero : (n : ℕ) → (n == 0) ≡ true → n ≡ 0
is_zero n q = grind (arith, nat_tests)

-- a trail of which only the leaf is left, and another one
pub none_end : (p : Contents) (ss : List Step) (e : End) (rows : Rows) → AreSteps ss e → (length ss == 0) ≡ true
    → shown p (steps_seen ss e).pieces ≡ Some rows → (length e.values.items == 0) ≡ (length rows == 0)
none_end p [] e rows h q j = none_leaf p e rows h j
none_end p (s ∷ ss) e rows h q j = let z = is_zero (length (s ∷ ss)) q in absurd (omega (arith, z))

step_first : (p : Contents) (ss : List Step) (e : End) (rows : Rows) → IsTrail ss e → (length ss == 0) ≡ false
    → shown p (trail_seen ss e).pieces ≡ Some rows → false ≡ (length rows == 0)
step_first p [] e rows h q j = let t : (0 == 0) ≡ true = grind (arith, nat_tests) in absurd (true≢false (sym t ∙ q))
step_first p (s ∷ ss) e rows h q j = none_step p s (trail_seen ss e) rows h.0 j

pub some_step : (p : Contents) (ss : List Step) (e : End) (rows : Rows) → AreSteps ss e → (length ss == 0) ≡ false
    → shown p (steps_seen ss e).pieces ≡ Some rows → false ≡ (length rows == 0)
some_step p ss e rows h q j = step_first p (reverse ss) e rows h (ap (λ n. n == 0) (length-reverse ss) ∙ q) j
