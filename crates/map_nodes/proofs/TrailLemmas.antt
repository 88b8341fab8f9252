-- What a trail is as an own chunk: its steps as inner chunks, and a chunk of it in another place.
use Rattle.std.proofs.Common.{◌≡◌, ◌<◌, ◌+◌, ◌-◌, ◌≢◌, ℕ, zero, suc, List, [], ◌∷◌, ◌++◌, Some, length, max, reverse}
use Rattle.std.proofs.Common.{slice_get, get_or, set, length-set, refl, sym, ap, ◌∙◌, subst, arith}
use Rattle.std.proofs.lemmas.List.{get_or-set_same, get_or-set_other, get_or-map, length-reverse, reverse-append}
use Rattle.std.specs.Arc.{arc_value}
use denote.RawPtr.{null_ptr}
use Rattle.group_history.specs.declared.refs.Ref.{Ref}
use Rattle.group_history.specs.Map.{Bytes}
use Rattle.group_history.specs.Rows.{paired}
use Rattle.group_history.specs.Spelling.{Contents}
use Rattle.map_chunks.proofs.SearchLemmas.{got}
use Rattle.map_chunks.specs.Search.{IsPlace}
use Rattle.map_chunks.specs.Shown.{fresh, own, Seen, shown, IsTree}
use Rattle.map_nodes.proofs.CopyLemmas.{placed_fresh}
use Rattle.map_nodes.proofs.CountLemmas.{owned-inner}
use Rattle.map_nodes.proofs.NodeLemmas.{Down, down}
use Rattle.map_nodes.specs.Inside.Laying.{inner_seen}
use Rattle.map_nodes.specs.Inside.Freezing.{kids_places}
use Rattle.map_nodes.specs.Inside.Nodes.{Kid}
use Rattle.map_nodes.specs.Levels.{parting}
use Rattle.map_nodes.specs.Nodes.{AllKids, HeadIs, child_height, child_pieces, kids_fresh, kids_height, kids_pieces}
use Rattle.map_nodes.specs.Nodes.{child_marks, kids_marks, sunk}
use Rattle.map_nodes.specs.Trails.{placed_kids, step_kids, step_seen, steps_seen, trail_seen}
use Rattle.map_nodes.specs.Trails.{AreSteps, IsTrailEnd, IsStep, IsTrail}
use Rattle.map_nodes.specs.declared.nodes.OwnChild.{OwnChild}
use Rattle.map_nodes.specs.declared.nodes.OwnChild.TheVariants.{Placed, Own}
use Rattle.map_nodes.specs.declared.nodes.trails.End.{End}
use Rattle.map_nodes.specs.declared.nodes.trails.Step.{Step}

pub one_less : (n : ℕ) → n + 1 - 1 ≡ n
one_less n = omega arith

pub length-placed : (ats : List Ref) → length (placed_kids ats) ≡ length ats
length-placed [] = refl
length-placed (a ∷ ats) = ap suc (length-placed ats)

pub placed-places : (ats : List Ref) → kids_places (placed_kids ats) ≡ ats
placed-places [] = refl
placed-places (a ∷ ats) = ap (λ w. a ∷ w) (placed-places ats)

-- WHEREVER A CHILD LIES

same_pieces : (b : ℕ) (ks : List Bytes) (xs : List OwnChild) (i : ℕ) (n m : Kid) → n.value ≡ m.value
    → kids_pieces b (paired ks (set xs i (Own n))) ≡ kids_pieces b (paired ks (set xs i (Own m)))
same_pieces b [] xs i n m e = refl
same_pieces b (k ∷ ks) [] i n m e = refl
same_pieces b (k ∷ ks) (x ∷ xs) zero n m e = ap (λ (s : Seen). s.pieces ++ kids_pieces b (paired ks xs)) e
same_pieces b (k ∷ ks) (x ∷ xs) (suc i) n m e = ap (λ w. child_pieces b k x ++ w) (same_pieces b ks xs i n m e)

same_height : (xs : List OwnChild) (i : ℕ) (n m : Kid) → n.value ≡ m.value
    → kids_height (set xs i (Own n)) ≡ kids_height (set xs i (Own m))
same_height [] i n m e = refl
same_height (x ∷ xs) zero n m e = ap (λ (s : Seen). max (s.height + 1) (kids_height xs)) e
same_height (x ∷ xs) (suc i) n m e = ap (λ w. max (child_height x) w) (same_height xs i n m e)

same_marks : (b : ℕ) (xs : List OwnChild) (i : ℕ) (n m : Kid) → n.value ≡ m.value
    → kids_marks b (set xs i (Own n)) ≡ kids_marks b (set xs i (Own m))
same_marks b [] i n m e = refl
same_marks b (x ∷ xs) zero n m e = ap (λ (s : Seen). s.marks ++ kids_marks b xs) e
same_marks b (x ∷ xs) (suc i) n m e = ap (λ w. child_marks b x ++ w) (same_marks b xs i n m e)

same_all : (b : ℕ) (ks : List Bytes) (xs : List OwnChild) (i : ℕ) (n m : Kid) → n.value ≡ m.value
    → AllKids b (paired ks (set xs i (Own m))) → AllKids b (paired ks (set xs i (Own n)))
same_all b [] xs i n m e h = tt
same_all b (k ∷ ks) [] i n m e h = tt
same_all b (k ∷ ks) (x ∷ xs) zero n m e h =
    (subst (λ (s : Seen). (s.depth ≡ b) × HeadIs k s.pieces) (sym e) h.0, h.1)
same_all b (k ∷ ks) (x ∷ xs) (suc i) n m e h = (h.0, same_all b ks xs i n m e h.1)

-- STEPS

abbrev pub kid_of : Step → Seen → Kid
kid_of s below = record { ptr = null_ptr; alloc = s.children.alloc; value = below }

pub step-pairs : (s : Step) (below : Seen) → IsStep s below → length (step_kids s below) ≡ length (arc_value s.keys)
step-pairs s below h = length-set (placed_kids s.children.items) s.place (Own (kid_of s below)) ∙ length-placed
    s.children.items ∙ h.1

pub fresh_placed : (ats : List Ref) (i : ℕ) (n : Kid) → i < length ats
    → kids_fresh (set (placed_kids ats) i (Own n)) ≡ fresh n.value
fresh_placed [] i n l = absurd (omega arith)
fresh_placed (a ∷ ats) zero n l = let r = placed_fresh ats in omega (arith, r)
fresh_placed (a ∷ ats) (suc i) n l = let r = fresh_placed ats i n (omega arith) in omega (arith, r)

pub step-fresh : (s : Step) (below : Seen) → IsStep s below → fresh (step_seen s below) ≡ fresh below + 1
step-fresh s below h =
    owned-inner below.depth (parting (arc_value s.keys)) (step_kids s below)
    ∙ ap (λ n. n + 1) (fresh_placed s.children.items s.place (kid_of s below) (omega (arith, h.1, h.2)))

-- where the lowest step stands first, the last one is the topmost
pub topmost : (all ss : List Step) (s : Step) → all ≡ ss ++ s ∷ [] → reverse all ≡ s ∷ reverse ss
topmost all ss s w = ap reverse w ∙ reverse-append ss (s ∷ [])

trail_depth : (ss : List Step) (e : End) → (trail_seen ss e).depth ≡ length ss + 1
trail_depth [] e = omega arith
trail_depth (s ∷ ss) e = let r = trail_depth ss e in omega (arith, r)

pub steps_depth : (ss : List Step) (e : End) → (steps_seen ss e).depth ≡ length ss + 1
steps_depth ss e = trail_depth (reverse ss) e ∙ ap (λ n. n + 1) (length-reverse ss)

trail_fresh : (ss : List Step) (e : End) → IsTrail ss e → fresh (trail_seen ss e) ≡ length ss + 1
trail_fresh [] e h = omega arith
trail_fresh (s ∷ ss) e h = let r = trail_fresh ss e h.1 in omega (arith, r, step-fresh s (trail_seen ss e) h.0)

pub steps_fresh : (ss : List Step) (e : End) → AreSteps ss e → fresh (steps_seen ss e) ≡ length ss + 1
steps_fresh ss e h = trail_fresh (reverse ss) e h ∙ ap (λ n. n + 1) (length-reverse ss)

trail_end : (ss : List Step) (e : End) → IsTrail ss e → IsTrailEnd e
trail_end [] e h = h
trail_end (s ∷ ss) e h = trail_end ss e h.1

pub steps_end : (ss : List Step) (e : End) → AreSteps ss e → IsTrailEnd e
steps_end ss e h = trail_end (reverse ss) e h

-- an own chunk over the same chunk, wherever that lies
pub seen_over : (s : Step) (below : Seen) (n : Kid) (depth : ℕ) (keys : List Bytes) (kids : List OwnChild)
    → depth ≡ below.depth + 1 → keys ≡ arc_value s.keys → n.value ≡ below
    → kids ≡ set (placed_kids s.children.items) s.place (Own n)
    → inner_seen depth keys kids ≡ step_seen s below
seen_over s below n depth keys kids d k v e =
    let m = kid_of s below in
    let xs = placed_kids s.children.items in
    let texts = arc_value s.keys in
    ap (λ w. inner_seen w keys kids) d ∙ ap (λ w. inner_seen (below.depth + 1) w kids) k
    ∙ ap (λ w. inner_seen (below.depth + 1) texts w) e
    ∙ ap (λ b. record {
      depth = below.depth + 1;
      entries = length texts;
      pieces = kids_pieces b (paired texts (set xs s.place (Own n)));
      height = kids_height (set xs s.place (Own n)) + 2;
      marks = own 0 (parting texts) ∷ sunk (kids_marks b (set xs s.place (Own n)));
    }) (one_less below.depth)
    ∙ ap (λ w. record {
      depth = below.depth + 1;
      entries = length texts;
      pieces = w;
      height = kids_height (set xs s.place (Own n)) + 2;
      marks = own 0 (parting texts) ∷ sunk (kids_marks below.depth (set xs s.place (Own n)));
    }) (same_pieces below.depth texts xs s.place n m v)
    ∙ ap (λ w. record {
      depth = below.depth + 1;
      entries = length texts;
      pieces = kids_pieces below.depth (paired texts (set xs s.place (Own m)));
      height = w + 2;
      marks = own 0 (parting texts) ∷ sunk (kids_marks below.depth (set xs s.place (Own n)));
    }) (same_height xs s.place n m v)
    ∙ ap (λ w. record {
      depth = below.depth + 1;
      entries = length texts;
      pieces = kids_pieces below.depth (paired texts (set xs s.place (Own m)));
      height = kids_height (set xs s.place (Own m)) + 2;
      marks = own 0 (parting texts) ∷ sunk w;
    }) (same_marks below.depth xs s.place n m v)

-- what holds of such a chunk
pub node_over : (s : Step) (below : Seen) (n : Kid) (depth : ℕ) (keys : List Bytes) (kids : List OwnChild)
    → IsStep s below → depth ≡ below.depth + 1 → keys ≡ arc_value s.keys → n.value ≡ below
    → kids ≡ set (placed_kids s.children.items) s.place (Own n)
    → (0 < depth) × (0 < length keys) × (length kids ≡ length keys) × AllKids (depth - 1) (paired keys kids)
node_over s below n depth keys kids h d k v e =
    let xs = placed_kids s.children.items in
    let deep : depth - 1 ≡ below.depth = omega (arith, d) in
    let all : AllKids below.depth (paired (arc_value s.keys) (set xs s.place (Own n))) = same_all below.depth
    (arc_value s.keys) xs s.place n (kid_of s below) v h.3 in (
      omega (arith, d),
      omega (arith, ap length k, h.2),
      ap length e ∙ length-set xs s.place (Own n) ∙ length-placed s.children.items ∙ h.1 ∙ sym (ap length k),
      subst (λ b. AllKids b (paired keys kids)) (sym deep)
          (subst (λ ks. AllKids below.depth (paired ks kids)) (sym k)
          (subst (λ ks. AllKids below.depth (paired (arc_value s.keys) ks)) (sym e) all)),
    )

-- THE WAY DOWN

pub step_down : (p : Contents) (s : Step) (below : Seen) (key : Bytes) (i : ℕ) (child : OwnChild) → IsStep s below
    → IsPlace key (arc_value s.keys) i → slice_get (step_kids s below) i ≡ Some child
    → IsTree (shown p (step_seen s below).pieces)
    → Down p (below.depth + 1) (arc_value s.keys) (step_kids s below) (step_seen s below).pieces key i child
step_down p s below key i child h q g o =
    let keys = arc_value s.keys in
    let kids = step_kids s below in
    let deep : below.depth ≡ below.depth + 1 - 1 = sym (one_less below.depth) in
    down p (below.depth + 1) keys kids (step_seen s below).pieces key i child (step-pairs s below h)
    (subst (λ b. AllKids b (paired keys kids)) deep h.3) (ap (λ b. kids_pieces b (paired keys kids)) deep) q g o

-- the chunk below, and another child
pub here_own : (s : Step) (below : Seen) → IsStep s below
    → slice_get (step_kids s below) s.place ≡ Some (Own (kid_of s below))
here_own s below h =
    let xs = placed_kids s.children.items in
    let y = Own (kid_of s below) in
    let l : s.place < length xs = omega (arith, length-placed s.children.items, h.1, h.2) in
    got (set xs s.place y) s.place y (omega (arith, length-set xs s.place y, l)) ∙ ap (λ w. Some w)
    (get_or-set_same xs s.place y y l)

pub here_placed : (s : Step) (below : Seen) (i : ℕ) (at : Ref) → IsStep s below → i < length (arc_value s.keys)
    → i ≢ s.place → at ≡ get_or s.children.items i at
    → slice_get (step_kids s below) i ≡ Some (Placed at)
here_placed s below i at h l o e =
    let ats = s.children.items in
    let xs = placed_kids ats in
    let y = Own (kid_of s below) in
    let n : i < length xs = omega (arith, length-placed ats, h.1, l) in
    got (set xs s.place y) i y (omega (arith, length-set xs s.place y, n)) ∙ ap (λ w. Some w)
    (get_or-set_other xs s.place i y y o ∙ get_or-map (λ w. Placed w) ats i at y (omega (arith, h.1, l)) ∙ ap
    (λ w. Placed w) (sym e))

pub no_steps : (ss : List Step) → length ss ≡ 0 → reverse ss ≡ []
no_steps [] h = refl
no_steps (s ∷ ss) h = absurd (omega arith)
