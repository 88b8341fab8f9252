-- A descent to a key meets each chunk below its root that has the key.
use Rattle.std.proofs.Common.{◌≡◌, ◌<◌, ◌≤◌, ◌↔◌, ℕ, ◌+◌, Bool, true, false, List, [], ◌∷◌, ◌++◌, map, length, take}
use Rattle.std.proofs.Common.{Option, Some, None, refl, sym, ap, ◌∙◌, subst, arith, slice_get, T, min, length-take}
use Rattle.std.specs.Prelude.{option_map, option_and_then, IsSome, if◌then◌else◌}
use Rattle.std.specs.List.{Contains}
use Rattle.std.specs.Ordering.{is_gt, nat_cmp}
use Rattle.std.specs.Cmp.Lexicographic.{slice_cmp}
use Rattle.std.specs.FinMap as finite
use mathlib.Core.List.{IsPrefix}
use Rattle.group_history.specs.declared.nodes.Chunk.{Chunk}
use Rattle.group_history.specs.declared.nodes.Chunk.TheVariants.{Leaf, Inner}
use Rattle.group_history.specs.declared.nodes.Node.{Node}
use Rattle.group_history.specs.declared.nodes.Node.TheVariants as node
use Rattle.group_history.specs.declared.refs.Ref.{Ref}
use Rattle.group_history.specs.Map.{Bytes, Entries}
use Rattle.group_history.specs.Refs.{stamp_of}
use Rattle.group_history.specs.Rows.{paired, keys_of, values_of}
use Rattle.group_history.specs.Naming.{children, chunk_children}
use Rattle.group_history.specs.Spelling.{Contents, Segment, Spelled, segment, segment_in, rows_if, rows_in, joined_rows}
use Rattle.group_history.specs.Spelling.{sized, chunk_in, segment_map, segment_at, map_at}
use Rattle.group_history.proofs.Folding.{and_then-some}
use Rattle.group_history.proofs.Lists.{prefix_trans, no_element, first_here, later_here}
use Rattle.map_chunks.specs.Places.{AreAll}
use Rattle.map_chunks.proofs.KeptLemmas.{IfAt}
use Rattle.commit_graph.specs.Reach.{Reaches, itself, through}
use Rattle.commit_graph.specs.Inside.Meeting.{or_this, choose, child_for, HasKeyAt, LiesChunk}
use Rattle.commit_graph.proofs.Spelled.{made_of, spelled_segment, option_map-some, sized-some, below_segment}
use Rattle.commit_graph.proofs.Spelled.{segment-grown, chunk-at, inner-at, joined_there}
use Rattle.std.proofs.lemmas.Bool.{eq-eqb}
use Rattle.commit_graph.proofs.Choosing.{chosen, part}
use Rattle.commit_graph.proofs.Reached.{IsThere, there_segment, reaches_stays, reaches_back, child_there}
use Rattle.map_chunks.proofs.RowLemmas.{IsStrict, strict}

-- the rows of a stamp's chunk are in strict order
abbrev pub Ordered : Contents → ℕ → Type 0
Ordered ns k = (s : Segment) × (segment_at ns k ≡ Some s) × IsStrict s.rows

pub map_ordered : (ns : Contents) (k : ℕ) → IsSome (map_at ns k) → Ordered ns k
map_ordered ns k h = of (segment_at ns k) refl h
  where
    of : (o : Option Segment) → segment_at ns k ≡ o → IsSome (option_and_then segment_map o) → Ordered ns k
    of None e h = absurd (cc h)
    of (Some s) e h = (
      s,
      e,
      strict s.rows
          (sorted_if (finite.is_sorted (slice_cmp nat_cmp) s.rows) (finite.from_sorted s.rows) h),
    )
      where
        sorted_if : (b : Bool) (m : Entries) → IsSome (if b then Some m else None) → T b
        sorted_if true m h = tt
        sorted_if false m h = absurd (cc h)

-- the parts of an inner chunk's rows
pub inner_parts : (ns : Contents) (k : ℕ) (kids : List (Bytes × ℕ)) (s : Segment)
    → slice_get ns k ≡ Some (node.Chunk (Inner kids)) → segment_at ns k ≡ Some s
    → (done : List (Option Spelled)) × (d : ℕ) × (joined_rows (map (λ x. (x.0, rows_in done d x.1)) kids) ≡ Some s.rows)
    × ((c : ℕ) (t : Segment) → Contains (values_of kids) c → segment_at ns c ≡ Some t
    → rows_in done d c ≡ Some t.rows)
inner_parts ns k [] s is h =
    let u = made_of ns k (node.Chunk (Inner [])) (segment s) is (spelled_segment ns k s h) in
    let o = option_map-some segment (chunk_in u.0 (Inner [])) (segment s) u.1 in absurd (cc (o.1))
inner_parts ns k (e ∷ es) s is h =
    let u = made_of ns k (node.Chunk (Inner (e ∷ es))) (segment s) is (spelled_segment ns k s h) in
    let o = option_map-some segment (chunk_in u.0 (Inner (e ∷ es))) (segment s) u.1 in
    let same : o.0 ≡ s = cc (o.2) in
    let f = and_then-some (segment_in u.0 e.1) _ o.0 o.1 in
    let j = and_then-some (joined_rows (map (λ x. (x.0, rows_in u.0 f.0.depth x.1)) (e ∷ es)))
    (sized (length (e ∷ es)) (f.0.depth + 1)) o.0 f.2 in
    let z = sized-some (length (e ∷ es)) (f.0.depth + 1) j.0 o.0 j.2 in
    let rows : j.0 ≡ s.rows = sym z.1 ∙ ap (λ (x : Segment). x.rows) same in (
      u.0,
      f.0.depth,
      j.1 ∙ ap Some rows,
      λ c t has at. (let r = joined_there u.0 f.0.depth (e ∷ es) j.0 c j.1 has in
          let w = below_segment ns k u.0 c r.0 u.2 r.1 in
          let q : r.0 ≡ t = (let x : Some r.0 ≡ Some t = sym w.1 ∙ at in cc x) in
          ap (λ o. option_and_then (rows_if f.0.depth) o) r.1 ∙
          (ap (λ b. if b then Some r.0.rows else None) (eq-eqb r.0.depth f.0.depth r.2) ∙ ap
          (λ (x : Segment). Some x.rows) q)),
    )

-- a child of an inner chunk in strict order is in strict order, and its keys are the chunk's
child_part : (ns : Contents) (k : ℕ) (kids : List (Bytes × ℕ)) (s t : Segment) (c : ℕ) (key : Bytes)
    → slice_get ns k ≡ Some (node.Chunk (Inner kids)) → segment_at ns k ≡ Some s → IsStrict s.rows
    → Contains (values_of kids) c → segment_at ns c ≡ Some t
    → IsStrict t.rows × (Contains (keys_of t.rows) key → Contains (keys_of s.rows) key)
child_part ns k kids s t c key is h order has at =
    let p = inner_parts ns k kids s is h in part p.0 p.1 key kids s.rows c t.rows p.2 order has (p.3 c t has at)

child_chosen : (ns : Contents) (k : ℕ) (kids : List (Bytes × ℕ)) (s t : Segment) (c : ℕ) (key : Bytes)
    → slice_get ns k ≡ Some (node.Chunk (Inner kids)) → segment_at ns k ≡ Some s → IsStrict s.rows
    → Contains (values_of kids) c → segment_at ns c ≡ Some t → Contains (keys_of t.rows) key → choose key kids ≡ Some c
child_chosen ns k kids s t c key is h order has at own =
    let p = inner_parts ns k kids s is h in chosen p.0 p.1 key kids s.rows c t.rows p.2 order has (p.3 c t has at) own

by_child : (ns : Contents) (a c : ℕ) (s : Segment) (key : Bytes) → segment_at ns a ≡ Some s → IsStrict s.rows
    → (n : Chunk ℕ) → slice_get ns a ≡ Some (node.Chunk n) → Contains (children (node.Chunk n)) c
    → ((t : Segment) → segment_at ns c ≡ Some t → IsStrict t.rows → Contains (keys_of t.rows) key)
    → Contains (keys_of s.rows) key
by_child ns a c s key h order (Leaf rows) is i below = absurd (no_element c i)
by_child ns a c s key h order (Inner kids) is i below =
    let t = ((inner-at ns a kids s is h).2 c i).1 in
    let p = child_part ns a kids s t.0 c key is h order i t.1 in p.1 (below t.0 t.1 p.0)

-- a chunk has the keys of all that it reaches
has_below : (ns : Contents) (a b : ℕ) (s : Segment) (key : Bytes) → segment_at ns a ≡ Some s → IsStrict s.rows
    → Reaches ns a b → HasKeyAt ns b key → Contains (keys_of s.rows) key
has_below ns _ _ s key h order (itself a) has = let e : has.0
    ≡ s = (let x : Some has.0 ≡ Some s = sym has.1 ∙ h in cc x) in
    subst (λ (w : Segment). Contains (keys_of w.rows) key) e has.2
has_below ns _ _ s key h order (through a c b n is child rest) has =
    let m = chunk-at ns a n s is h in
    by_child ns a c s key h order m.0 (is ∙ ap Some m.1) (subst (λ (w : Node ℕ). Contains (children w) c) m.1 child)
    (λ t at o. has_below ns c b t key at o rest has)

-- the first step of a way down
way_down : (ns : Contents) (a b : ℕ) → Reaches ns a b → b < a
    → (c : ℕ) × (n : Node ℕ) × (slice_get ns a ≡ Some n) × Contains (children n) c × Reaches ns c b
way_down ns _ _ (itself a) low = absurd (omega (arith, low))
way_down ns _ _ (through a c b n is child rest) low = (c, n, is, child, rest)

low_there : (ns : Contents) (a b : ℕ) → IsThere ns a → Reaches ns a b → b ≤ a
low_there ns _ _ t (itself a) = omega arith
low_there ns _ _ t (through a c b n is child rest) = let w = child_there ns a c n t is child in
    let l = low_there ns c b w.1 rest in omega (arith, l, w.0)

-- what is reached has no greater stamp
pub reach_low : (ns : Contents) (a b : ℕ) (s : Segment) → segment_at ns a ≡ Some s → Reaches ns a b → b ≤ a
reach_low ns a b s h r = low_there ns a b (there_segment ns a s h) r

or_this_in : {A : Type 0} (o : Option A) (b : Bool) (x c : A) (P : A → Type 0)
    → or_this o (if b then None else Some x) ≡ Some c → (o ≡ Some c → P c) → P x → P c
or_this_in (Some y) b x c P h f g = f h
or_this_in None true x c P h f g = absurd (cc h)
or_this_in None false x c P h f g = subst P (let q : x ≡ c = cc h in q) g

choose_in : {A : Type 0} (k : Bytes) (es : List (Bytes × A)) (c : A) → choose k es ≡ Some c → Contains (values_of es) c
choose_in k [] c h = absurd (cc h)
choose_in k (e ∷ es) c h = or_this_in (choose k es) (is_gt (slice_cmp nat_cmp e.0 k)) e.1 c
    (Contains (values_of (e ∷ es))) h (λ p. later_here e.1 (values_of es) c (choose_in k es c p))
    (first_here e.1 (values_of es))

choose_renamed : (k : Bytes) (kids : List (Bytes × Ref))
    → choose k (map (λ (e : Bytes × Ref). (e.0, stamp_of e.1)) kids) ≡ option_map stamp_of (choose k kids)
choose_renamed k [] = refl
choose_renamed k (e ∷ es) = ap (λ o. or_this o (if is_gt (slice_cmp nat_cmp e.0 k) then None else Some (stamp_of e.1)))
    (choose_renamed k es) ∙ by (choose k es) (is_gt (slice_cmp nat_cmp e.0 k))
  where
    by : (o : Option Ref) (b : Bool) → or_this (option_map stamp_of o) (if b then None else Some (stamp_of e.1))
        ≡ option_map stamp_of (or_this o (if b then None else Some e.1))
    by (Some x) b = refl
    by None true = refl
    by None false = refl

pub choose_append : {A : Type 0} (k : Bytes) (es : List (Bytes × A)) (e : Bytes × A)
    → choose k (es ++ e ∷ []) ≡ (if is_gt (slice_cmp nat_cmp e.0 k) then choose k es else Some e.1)
choose_append k [] e = refl
choose_append k (d ∷ es) e = ap (λ o. or_this o (if is_gt (slice_cmp nat_cmp d.0 k) then None else Some d.1))
    (choose_append k es e) ∙ by (is_gt (slice_cmp nat_cmp e.0 k))
  where
    by : (b : Bool) → or_this (if b then choose k es else Some e.1)
        (if is_gt (slice_cmp nat_cmp d.0 k) then None else Some d.1)
        ≡ (if b then or_this (choose k es) (if is_gt (slice_cmp nat_cmp d.0 k) then None else Some d.1) else Some e.1)
    by true = refl
    by false = refl

-- While a descent goes down from a root: the root reaches the target just where the chunk at hand does.
pub record IsMeeting (first ns : Contents) (key : Bytes) (root at target : ℕ) : Type 0 where
  pub rows : Segment
  pub here : segment_at ns at ≡ Some rows
  pub order : IsStrict rows.rows
  pub has : HasKeyAt first target key
  pub same : Reaches first root target ↔ Reaches ns at target
  pub grown : IsPrefix first ns

pub meeting_begins : (first : Contents) (root target : ℕ) (key : Bytes) → IsSome (map_at first root)
    → HasKeyAt first target key → IsPrefix first first → IsMeeting first first key root root target
meeting_begins first root target key h has pre = let o = map_ordered first root h in
    record { rows = o.0; here = o.1; order = o.2; has = has; same = (λ r. r, λ r. r); grown = pre }

-- the chunk at hand reaches the target through the chosen child alone
through_chosen : (first ns more : Contents) (key : Bytes) (root at target : ℕ) (kids : List (Bytes × ℕ))
    → IsMeeting first ns key root at target → target < at → IsPrefix ns more
    → slice_get more at ≡ Some (node.Chunk (Inner kids))
    → Reaches first root target → (c : ℕ) × (choose key kids ≡ Some c) × Reaches more c target
through_chosen first ns more key root at target kids is low pre lies r =
    let here = segment-grown ns more at is.rows pre is.here in
    let w = way_down more at target (reaches_stays ns more at target pre (is.same.0 r)) low in
    let n : w.1 ≡ node.Chunk (Inner kids) =
    (let x : Some w.1 ≡ Some (node.Chunk (Inner kids)) = sym w.2 ∙ lies in cc x) in
    let child : Contains (values_of kids) w.0 = subst (λ (m : Node ℕ). Contains (children m) w.0) n w.3 in
    let t = ((inner-at more at kids is.rows lies here).2 w.0 child).1 in
    let p = child_part more at kids is.rows t.0 w.0 key lies here is.order child t.1 in
    let all = prefix_trans first ns more is.grown pre in
    let own = has_below more w.0 target t.0 key t.1 p.0 w.4
    (is.has.0, segment-grown first more target is.has.0 all is.has.1, is.has.2) in
    (w.0, child_chosen more at kids is.rows t.0 w.0 key lies here is.order child t.1 own, w.4)

pub meeting_step : (first ns more : Contents) (key : Bytes) (root at target : ℕ) (c : Chunk Ref) (child : Ref)
    → IsMeeting first ns key root at target → target < at → IsPrefix ns more → LiesChunk more at c
    → child_for key c ≡ Some child
    → (stamp_of child < at) × IsMeeting first more key root (stamp_of child) target
meeting_step first ns more key root at target (Leaf rows) child is low pre lies goes = absurd (cc goes)
meeting_step first ns more key root at target (Inner kids) child is low pre lies goes =
    let ks = map (λ (e : Bytes × Ref). (e.0, stamp_of e.1)) kids in
    let here = segment-grown ns more at is.rows pre is.here in
    let pick : choose key ks ≡ Some (stamp_of child) = choose_renamed key kids ∙ ap (option_map stamp_of) goes in
    let in_kids = choose_in key ks (stamp_of child) pick in
    let t = (inner-at more at ks is.rows lies here).2 (stamp_of child) in_kids in
    let p = child_part more at ks is.rows t.1.0 (stamp_of child) key lies here is.order in_kids t.1.1 in (
      t.0,
      record {
        rows = t.1.0;
        here = t.1.1;
        order = p.0;
        has = is.has;
        same = (
          λ r. (let w = through_chosen first ns more key root at target ks is low pre lies r in
              let e : w.0 ≡ stamp_of child = (let x : Some w.0 ≡ Some (stamp_of child) = sym w.1 ∙ pick in cc x) in
              subst (λ (z : ℕ). Reaches more z target) e w.2),
          λ r. is.same.1 (reaches_back ns more at target pre (there_segment ns at is.rows is.here)
              (through at (stamp_of child) target (node.Chunk (Inner ks)) lies in_kids r)),
        );
        grown = prefix_trans first ns more is.grown pre;
      },
    )

pub meeting_stops : (first ns more : Contents) (key : Bytes) (root at target : ℕ) (c : Chunk Ref)
    → IsMeeting first ns key root at target → target < at → IsPrefix ns more → LiesChunk more at c
    → child_for key c ≡ None → Reaches first root target → ⊥
meeting_stops first ns more key root at target (Leaf rows) is low pre lies goes r =
    let w = way_down more at target (reaches_stays ns more at target pre (is.same.0 r)) low in
    let n : w.1 ≡ node.Chunk (Leaf rows) =
    (let x : Some w.1 ≡ Some (node.Chunk (Leaf rows)) = sym w.2 ∙ lies in cc x) in
    no_element w.0 (subst (λ (m : Node ℕ). Contains (children m) w.0) n w.3)
meeting_stops first ns more key root at target (Inner kids) is low pre lies goes r =
    let ks = map (λ (e : Bytes × Ref). (e.0, stamp_of e.1)) kids in
    let w = through_chosen first ns more key root at target ks is low pre lies r in
    let e : Some w.0 ≡ None = sym w.1 ∙ (choose_renamed key kids ∙ ap (option_map stamp_of) goes) in cc e

pub meeting_ends : (first ns : Contents) (key : Bytes) (root at target : ℕ) → IsMeeting first ns key root at target
    → at ≤ target → (at ≡ target) ↔ Reaches first root target
meeting_ends first ns key root at target is low = (
  λ e. is.same.1 (subst (λ (w : ℕ). Reaches ns at w) e (itself at)),
  λ r. (let l = reach_low ns at target is.rows is.here (is.same.0 r) in omega (arith, l, low)),
)

paired_end : {A B : Type 0} (xs : List A) (ys : List B) (x : A) (y : B) → length xs ≡ length ys
    → paired (xs ++ x ∷ []) (ys ++ y ∷ []) ≡ paired xs ys ++ (x, y) ∷ []
paired_end [] [] x y h = refl
paired_end [] (b ∷ ys) x y h = absurd (cc h)
paired_end (a ∷ xs) [] x y h = absurd (cc h)
paired_end (a ∷ xs) (b ∷ ys) x y h = ap (λ w. (a, b) ∷ w)
    (paired_end xs ys x y (let e : length xs ≡ length ys = cc h in e))

pub paired_append : {A B : Type 0} (xs : List A) (ys : List B) (i : ℕ) (x : A) (y : B) → length ys ≡ length xs
    → paired (take i xs ++ x ∷ []) (take i ys ++ y ∷ []) ≡ paired (take i xs) (take i ys) ++ (x, y) ∷ []
paired_append xs ys i x y h = paired_end (take i xs) (take i ys) x y
    (length-take i xs ∙ (ap (min i) (sym h) ∙ sym (length-take i ys)))

-- a child that is chosen is one of the children
chosen_in : (k : Bytes) (kids : List (Bytes × Ref)) (r : Ref) → choose k kids ≡ Some r → Contains (values_of kids) r
chosen_in k [] r h = absurd (cc h)
chosen_in k (e ∷ es) r h = by (choose k es) refl (is_gt (slice_cmp nat_cmp e.0 k)) h (λ c. chosen_in k es r c)
  where
    by : (o : Option Ref) → choose k es ≡ o → (b : Bool) → or_this o (if b then None else Some e.1) ≡ Some r
        → (choose k es ≡ Some r → Contains (values_of es) r) → Contains (values_of (e ∷ es)) r
    by (Some x) c b i below = let same : x ≡ r = cc i in later_here e.1 (values_of es) r (below (c ∙ ap Some same))
    by None c true i below = absurd (cc i)
    by None c false i below = let same : e.1 ≡ r = cc i in
        subst (Contains (e.1 ∷ values_of es)) same (first_here e.1 (values_of es))

pub child_may : (may : Ref → Type 0) (k : Bytes) (c : Chunk Ref) (child : Option Ref) → AreAll may (chunk_children c)
    → child ≡ child_for k c → IfAt may child
child_may may k c None all e = tt
child_may may k (Leaf rows) (Some r) all e = absurd (cc e)
child_may may k (Inner kids) (Some r) all e = all r (chosen_in k kids r (sym e))
