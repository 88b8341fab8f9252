-- Own chunks and steps of a trail made over placed chunks on the way up.
use Rattle.std.proofs.Common.{◌≡◌, ◌<◌, ◌≤◌, ◌+◌, ◌-◌, ◌^◌, ℕ, zero, suc, Bool, true, false, T, inl, inr, List, [], ◌∷◌}
use Rattle.std.proofs.Common.{◌++◌, Option, Some, None, length, slice_get, get_or, set, append-nil, length-set, refl}
use Rattle.std.proofs.Common.{sym, ap, ◌∙◌, subst, arith, nat_cmp, Less}
use Rattle.std.proofs.lemmas.List.{get_or-map}
use Rattle.std.specs.Arc.{arc_value}
use Rattle.std.specs.List.{Contains}
use Rattle.std.specs.Prelude.{IsSome}
use Rattle.std.specs.Cmp.Lexicographic.{slice_cmp}
use Rattle.std.specs.FinMap.{find, put}
use mathlib.Core.List.{IsPrefix}
use Rattle.group_history.specs.declared.nodes.Chunk.TheVariants as chunked
use Rattle.group_history.specs.declared.refs.Ref.{Ref}
use Rattle.group_history.specs.Map.{Bytes}
use Rattle.group_history.specs.Naming.{chunk_content}
use Rattle.group_history.specs.Refs.{stamp_of}
use Rattle.group_history.specs.Rows.{AreKeys, is_below_all, keys_of, paired, rises, values_of}
use Rattle.group_history.specs.Spelling.{Contents, rows_at}
use Rattle.group_history.proofs.Pairs.{keys_of-paired, values_of-paired}
use Rattle.map_chunks.proofs.JoinLemmas.{some_is}
use Rattle.map_chunks.proofs.KeptLemmas.{kept-from_none}
use Rattle.map_chunks.proofs.OpenLemmas.{known}
use Rattle.map_chunks.proofs.RowLemmas.{both, cmp, first, greater_less, is_less, less, less_trans, second}
use Rattle.map_chunks.proofs.SearchLemmas.{got, length-keys_of, length-values_of}
use Rattle.map_chunks.proofs.WayLemmas.{Way, deep_rows}
use Rattle.map_chunks.specs.Places.{AreAll, AreKept, places_of}
use Rattle.map_chunks.specs.Search.{is_above, IsPlace}
use Rattle.map_chunks.specs.Seeking.{chunk_depth}
use Rattle.map_chunks.specs.Shown.{Piece, Seen, chunk_rows, rows_or, shown, IsTree}
use Rattle.map_nodes.proofs.CopyLemmas.{copied_pieces, copyable}
use Rattle.map_nodes.proofs.KeptLevels.{placed_inner, placed-values, still}
use Rattle.map_nodes.proofs.LevelLemmas.{changed_as, changed_copy, inner-levels}
use Rattle.map_nodes.specs.Levels.{IsCopied, parting, placed_levels, seen_levels, topped, IsRenewed}
use Rattle.map_nodes.proofs.NamedLemmas.{kept-finished, kept-kid}
use Rattle.map_nodes.proofs.NodeLemmas.{Down, down}
use Rattle.map_nodes.proofs.PathLemmas.{Put, filled_kids, length-lowered, length-pairs, put_path}
use Rattle.map_nodes.proofs.PutLevels.{child_put, firsts_are, put_as, put_copied, put_over}
use Rattle.map_nodes.proofs.RenewLemmas.{inner_replaced}
use Rattle.map_nodes.proofs.SpotLemmas.{read_at}
use Rattle.map_nodes.proofs.TrailLemmas.{kid_of, length-placed, placed-places, seen_over}
use Rattle.map_nodes.proofs.WideLemmas.{wide-copy}
use Rattle.map_nodes.specs.Inside.Copies.{chunk_pieces}
use Rattle.map_nodes.specs.Inside.Counts.{HasKept}
use Rattle.map_nodes.specs.Inside.Freezing.{child_places, kids_places}
use Rattle.map_nodes.specs.Inside.Halves.{half_pieces, lowered, ChildPut, IsHalf, IsLower}
use Rattle.map_nodes.specs.Inside.Laying.{entries_over, inner_seen, kids_over, CanGrowOver, IsCopiedStep, IsGrownOver}
use Rattle.map_nodes.specs.Inside.Laying.{IsBuilt}
use Rattle.map_nodes.specs.Inside.Nodes.{Kid, child_rows}
use Rattle.map_nodes.specs.Inside.Puts.{half_levels}
use Rattle.map_nodes.specs.Inside.Ready.{Suits}
use Rattle.map_nodes.specs.Nodes.{AllKids, kids_levels, kids_pieces}
use Rattle.map_nodes.specs.Trails.{placed_kids, step_kids, step_seen, IsStep}
use Rattle.map_nodes.specs.declared.nodes.OwnChild.TheVariants.{Placed, Own}
use Rattle.map_nodes.specs.declared.nodes.putting.Half.{Half}
use Rattle.map_nodes.specs.declared.nodes.trails.Step.{Step}

-- KEYS

-- what is below a key is below all that this one is below
below_lower : (k j : Bytes) (ks : List Bytes) → cmp k j ≡ Less → T (is_below_all j ks) → T (is_below_all k ks)
below_lower k j [] l h = tt
below_lower k j (x ∷ xs) l h =
    both _ _ (is_less _ (less_trans k j x l (less _ (first _ (is_below_all j xs) h))))
    (below_lower k j xs l (second _ (is_below_all j xs) h))

-- a key in the place of the first one that is above it
rises_lower : (keys : List Bytes) (i : ℕ) (k key : Bytes) → IsPlace key keys i
    → IsLower key (get_or keys i []) (Some k) → T (rises keys) → T (rises (set keys i k))
rises_lower [] zero k key p low o = tt
rises_lower (x ∷ xs) zero k key p low o =
    both _ _ (below_lower k x xs (subst (λ w. cmp w x ≡ Less) (sym low.0) (greater_less x key low.1))
    (first _ (rises xs) o)) (second (is_below_all x xs) _ o)
rises_lower keys (suc i) k key p low o =
    absurd (clash (is_above (get_or keys (suc i) []) key) (p.1 [] (omega arith)) low.1)
  where
    clash : (b : Bool) → b ≡ false → b ≡ true → ⊥
    clash true e f = cc
    clash false e f = cc

-- keys stay in order where the first one is lowered
pub lowered_keys : (keys : List Bytes) (i : ℕ) (key : Bytes) (lower : Option Bytes) → IsPlace key keys i
    → IsLower key (get_or keys i []) lower → AreKeys keys → AreKeys (lowered i lower keys)
lowered_keys keys i key None p low o = o
lowered_keys keys i key (Some k) p low o =
    (omega (arith, length-lowered i (Some k) keys, o.0), rises_lower keys i k key p low o.1)

-- THE WAY THROUGH A PLACED CHUNK

-- placed children are in order at any depth
all_placed : (below : ℕ) (ks : List Bytes) (ats : List Ref) → AllKids below (paired ks (placed_kids ats))
all_placed below [] ats = tt
all_placed below (k ∷ ks) [] = tt
all_placed below (k ∷ ks) (at ∷ ats) = (tt, all_placed below ks ats)

-- a placed inner chunk, so deep, and its child at the place to which a key belongs
pub record Over (q : Contents) (key : Bytes) (at below : Ref) (kids : List (Bytes × Ref)) (i depth : ℕ) : Type 0 where
  pub deep : 0 < depth
  pub filled : 0 < length kids
  pub content : slice_get q (stamp_of at) ≡ Some (chunk_content (chunked.Inner kids))
  pub place : IsPlace key (keys_of kids) i
  pub within : i < length (values_of kids)
  pub pairs : length (placed_kids (values_of kids)) ≡ length (keys_of kids)
  pub child : slice_get (placed_kids (values_of kids)) i ≡ Some (Placed below)
  pub here : rows_at q (depth - 1) (stamp_of below) ≡ Some (rows_or (chunk_rows q (stamp_of below)))
  pub same : find (slice_cmp nat_cmp) key (rows_or (chunk_rows q (stamp_of below)))
      ≡ find (slice_cmp nat_cmp) key (rows_or (chunk_rows q (stamp_of at)))
  pub pieces : List Piece
  pub rows_are : shown q pieces ≡ Some (rows_or (chunk_rows q (stamp_of at)))
  pub way : Down q depth (keys_of kids) (placed_kids (values_of kids)) pieces key i (Placed below)

-- rows in order, told without the option
tree_rows : (q : Contents) (k : ℕ) → IsTree (chunk_rows q k) → IsTree (Some (rows_or (chunk_rows q k)))
tree_rows q k t = let n = known (chunk_rows q k) t in subst IsTree (n.is ∙ ap (λ z. Some (rows_or z)) (sym n.is)) t

-- what is known of an inner chunk on the way
pub over : (q : Contents) (key : Bytes) (at below : Ref) (kids : List (Bytes × Ref)) (i d : ℕ) → Way q key at below
    → IsTree (chunk_rows q (stamp_of at)) → slice_get q (stamp_of at) ≡ Some (chunk_content (chunked.Inner kids))
    → IsPlace key (keys_of kids) i → below ≡ get_or (values_of kids) i below
    → chunk_depth q (stamp_of below) ≡ Some d
    → Over q key at below kids i (d + 1)
over q key at below kids i d w t g place b h =
    let ats = values_of kids in
    let keys = keys_of kids in
    let one : (d + 1) - 1 ≡ d = omega arith in
    let deep : w.depth ≡ d = some_is (sym w.depth_is ∙ h) in
    let above : chunk_depth q (stamp_of at) ≡ Some (d + 1) = w.deeper ∙ ap (λ z. Some (z + 1)) deep in
    let copy = copyable q (d + 1) (stamp_of at) (rows_or (chunk_rows q (stamp_of at))) (chunked.Inner kids)
    (deep_rows q (stamp_of at) (d + 1) t above) g in
    let pairs : length (placed_kids ats) ≡ length keys = omega
    (arith, length-placed ats, length-values_of kids, length-keys_of kids) in
    let within : i < length ats = omega (arith, length-values_of kids, length-keys_of kids, place.0) in
    let child : slice_get (placed_kids ats) i ≡ Some (Placed below) =
    got (placed_kids ats) i (Placed below) (omega (arith, length-placed ats, within)) ∙ ap (λ w. Some w)
    (get_or-map (λ w. Placed w) ats i below (Placed below) within ∙ ap (λ w. Placed w) (sym b)) in
    let pieces = chunk_pieces (d + 1) (chunked.Inner kids) in
    record {
      deep = copy.deep.0;
      filled = copy.deep.1;
      content = g;
      place = place;
      within = within;
      pairs = pairs;
      child = child;
      here = subst (λ z. rows_at q z (stamp_of below) ≡ Some (rows_or (chunk_rows q (stamp_of below)))) (sym one)
          (deep_rows q (stamp_of below) d w.tree h);
      same = w.same;
      pieces = pieces;
      rows_are = copy.rows_are;
      way = down q (d + 1) keys (placed_kids ats) pieces key i (Placed below) pairs
          (all_placed ((d + 1) - 1) keys ats) (sym (copied_pieces ((d + 1) - 1) keys (placed_kids ats) kids refl refl))
          place child (subst IsTree (sym copy.rows_are) (tree_rows q (stamp_of at) t));
    }

-- A VALUE PUT BELOW IT

-- an own child in the place of the placed one
child_over : (q r : Contents) (may : Ref → Type 0) (copies depth i : ℕ) (key v : Bytes) (at below : Ref)
    (kids : List (Bytes × Ref)) (kid : Kid) (half : Option Half) → Over q key at below kids i depth
    → IsBuilt r may (copies + 1) (stamp_of below) (depth - 1) (rows_or (chunk_rows q (stamp_of below))) key v kid.value
    half
    → ChildPut r (copies + 1) (depth - 1) i (placed_kids (values_of kids)) (kids_over kids i kid) half
    (Some (put (slice_cmp nat_cmp) key v (rows_or (child_rows q (depth - 1) (Placed below)))))
child_over q r may copies depth i key v at below kids kid half x m = (
  kid,
  refl,
  m.depth_is,
  m.filled,
  m.shown_is ∙ ap (λ z. Some (put (slice_cmp nat_cmp) key v (rows_or z))) (sym x.here),
  m.half_is,
)

-- the children are in order then, and show the value
pub put_below : (q r : Contents) (may : Ref → Type 0) (copies depth i : ℕ) (key v : Bytes) (at below : Ref)
    (kids : List (Bytes × Ref)) (lower : Option Bytes) (kid : Kid) (half : Option Half)
    → (x : Over q key at below kids i depth) → IsPrefix q r → IsLower key (get_or (keys_of kids) i []) lower
    → IsBuilt r may (copies + 1) (stamp_of below) (depth - 1) (rows_or (chunk_rows q (stamp_of below))) key v kid.value
    half
    → Put r (depth - 1) (entries_over kids i lower kid half) (put (slice_cmp nat_cmp) key v x.way.rows)
put_below q r may copies depth i key v at below kids lower kid half x pre low m =
    put_path q r depth copies (keys_of kids) (placed_kids (values_of kids)) (kids_over kids i kid) x.pieces key v i
    (Placed below) lower half pre x.pairs x.way low (child_over q r may copies depth i key v at below kids kid half x m)

-- there are as many children as keys
length-over : (kids : List (Bytes × Ref)) (i : ℕ) (kid : Kid) (lower : Option Bytes)
    → length (placed_kids (values_of kids)) ≡ length (keys_of kids)
    → length (kids_over kids i kid) ≡ length (lowered i lower (keys_of kids))
length-over kids i kid lower l = length-set (placed_kids (values_of kids)) i (Own kid) ∙ l
    ∙ sym (length-lowered i lower (keys_of kids))

-- what was made of a child fits in the place of it
pub fits_over : (q r : Contents) (may : Ref → Type 0) (copies depth i : ℕ) (key v : Bytes) (at below : Ref)
    (kids : List (Bytes × Ref)) (child : Seen) (half : Option Half) → Over q key at below kids i depth → IsPrefix q r
    → length kids ≤ 16 → depth < 2 ^ 64
    → IsBuilt r may (copies + 1) (stamp_of below) (depth - 1) (rows_or (chunk_rows q (stamp_of below))) key v child half
    → CanGrowOver copies kids key i child half
fits_over q r may copies depth i key v at below kids child half x pre few big m =
    let deep : depth ≡ child.depth + 1 = omega (arith, m.depth_is, x.deep) in
    record {
      deep = omega (arith, deep, big);
      half_is = subst (λ d. IsHalf (copies + 1) d half) (sym m.depth_is) m.half_is;
      fits = λ lower kid low e.
          let u = put_below q r may copies depth i key v at below kids lower kid half x pre low
          (subst (λ s. IsBuilt r may (copies + 1) (stamp_of below) (depth - 1)
          (rows_or (chunk_rows q (stamp_of below))) key v s half) (sym e) m) in
          let n = length-lowered i lower (keys_of kids) in
          subst (λ d. Suits d i (lowered i lower (keys_of kids)) (kids_over kids i kid) half) deep (record {
            above = x.deep;
            pairs = length-over kids i kid lower x.pairs;
            few = omega (arith, n, length-keys_of kids, few);
            within = omega (arith, n, x.place.0);
            split = (copies, m.half_is);
            all = u.all;
            order = u.order;
          });
    }

-- the placed chunk, and a new one with its keys above its children
copied_over : (later : Contents) (depth stamp : ℕ) (kids : List (Bytes × Ref)) → 0 < depth
    → slice_get later stamp ≡ Some (chunk_content (chunked.Inner kids))
    → IsCopied (placed_levels later depth stamp)
    (topped (None, parting (keys_of kids)) (kids_levels (depth - 1) (placed_kids (values_of kids)) later))
copied_over later depth stamp kids z g =
    let old = placed_inner later depth stamp kids z g in (
      (Some stamp, parting (keys_of kids), old 0, refl),
      λ level. ap (λ w. kids_levels (depth - 1) w later level) (placed-values kids) ∙ sym (old (suc level)),
    )

-- a chunk of more than one child keeps more than one
kept_wide : (old new : ℕ) (made : Option Half) → HasKept old new made → 1 < old → 1 < new
kept_wide old new None (inl e) l = omega (arith, e, l)
kept_wide old new None (inr e) l = omega (arith, e.0, l)
kept_wide old new (Some h) k l = omega (arith, k.1)

-- A chunk made over what a put made of a child is what the put makes of the placed chunk.
pub made_over : (q r : Contents) (may : Ref → Type 0) (copies depth i : ℕ) (key v : Bytes) (at below : Ref)
    (kids : List (Bytes × Ref)) (child n : Seen) (half made : Option Half) → (x : Over q key at below kids i depth)
    → IsPrefix q r → AreAll may (values_of kids)
    → (find (slice_cmp nat_cmp) key (rows_or (chunk_rows q (stamp_of at))) ≡ Some v → ⊥)
    → IsBuilt r may (copies + 1) (stamp_of below) (depth - 1) (rows_or (chunk_rows q (stamp_of below))) key v child half
    → IsGrownOver copies depth kids key i child half n made
    → IsBuilt r may copies (stamp_of at) depth (rows_or (chunk_rows q (stamp_of at))) key v n made
made_over q r may copies depth i key v at below kids child n half made x pre all other is g =
    let b = depth - 1 in
    let k = stamp_of at in
    let found = find (slice_cmp nat_cmp) key (rows_or (chunk_rows q k)) in
    let kid = g.kid in
    let keys = g.keys in
    let own = g.children in
    let lower = g.lower in
    let xs = placed_kids (values_of kids) in
    let news = kids_over kids i kid in
    let es = entries_over kids i lower kid half in
    let m = subst (λ s. IsBuilt r may (copies + 1) (stamp_of below) b (rows_or (chunk_rows q (stamp_of below))) key v s
    half) (sym g.child_is) is in
    let u = put_below q r may copies depth i key v at below kids lower kid half x pre g.first m in
    let here = still q r k (chunked.Inner kids) pre x.content in
    let read = read_at xs i (Placed below) x.child in
    let seen : (later : Contents) (level : ℕ) → seen_levels n later level
    ≡ topped (None, parting keys) (kids_levels b own later) level = λ later level.
    ap (λ s. seen_levels s later level) g.is ∙ inner-levels later b (parting keys) own level in
    let copied = λ (later : Contents) (p : IsPrefix r later). copied_over later depth k kids x.deep
    (still r later k (chunked.Inner kids) p here) in
    let renewed = inner_replaced r depth (keys_of kids) keys xs news own key i (Placed below) lower half made found v
    x.deep x.pairs x.child x.place g.first (
      kid,
      refl,
      λ t. (let z = m.replaced (subst IsSome (sym x.same) t) in (other, z.0, z.1)),
    ) g.parted g.whole in
    let kept = kept-finished may (kids_places xs) b i half (lowered i lower (keys_of kids)) news _
    (length-over kids i kid lower x.pairs) g.shape.0
    (kept-kid may xs i (Placed below) kid (half_pieces half) read.0 read.1
    (kept-from_none may (child_places (Placed below)) (places_of (kid.value.pieces ++ half_pieces half)) m.kept)) in
    record {
      depth_is = ap (λ (s : Seen). s.depth) g.is;
      shown_is = ap (λ (s : Seen). shown r (s.pieces ++ half_pieces made)) g.is ∙ ap (shown r) g.shape.0 ∙ u.shown_is
          ∙ ap (λ w. Some (put (slice_cmp nat_cmp) key v w)) (some_is (sym x.way.rows_is ∙ x.rows_are));
      half_is = g.half_is;
      filled = subst (λ (s : Seen). 0 < length s.pieces) (sym g.is)
          (filled_kids b (paired keys own) (length-pairs keys own g.shape.1 g.shape.3) g.shape.4);
      replaced = λ t. (let z = renewed t in (
        z.1,
        λ later p. changed_copy IsRenewed (λ ks. refl) depth (placed_levels later depth k)
            (topped (None, parting (keys_of kids)) (kids_levels b xs later)) (seen_levels n later) x.deep
            (copied later p)
            (λ level. changed_as (level < depth) IsRenewed
            (topped (None, parting (keys_of kids)) (kids_levels b xs later) level)
            (topped (None, parting keys) (kids_levels b own later) level)
            (topped (None, parting (keys_of kids)) (kids_levels b xs later) level) (seen_levels n later level) refl
            (seen later level) (z.2 later p level)),
      ));
      levels = λ later p. put_copied depth (placed_levels later depth k)
          (topped (None, parting (keys_of kids)) (kids_levels b xs later))
          (λ level. seen_levels n later level ++ half_levels made later level) x.deep (copied later p)
          (put_as depth (topped (None, parting (keys_of kids)) (kids_levels b xs later))
          (λ level. topped (None, parting keys) (kids_levels b own later) level ++ half_levels made later level)
          (topped (None, parting (keys_of kids)) (kids_levels b xs later))
          (λ level. seen_levels n later level ++ half_levels made later level) (λ level. refl)
          (λ level. ap (λ w. w ++ half_levels made later level) (seen later level))
          (put_over later depth (keys_of kids) (keys_of es) keys made (kids_levels b xs later) own (values_of es)
          x.deep
          (child_put q later depth (keys_of kids) xs news x.pieces key i (Placed below) lower half x.pairs x.way kid
          refl (m.levels later p))
          (firsts_are (keys_of kids) news i lower half key x.place g.first
          (length-set xs i (Own kid) ∙ x.pairs)) g.parted
          (subst (λ w. HasKept w (length keys) made) (sym (length-keys_of kids)) g.entries)));
      kept = subst (λ (s : Seen). AreKept may [] (places_of (s.pieces ++ half_pieces made))) (sym g.is)
          (λ a z. elim (kept a z) [
            | inl t ↦ inr (all a (subst (λ w. Contains w a) (placed-places (values_of kids)) t))
            | inr t ↦ inr t
          ]);
      wide = λ w. elim (wide-copy r k depth (chunked.Inner kids) (inner_seen depth (keys_of kids) xs) here
          (x.deep, x.filled) refl (length-keys_of kids) w) [
            | inl d ↦ inl (ap (λ (s : Seen). s.depth) g.is ∙ d)
            | inr l ↦ inr (let a = kept_wide (length kids) (length keys) made g.entries
                (omega (arith, l, length-keys_of kids)) in omega (arith, a, ap (λ (s : Seen). s.entries) g.is))
          ];
    }

-- A STEP OF A TRAIL

-- a step over what was made of a child
pub step_over : (q r : Contents) (may : Ref → Type 0) (copies depth : ℕ) (key v : Bytes) (at below : Ref)
    (kids : List (Bytes × Ref)) (s : Step) (next : Seen) → (x : Over q key at below kids s.place depth) → IsPrefix q r
    → IsCopiedStep kids key s
    → IsBuilt r may (copies + 1) (stamp_of below) (depth - 1) (rows_or (chunk_rows q (stamp_of below))) key v next None
    → IsStep s next × IsGrownOver copies depth kids key s.place next None (step_seen s next) None
step_over q r may copies depth key v at below kids s next x pre c m =
    let kid = kid_of s next in
    let keys = arc_value s.keys in
    let children = step_kids s next in
    let lower = c.3.0 in
    let u = put_below q r may copies depth s.place key v at below kids lower kid None x pre c.3.1 m in
    let over : children ≡ kids_over kids s.place kid = ap (λ ats. set (placed_kids ats) s.place (Own kid)) c.0 in
    let es : paired keys children ≡ entries_over kids s.place lower kid None =
    ap (λ ks. paired ks children) c.3.2 ∙ ap (paired (lowered s.place lower (keys_of kids))) over in
    let n : length keys ≡ length kids = ap length c.3.2 ∙ length-lowered s.place lower (keys_of kids)
    ∙ length-keys_of kids in
    let items : length s.children.items ≡ length keys = ap length c.0 ∙ length-values_of kids ∙ sym n in
    let pairs : length children ≡ length keys = length-set (placed_kids s.children.items) s.place (Own kid)
    ∙ length-placed s.children.items ∙ items in
    let within : s.place < length keys = omega (arith, n, x.place.0, length-keys_of kids) in
    let all : AllKids (depth - 1) (paired keys children) = subst (AllKids (depth - 1)) (sym es) u.all in
    let deep : depth ≡ next.depth + 1 = omega (arith, m.depth_is, x.deep) in (
      (c.2, items, within, subst (λ b. AllKids b (paired keys children)) (sym m.depth_is) all),
      record {
        lower = lower;
        kid = kid;
        keys = keys;
        children = children;
        first = c.3.1;
        child_is = refl;
        is = sym (seen_over s next kid depth keys children deep refl refl refl);
        shape = (
          append-nil (kids_pieces (depth - 1) (paired keys children)) ∙ ap (kids_pieces (depth - 1)) es,
          pairs,
          c.2,
          omega (arith, within),
          all,
        );
        half_is = tt;
        entries = inl n;
        parted = (
          sym (keys_of-paired keys children pairs) ∙ ap keys_of es,
          sym (values_of-paired keys children pairs) ∙ ap values_of es,
        );
        whole = λ e. refl;
      },
    )
