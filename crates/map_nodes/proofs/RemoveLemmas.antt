-- A key removed below a draft's chunk.
use Rattle.std.proofs.Common.{◌≡◌, ◌<◌, ◌≤◌, ◌+◌, ◌-◌, ℕ, zero, suc, Bool, true, false, cond, not, T, List, [], ◌∷◌}
use Rattle.std.proofs.Common.{◌++◌, Option, Some, None, length, get_or, remove, slice_get, nat_le, length-set}
use Rattle.std.proofs.Common.{length-append, refl, sym, ap, ◌∙◌, subst, arith, nat_cmp, Ordering, Less, Equal, Greater}
use Rattle.std.proofs.Common.{is_eq}
use Rattle.std.proofs.lemmas.Bool.Decides.{nat_tests}
use Rattle.std.specs.Prelude.{option_and_then, IsSome}
use Rattle.std.specs.Ordering.{ordering_reverse, eq_by_cmp}
use Rattle.std.specs.Cmp.Lexicographic.{slice_cmp, nat_list_cmp_total}
use Rattle.std.specs.FinMap as finite
use Rattle.std.specs.FinMap.Entries.{find, find-where_key, is_sorted-where_key, same_entries}
use Rattle.std.proofs.lemmas.List.{append-nil}
use mathlib.Core.List.{IsPrefix}
use Rattle.group_history.specs.Map.{Bytes, Entries, same_text}
use Rattle.group_history.specs.Rows.{Rows, keys_of, paired, AreKeys, rises}
use Rattle.group_history.specs.Spelling.{Contents, begins_with, joined_rows}
use Rattle.group_history.proofs.Pairs.{keys_of-paired}
use Rattle.map_nodes.specs.Inside.Halves.{HasDepth, lowered}
use Rattle.map_nodes.specs.Nodes.{IsChild, IsNode, Kids, child_levels, kids_pieces, body_pieces, AllKids}
use Rattle.map_nodes.specs.Inside.Nodes.{ChildChanged, child_rows}
use Rattle.map_nodes.specs.Removing.{without_key}
use Rattle.map_nodes.specs.Inside.Removing.{IsFate, IsThinLater, HasOthers, gives_way, CanRemove, one_shown}
use Rattle.map_nodes.specs.Inside.Scanning.{kid_shown}
use Rattle.map_chunks.specs.Search.{IsFound, IsAbsent, IsPlace}
use Rattle.map_chunks.specs.SecondKeys.{second_key}
use Rattle.map_chunks.specs.Shown.{Piece, shown, rows_or, IsTree, map_of_rows}
use Rattle.map_nodes.specs.declared.nodes.Body.{Body}
use Rattle.map_nodes.specs.declared.nodes.Body.TheVariants.{Inner}
use Rattle.map_nodes.specs.declared.nodes.OwnChild.{OwnChild}
use Rattle.map_nodes.specs.declared.nodes.OwnChild.TheVariants.{Own, Placed}
use Rattle.map_nodes.specs.declared.nodes.removing.ChildAfter.{ChildAfter}
use Rattle.map_nodes.specs.declared.nodes.removing.ChildAfter.TheVariants.{Leaves, Stays}
use Rattle.map_nodes.proofs.ChangeLemmas.{IsLocal, changed, one_child, shown-kept}
use Rattle.map_chunks.proofs.JoinLemmas.{begins, begins-with, split_of, some_is}
use Rattle.map_nodes.proofs.LeafLemmas.{strict_rises}
use Rattle.map_chunks.proofs.ListLemmas.{paired-remove, length-paired}
use Rattle.map_nodes.proofs.NodeLemmas.{Down, kid_rows, child_at, node_down}
use Rattle.map_chunks.proofs.OpenLemmas.{key_at, known, shows_of}
use Rattle.map_nodes.proofs.PathLemmas.{node_at, first_key, lowered_pairs, length-lowered, rises_joined, child_requires}
use Rattle.map_chunks.proofs.RowLemmas.{cmp, turned, same_key, is_itself, AllBelow, AllAbove, IsStrict, strict, sorted}
use Rattle.map_chunks.proofs.RowLemmas.{rises_strict}
use Rattle.map_nodes.proofs.ScanLemmas.{kid_shown-at, kid_shown-kept}
use Rattle.map_chunks.proofs.ScanLemmas.{got_any}
use Rattle.map_chunks.proofs.SearchLemmas.{Found, found_in, Absent, absent_in}
use Rattle.map_chunks.proofs.Texts.{same_text-itself}
use Rattle.map_chunks.proofs.TreeLemmas.{map_is, map_from}

-- ROWS

without-above : (k : Bytes) (b : Rows) → AllAbove k b → without_key k b ≡ b
without-above k [] h = refl
without-above k (r ∷ b) h = ap (λ o. cond (not (is_eq o)) (r ∷ without_key k b) (without_key k b)) h.0 ∙ ap (λ t. r ∷ t)
    (without-above k b h.1)

without-front : (k : Bytes) (a b : Rows) → AllAbove k b → without_key k (a ++ b) ≡ without_key k a ++ b
without-front k [] b h = without-above k b h
without-front k (s ∷ a) b h = by (cmp k s.0) (without-front k a b h)
  where
    by : (o : Ordering) → without_key k (a ++ b) ≡ without_key k a ++ b
        → cond (not (is_eq o)) (s ∷ without_key k (a ++ b)) (without_key k (a ++ b))
        ≡ cond (not (is_eq o)) (s ∷ without_key k a) (without_key k a) ++ b
    by Less ih = ap (λ t. s ∷ t) ih
    by Equal ih = ih
    by Greater ih = ap (λ t. s ∷ t) ih

without-back : (k : Bytes) (a b : Rows) → AllBelow k a → without_key k (a ++ b) ≡ a ++ without_key k b
without-back k [] b h = refl
without-back k (r ∷ a) b h =
    ap (λ o. cond (not (is_eq o)) (r ∷ without_key k (a ++ b)) (without_key k (a ++ b)))
    (turned k r.0 ∙ ap ordering_reverse h.0) ∙ ap (λ t. r ∷ t) (without-back k a b h.1)

-- a row whose key it is
without-at : (k v : Bytes) (b : Rows) → without_key k ((k, v) ∷ b) ≡ without_key k b
without-at k v b = ap (λ o. cond (not (is_eq o)) ((k, v) ∷ without_key k b) (without_key k b)) (is_itself k)

without-local : (key : Bytes) → IsLocal key (without_key key)
without-local key a x b l u = without-back key a (x ++ b) l ∙ ap (λ w. a ++ w) (without-front key x b u)

-- whether a row stays
abbrev stays : Bytes → Bytes → Bool
stays key k = not (eq_by_cmp (slice_cmp nat_cmp) key k)

without-strict : (key : Bytes) (rows : Rows) → IsStrict rows → IsStrict (without_key key rows)
without-strict key rows o = strict (without_key key rows)
    (is_sorted-where_key (slice_cmp nat_cmp) (stays key) rows (sorted rows o))

without-found : (key : Bytes) (rows : Rows) (i : ℕ) → (f : Found key rows i) → without_key key rows ≡ f.front ++ f.back
without-found key rows i f =
    ap (without_key key) f.whole ∙ without-back key f.front ((key, f.value) ∷ f.back) f.below
    ∙ ap (λ w. f.front ++ w) (without-at key f.value f.back ∙ without-above key f.back f.above)

without-absent : (key : Bytes) (rows : Rows) (n : ℕ) → (f : Absent key rows n) → without_key key rows ≡ rows
without-absent key rows n f =
    ap (without_key key) f.whole ∙ without-back key f.front f.back f.below ∙ ap (λ w. f.front ++ w)
    (without-above key f.back f.above) ∙ sym f.whole

-- MAPS

apart : (key q : Bytes) (x : Option Bytes) → cond (is_eq (cmp q key)) None x ≡ cond (stays key q) x None
apart key q x = ap (λ o. cond (is_eq o) None x) (turned q key) ∙ by (cmp key q)
  where
    by : (o : Ordering) → cond (is_eq (ordering_reverse o)) None x ≡ cond (not (is_eq o)) x None
    by Less = refl
    by Equal = refl
    by Greater = refl

entries_removed : (m : Entries) (key : Bytes)
    → finite.entries (finite.remove m key) ≡ without_key key (finite.entries m)
entries_removed m key =
    same_entries (slice_cmp nat_cmp) nat_list_cmp_total same_key (finite.entries (finite.remove m key))
    (without_key key (finite.entries m)) (finite.entries_sorted (finite.remove m key))
    (is_sorted-where_key (slice_cmp nat_cmp) (stays key) (finite.entries m) (finite.entries_sorted m))
    (λ q. sym (finite.get-entries (finite.remove m key) q) ∙ finite.get-remove nat_list_cmp_total m key q ∙ ap
    (λ w. cond (is_eq (cmp q key)) None w) (finite.get-entries m q)
    ∙ apart key q (find (slice_cmp nat_cmp) q (finite.entries m))
    ∙ sym (find-where_key (slice_cmp nat_cmp) (stays key) q (λ x e. ap (stays key) (sym (same_key q x e)))
    (finite.entries m)))

pub map_removed : (x y : Option Rows) (m : Entries) (key : Bytes) → option_and_then map_of_rows x ≡ Some m
    → y ≡ Some (without_key key (rows_or x)) → option_and_then map_of_rows y ≡ Some (finite.remove m key)
map_removed x y m key h e =
    map_from y (finite.remove m key) (e ∙ ap (λ w. Some (without_key key w)) (sym (map_is x m h).rows) ∙ ap
    (λ w. Some w)
    (sym (entries_removed m key)))

-- a key that isn't there is removed in vain
pub removed_same : (m : Entries) (key : Bytes) → finite.get m key ≡ None → finite.remove m key ≡ m
removed_same m key h = finite.same_map nat_list_cmp_total same_key (finite.remove m key) m
    (λ q. finite.get-remove nat_list_cmp_total m key q ∙ by q (cmp q key) refl)
  where
    by : (q : Bytes) (o : Ordering) → cmp q key ≡ o
        → cond (is_eq (slice_cmp nat_cmp q key)) None (finite.get m q) ≡ finite.get m q
    by q Equal e = ap (λ o. cond (is_eq o) None (finite.get m q)) e ∙ sym h ∙ ap (finite.get m) (sym (same_key q key e))
    by q Less e = ap (λ o. cond (is_eq o) None (finite.get m q)) e
    by q Greater e = ap (λ o. cond (is_eq o) None (finite.get m q)) e

-- LISTS

remove-at : {A : Type 0} (before : List A) (e : A) (behind : List A) (i : ℕ) → length before ≡ i
    → remove (before ++ e ∷ behind) i ≡ before ++ behind
remove-at [] e behind zero l = refl
remove-at [] e behind (suc i) l = absurd (omega arith)
remove-at (b ∷ before) e behind zero l = absurd (omega arith)
remove-at (b ∷ before) e behind (suc i) l = ap (λ w. b ∷ w) (remove-at before e behind i (omega arith))

length-removed : {A : Type 0} (xs : List A) (i : ℕ) → i < length xs → length (remove xs i) + 1 ≡ length xs
length-removed [] i l = absurd (omega arith)
length-removed (x ∷ xs) zero l = omega arith
length-removed (x ∷ xs) (suc i) l = omega (arith, length-removed xs i (omega arith))

-- LEAVES

pub record LeafLeft (keys values : List Bytes) (rows : Rows) : Type 0 where
  pub rows_are : paired keys values ≡ rows
  pub order : AreKeys keys
  pub same : length values ≡ length keys

pub leaf_removed : (keys values nk ne : List Bytes) (i : ℕ) (key : Bytes) → AreKeys keys → length values ≡ length keys
    → IsFound key keys i → nk ≡ remove keys i → ne ≡ remove values i
    → LeafLeft nk ne (without_key key (paired keys values))
leaf_removed keys values nk ne i key o l f ek ee =
    let r = found_in key keys values i o.1 l f in
    let lk = length-removed keys i f.0 in
    let le = length-removed values i (omega (arith, f.0, l)) in
    let same : length ne ≡ length nk = omega (arith, lk, le, ap length ek, ap length ee, l) in
    let pairs : paired nk ne ≡ without_key key (paired keys values) =
    ap (λ ks. paired ks ne) ek ∙ ap (paired (remove keys i)) ee ∙ paired-remove keys values i l ∙ ap
    (λ w. remove w i) r.whole
    ∙ remove-at r.front (key, r.value) r.back i r.at ∙ sym (without-found key (paired keys values) i r) in
    let s : IsStrict (paired keys values) = strict (paired keys values)
    (rises_strict (paired keys values) (subst (λ w. T (rises w)) (sym (keys_of-paired keys values l)) o.1)) in
    let ks : keys_of (without_key key (paired keys values)) ≡ nk = ap keys_of (sym pairs) ∙ keys_of-paired nk ne same in
    record {
      rows_are = pairs;
      order = (
        omega (arith, lk, ap length ek, o.0),
        subst (λ w. T (rises w)) ks (strict_rises (without_key key (paired keys values))
            (without-strict key (paired keys values) s)),
      );
      same = same;
    }

pub leaf_kept : (keys values : List Bytes) (n : ℕ) (key : Bytes) → AreKeys keys → length values ≡ length keys
    → IsAbsent key keys n → paired keys values ≡ without_key key (paired keys values)
leaf_kept keys values n key o l a = sym (without-absent key (paired keys values) n
    (absent_in key keys values n o.1 l a))

-- FATES

-- a child whose one row has the key shows none without it
pub leaves_none : (key first : Bytes) (here : Rows) → begins_with first here ≡ true → IsFate key first here Leaves
    → without_key key here ≡ []
leaves_none key first here s f =
    let b = begins first here s in
    let w : here ≡ (key, b.value) ∷ b.rest = b.whole ∙ ap (λ k. (k, b.value) ∷ b.rest) f.0 in
    let nil : b.rest ≡ [] = none b.rest (ap second_key (sym w) ∙ f.1) in
    ap (without_key key) w ∙ without-at key b.value b.rest ∙ ap (without_key key) nil
  where
    none : (rest : Rows) → second_key ((key, key) ∷ rest) ≡ None → rest ≡ []
    none [] e = refl
    none (r ∷ rest) e = absurd cc

-- a child that stays begins with its first key then
begins_without : (key first : Bytes) (here : Rows) (other : Option Bytes) → begins_with first here ≡ true
    → IsStrict here → IsFate key first here (Stays other)
    → begins_with (first_key first other) (without_key key here) ≡ true
begins_without key first here None s o f =
    let b = begins first here s in
    subst (λ w. begins_with first (without_key key w) ≡ true) (sym b.whole)
    (by (cmp key first) refl b.value (without_key key b.rest))
  where
    no : same_text first key ≡ false → first ≡ key → ⊥
    no g e = let t : same_text first key ≡ true = subst (λ k. same_text first k ≡ true) e (same_text-itself first) in
        differ (same_text first key) g t
      where
        differ : (u : Bool) → u ≡ false → u ≡ true → ⊥
        differ true p q = cc
        differ false p q = cc

    by : (o : Ordering) → cmp key first ≡ o → (v : Bytes) (rest : Rows)
        → begins_with first (cond (not (is_eq o)) ((first, v) ∷ rest) rest) ≡ true
    by Less e v rest = begins-with first v rest
    by Equal e v rest = absurd (no f (sym (same_key key first e)))
    by Greater e v rest = begins-with first v rest
begins_without key first here (Some next) s o f =
    let b = begins first here s in
    let w : here ≡ (key, b.value) ∷ b.rest = b.whole ∙ ap (λ k. (k, b.value) ∷ b.rest) f.0 in
    let u : IsStrict ((key, b.value) ∷ b.rest) = subst IsStrict w o in
    let e : without_key key here ≡ b.rest = ap
    (without_key key) w ∙ without-at key b.value b.rest ∙ without-above key b.rest u.0 in
    subst (λ z. begins_with next z ≡ true) (sym e) (second b.rest (ap second_key (sym w) ∙ f.1))
  where
    second : (rest : Rows) → second_key ((key, key) ∷ rest) ≡ Some next → begins_with next rest ≡ true
    second [] e = absurd cc
    second (r ∷ rest) e = let k : r.0 ≡ next = some_is e in
        subst (λ z. begins_with z (r ∷ rest) ≡ true) k (same_text-itself r.0)

begins_some : (k : Bytes) (rows : Rows) → begins_with k rows ≡ true → 0 < length rows
begins_some k [] h = absurd cc
begins_some k (r ∷ rows) h = omega arith

-- CHILDREN

-- an inner chunk that shows these rows
pub record Left (q : Contents) (depth : ℕ) (keys : List Bytes) (kids : List OwnChild) (rows : Rows) : Type 0 where
  pub node : AreKeys keys × ((0 < depth) × (0 < length keys) × (length kids ≡ length keys)
      × AllKids (depth - 1) (paired keys kids))
  pub shown_is : shown q (kids_pieces (depth - 1) (paired keys kids)) ≡ Some rows

left_by : (q : Contents) (depth : ℕ) (keys : List Bytes) (kids : List OwnChild) (es : Kids) (rows : Rows)
    → paired keys kids ≡ es → length kids ≡ length keys → 0 < depth → 0 < length keys → length keys ≤ 16
    → AllKids (depth - 1) es → joined_rows (shows_of (kid_rows q (depth - 1)) es) ≡ Some rows
    → shown q (kids_pieces (depth - 1) es) ≡ Some rows → IsStrict rows → Left q depth keys kids rows
left_by q depth keys kids es rows e l d z m all j s o =
    let ks : keys_of es ≡ keys = ap keys_of (sym e) ∙ keys_of-paired keys kids l in
    record {
      node = (
        (m, subst (λ w. T (rises w)) ks (rises_joined q (depth - 1) es rows j o)),
        (d, z, l, subst (AllKids (depth - 1)) (sym e) all),
      );
      shown_is = ap (λ w. shown q (kids_pieces (depth - 1) w)) e ∙ s;
    }

-- the child that shows nothing more has left
pub child_gone : (p q : Contents) (depth : ℕ) (keys nk : List Bytes) (kids ne : List OwnChild) (pieces : List Piece)
    (key : Bytes) (i : ℕ) (child : OwnChild) → IsPrefix p q → length kids ≡ length keys
    → length keys ≤ 16 → 0 < depth → (d : Down p depth keys kids pieces key i child) → without_key key d.way.here ≡ []
    → 1 < length keys → i < length keys → nk ≡ remove keys i → ne ≡ remove kids i
    → Left q depth nk ne (without_key key d.rows)
child_gone p q depth keys nk kids ne pieces key i child pre l m z d nil two within ek ee =
    let ch = changed p q depth keys kids pieces key i child (without_key key) [] pre d (without-local key) tt
    (ap (λ w. Some w) (sym nil)) in
    let lk = length-removed keys i within in
    let le = length-removed kids i (omega (arith, within, l)) in
    let pairs : paired nk ne ≡ d.before ++ ([] ++ d.behind) =
    ap (λ ks. paired ks ne) ek ∙ ap (paired (remove keys i)) ee ∙ paired-remove keys kids i l ∙ ap
    (λ w. remove w i) d.whole ∙ remove-at d.before (d.first, child) d.behind i d.at in
    left_by q depth nk ne (d.before ++ ([] ++ d.behind)) (without_key key d.rows) pairs
    (omega (arith, lk, le, ap length ek, ap length ee, l)) z (omega (arith, lk, ap length ek, two))
    (omega (arith, lk, ap length ek, m))
    ch.all ch.joined_is ch.shown_is (without-strict key d.rows d.order)

-- what is known of the child's fate, in terms of the way to it
pub fate_here : (p : Contents) (depth : ℕ) (keys : List Bytes) (kids : List OwnChild) (pieces : List Piece)
    (key : Bytes)
    (i : ℕ) (child : OwnChild) (fate : ChildAfter) → length kids ≡ length keys
    → (d : Down p depth keys kids pieces key i child) → IsFate key (get_or keys i []) (rows_or (kid_shown p child)) fate
    → IsFate key d.first d.way.here fate
fate_here p depth keys kids pieces key i child fate l d f =
    let first : get_or keys i [] ≡ d.first = ap (λ z. get_or z i []) (sym (keys_of-paired keys kids l)) ∙ ap
    (λ z. get_or (keys_of z) i []) d.whole ∙ key_at d.before (d.first, child) d.behind i d.at in
    let here = kid_shown-at p (depth - 1) child d.way.here d.way.here_is in
    subst (λ w. IsFate key w d.way.here fate) first (subst (λ x. IsFate key (get_or keys i []) (rows_or x) fate) here f)

-- the child stays, without the key's row
pub child_stays : (p q : Contents) (depth : ℕ) (keys nk : List Bytes) (kids ne : List OwnChild) (pieces : List Piece)
    (key : Bytes) (i : ℕ) (child : OwnChild) (other : Option Bytes) → IsPrefix p q
    → length kids ≡ length keys → length keys ≤ 16 → 0 < depth → (d : Down p depth keys kids pieces key i child)
    → IsFate key d.first d.way.here (Stays other) → 0 < length keys
    → nk ≡ lowered i other keys → ChildChanged q (depth - 1) i kids ne child
    (Some (without_key key (rows_or (child_rows p (depth - 1) child)))) → Left q depth nk ne (without_key key d.rows)
child_stays p q depth keys nk kids ne pieces key i child other pre l m z d f some ek c =
    let below = depth - 1 in
    let n = c.0 in
    let k = first_key d.first other in
    let rows : shown q n.value.pieces ≡ Some (without_key key d.way.here) = c.3 ∙ ap
    (λ z. Some (without_key key (rows_or z))) d.way.here_is in
    let b = begins_without key d.first d.way.here other d.way.starts d.way.strict f in
    let one = one_child q below k n (without_key key d.way.here) c.2 rows b in
    let ch = changed p q depth keys kids pieces key i child (without_key key) ((k, Own n) ∷ []) pre d
    (without-local key) one.0 one.1 in
    let pairs : paired nk ne ≡ d.before ++ (((k, Own n) ∷ []) ++ d.behind) =
    ap (λ ks. paired ks ne) ek ∙ ap (paired (lowered i other keys)) c.1 ∙ lowered_pairs keys kids i other
    (Own n) child d.before d.first d.behind l d.whole d.at in
    let lk = length-lowered i other keys in
    let le = ap length c.1 ∙ length-set kids i (Own n) in
    left_by q depth nk ne (d.before ++ (((k, Own n) ∷ []) ++ d.behind)) (without_key key d.rows) pairs
    (omega (arith, lk, le, ap length ek, l)) z (omega (arith, lk, ap length ek, some))
    (omega (arith, lk, ap length ek, m))
    ch.all ch.joined_is ch.shown_is (without-strict key d.rows d.order)

-- the child can be entered
pub can_remove : (p : Contents) (depth : ℕ) (keys : List Bytes) (kids : List OwnChild) (pieces : List Piece)
    (key : Bytes)
    (i : ℕ) (child : OwnChild) (other : Option Bytes)
    → (d : Down p depth keys kids pieces key i child) → slice_get kids i ≡ Some child
    → IsFate key d.first d.way.here (Stays other) → (c : OwnChild) → slice_get kids i ≡ Some c
    → CanRemove p (depth - 1) key c
can_remove p depth keys kids pieces key i child other d g f c h =
    let r = child_requires p depth keys kids kids pieces key i child d g refl c h in
    let b = begins_without key d.first d.way.here other d.way.starts d.way.strict f in
    let some = subst (λ z. 0 < length (without_key key (rows_or z))) (sym d.way.here_is)
    (begins_some (first_key d.first other) (without_key key d.way.here) b) in (
      r.0,
      r.1,
      subst (λ x. 0 < length (without_key key (rows_or (child_rows p (depth - 1) x)))) (some_is
          (sym g ∙ h)) some,
    )

joined_some : {A : Type 0} (g : Bytes × A → Option Rows) (es : List (Bytes × A)) (rs : Rows)
    → joined_rows (shows_of g es) ≡ Some rs → 0 < length rs → 0 < length es
joined_some g [] rs h l = let e : [] ≡ rs = some_is h in absurd (omega (arith, ap length e))
joined_some g (e ∷ es) rs h l = omega arith

-- the rows without the key's, where the child shows nothing more
rest_rows : (p : Contents) (depth : ℕ) (keys : List Bytes) (kids : List OwnChild) (pieces : List Piece) (key : Bytes)
    (i : ℕ) (child : OwnChild)
    → (d : Down p depth keys kids pieces key i child) → without_key key d.way.here ≡ []
    → without_key key d.rows ≡ d.way.front ++ d.way.back
rest_rows p depth keys kids pieces key i child d nil =
    ap (without_key key) d.way.whole ∙ without-local key d.way.front d.way.here d.way.back d.way.below d.way.above ∙ ap
    (λ w. d.way.front ++ (w ++ d.way.back)) nil

-- other children show what stays
pub others : (p : Contents) (depth : ℕ) (keys : List Bytes) (kids : List OwnChild) (pieces : List Piece) (key : Bytes)
    (i : ℕ) (child : OwnChild) → length kids ≡ length keys
    → (d : Down p depth keys kids pieces key i child) → without_key key d.way.here ≡ []
    → 0 < length (without_key key d.rows)
    → 1 < length keys
others p depth keys kids pieces key i child l d nil z =
    let r = rest_rows p depth keys kids pieces key i child d nil in
    let n = length-append d.way.front d.way.back in
    let m = length-append d.before ((d.first, child) ∷ d.behind) in
    by d.way.front d.way.back d.way.front_is d.way.back_is (omega (arith, ap length r, z, n))
    (omega (arith, ap length d.whole, m, length-paired keys kids l))
  where
    by : (front back : Rows) → joined_rows (shows_of (kid_rows p (depth - 1)) d.before) ≡ Some front
        → joined_rows (shows_of (kid_rows p (depth - 1)) d.behind) ≡ Some back
        → 0 < length front + length back → length keys ≡ length d.before + (length d.behind + 1) → 1 < length keys
    by (r ∷ front) back f b s e = let u = joined_some (kid_rows p (depth - 1)) d.before (r ∷ front) f
        (omega arith) in omega arith
    by [] back f b s e = let u = joined_some (kid_rows p (depth - 1)) d.behind back b (omega arith) in omega arith

-- one child left shows what stays
pub last_shown : (p : Contents) (depth : ℕ) (keys : List Bytes) (kids : List OwnChild) (pieces : List Piece)
    (key : Bytes)
    (i : ℕ) (child : OwnChild) → length kids ≡ length keys → length kids ≤ 2
    → (d : Down p depth keys kids pieces key i child) → without_key key d.way.here ≡ []
    → one_shown p (remove kids i) ≡ Some (without_key key d.rows)
last_shown p depth keys kids pieces key i child l few d nil =
    let r = rest_rows p depth keys kids pieces key i child d nil in
    let left : remove kids i ≡ kids_in (d.before ++ d.behind) =
    sym (kids_in-paired (remove keys i) (remove kids i) (same keys kids i l)) ∙ ap kids_in
    (paired-remove keys kids i l ∙ ap (λ w. remove w i) d.whole ∙ remove-at d.before
    (d.first, child) d.behind i d.at) in
    let m = length-append d.before ((d.first, child) ∷ d.behind) in
    ap (one_shown p) left ∙ by d.before d.behind d.way.front d.way.back d.way.front_is d.way.back_is
    (omega (arith, ap length d.whole, m, length-paired keys kids l, l)) ∙ ap (λ w. Some w) (sym r)
  where
    kids_in : Kids → List OwnChild
    kids_in [] = []
    kids_in (e ∷ es) = e.1 ∷ kids_in es

    kids_in-paired : (ks : List Bytes) (xs : List OwnChild) → length xs ≡ length ks → kids_in (paired ks xs) ≡ xs
    kids_in-paired [] [] h = refl
    kids_in-paired [] (x ∷ xs) h = absurd (omega arith)
    kids_in-paired (k ∷ ks) [] h = absurd (omega arith)
    kids_in-paired (k ∷ ks) (x ∷ xs) h = ap (λ w. x ∷ w) (kids_in-paired ks xs (omega arith))

    same : (ks : List Bytes) (xs : List OwnChild) (i : ℕ) → length xs ≡ length ks
        → length (remove xs i) ≡ length (remove ks i)
    same [] [] zero h = refl
    same [] [] (suc i) h = refl
    same [] (x ∷ xs) i h = absurd (omega arith)
    same (k ∷ ks) [] i h = absurd (omega arith)
    same (k ∷ ks) (x ∷ xs) zero h = omega arith
    same (k ∷ ks) (x ∷ xs) (suc i) h = omega (arith, same ks xs i (omega arith))

    alone : (e : Bytes × OwnChild) (rs : Rows) → joined_rows (shows_of (kid_rows p (depth - 1)) (e ∷ [])) ≡ Some rs
        → kid_shown p e.1 ≡ Some rs
    alone e rs h =
        let s = split_of (e.0, child_rows p (depth - 1) e.1) [] rs h in
        let nil : s.back ≡ [] = sym (some_is s.back_is) in
        kid_shown-at p (depth - 1) e.1 s.front s.front_is ∙ ap (λ w. Some w)
        (sym (s.whole ∙ ap (λ w. s.front ++ w) nil ∙ append-nil s.front))

    by : (before behind : Kids) (front back : Rows)
        → joined_rows (shows_of (kid_rows p (depth - 1)) before) ≡ Some front
        → joined_rows (shows_of (kid_rows p (depth - 1)) behind) ≡ Some back
        → length before + length behind ≤ 1 → one_shown p (kids_in (before ++ behind)) ≡ Some (front ++ back)
    by [] [] front back f b n = ap (λ w. Some w) (ap (λ w. w ++ []) (some_is f) ∙ ap (λ w. front ++ w) (some_is b))
    by [] (e ∷ []) front back f b n = alone e back b ∙ ap (λ w. Some (w ++ back)) (some_is f)
    by (e ∷ []) [] front back f b n = alone e front f ∙ ap (λ w. Some w) (sym (append-nil front)) ∙ ap
        (λ w. Some (front ++ w)) (some_is b)
    by [] (e ∷ g ∷ es) front back f b n = absurd (omega arith)
    by (e ∷ g ∷ es) behind front back f b n = absurd (omega arith)
    by (e ∷ []) (g ∷ es) front back f b n = absurd (omega arith)

-- INNER CHUNKS

pub has_others : (p : Contents) (depth : ℕ) (keys : List Bytes) (kids : List OwnChild) (pieces : List Piece)
    (key : Bytes)
    (i : ℕ) (child : OwnChild) (fate : ChildAfter) → length kids ≡ length keys
    → (d : Down p depth keys kids pieces key i child) → IsFate key d.first d.way.here fate
    → 0 < length (without_key key (rows_or (shown p pieces))) → HasOthers fate (length keys)
has_others p depth keys kids pieces key i child Leaves l d f z =
    others p depth keys kids pieces key i child l d (leaves_none key d.first d.way.here d.way.starts f)
    (subst (λ x. 0 < length (without_key key (rows_or x))) d.rows_is z)
has_others p depth keys kids pieces key i child (Stays other) l d f z = tt

-- what an inner chunk shows once more is placed
pub shown_later : (old new : Contents) (depth : ℕ) (keys : List Bytes) (body : Body) (kids : _) (pieces : List Piece)
    → IsPrefix old new → body_pieces depth keys body ≡ pieces → body ≡ Inner kids
    → IsTree (shown old pieces) → shown new (body_pieces depth keys (Inner kids)) ≡ shown old pieces
shown_later old new depth keys body kids pieces pre v e o =
    let n = known (shown old pieces) o in
    ap (shown new) (ap (body_pieces depth keys) (sym e) ∙ v) ∙ shown-kept old new pieces n.rows pre n.is ∙ sym n.is

-- the fate of the child, once more is placed
pub fate_later : (old new : Contents) (depth : ℕ) (keys slice : List Bytes) (kids : List OwnChild) (pieces : List Piece)
    (key first : Bytes) (i : ℕ) (child : OwnChild) (fate : ChildAfter) → IsPrefix old new
    → length kids ≡ length keys → slice ≡ keys → i < length slice → (d : Down old depth keys kids pieces key i child)
    → child ≡ get_or kids i child → first ≡ get_or slice i first
    → IsFate key first (rows_or (kid_shown old child)) fate → (c : OwnChild) → slice_get kids i ≡ Some c
    → IsFate key (get_or keys i []) (rows_or (kid_shown new c)) fate
fate_later old new depth keys slice kids pieces key first i child fate pre l s w d g e f c h =
    let here = kid_shown-at old (depth - 1) child d.way.here d.way.here_is in
    let there = kid_shown-kept old new child d.way.here pre here in
    let at : first ≡ get_or keys i [] = e ∙ got_any slice i first [] w ∙ ap (λ z. get_or z i []) s in
    let same : child ≡ c = some_is (sym (child_at kids i (length kids) child refl
    (omega (arith, w, ap length s, l)) g) ∙ h) in
    subst (λ x. IsFate key (get_or keys i []) (rows_or (kid_shown new x)) fate) same
    (subst (λ x. IsFate key (get_or keys i []) (rows_or x) fate) (here ∙ sym there)
    (subst (λ k. IsFate key k (rows_or (kid_shown old child)) fate) at f))

-- fewer than two children stay
pub gives_way-is : (fate : ChildAfter) (n : ℕ) → gives_way fate n ≡ true → (fate ≡ Leaves) × (n ≤ 2)
gives_way-is Leaves n h = (refl, (let g : nat_le n 2 ≡ true = h in grind (arith, nat_tests)))
gives_way-is (Stays other) n h = absurd cc

-- A CHILD OF A CHUNK, WHOSE FATE IS KNOWN

-- it shows nothing more, and leaves
pub gone_at : (p : Contents) (depth : ℕ) (keys nk : List Bytes) (kids : _) (ne : List OwnChild) (key : Bytes) (i : ℕ)
    (at : OwnChild) (fate : ChildAfter) → IsNode depth keys (Inner kids)
    → IsTree (shown p (body_pieces depth keys (Inner kids))) → IsPlace key keys i
    → ((c : OwnChild) → slice_get kids.items i ≡ Some c
    → IsFate key (get_or keys i []) (rows_or (kid_shown p c)) fate) → HasOthers fate (length keys) → fate ≡ Leaves
    → nk ≡ remove keys i → ne ≡ remove kids.items i
    → Left p depth nk ne (without_key key (rows_or (shown p (body_pieces depth keys (Inner kids)))))
gone_at p depth keys nk kids ne key i at fate n t o f others e ek ee =
    let pieces = body_pieces depth keys (Inner kids) in
    let x = node_at p depth keys (Inner kids) kids pieces keys key i at refl refl n refl o t in
    by x.0 x.1
  where
    by : Down p depth keys kids.items (body_pieces depth keys (Inner kids)) key i (get_or kids.items i at)
        → slice_get kids.items i ≡ Some (get_or kids.items i at)
        → Left p depth nk ne (without_key key (rows_or (shown p (body_pieces depth keys (Inner kids)))))
    by d g =
        let pieces = body_pieces depth keys (Inner kids) in
        let child = get_or kids.items i at in
        let h = subst (IsFate key d.first d.way.here) e
        (fate_here p depth keys kids.items pieces key i child fate n.1.2 d (f child g)) in
        subst (λ w. Left p depth nk ne (without_key key w)) (sym (ap rows_or d.rows_is))
        (child_gone p p depth keys nk kids.items ne pieces key i child ([], append-nil p) n.1.2 n.0.0 n.1.0 d
        (leaves_none key d.first d.way.here d.way.starts h) (subst (λ w. HasOthers w (length keys)) e others) o.0 ek ee)

-- it stays, without the key's row
pub stays_at : (p q : Contents) (depth : ℕ) (keys nk : List Bytes) (kids : _) (ne : List OwnChild) (key : Bytes)
    (i : ℕ) (at : OwnChild) (fate : ChildAfter) (other : Option Bytes) → IsPrefix p q → IsNode depth keys (Inner kids)
    → IsTree (shown p (body_pieces depth keys (Inner kids))) → IsPlace key keys i
    → ((c : OwnChild) → slice_get kids.items i ≡ Some c
    → IsFate key (get_or keys i []) (rows_or (kid_shown p c)) fate) → fate ≡ Stays other → nk ≡ lowered i other keys
    → ((c : OwnChild) → slice_get kids.items i ≡ Some c → ChildChanged q (depth - 1) i kids.items ne c
    (Some (without_key key (rows_or (child_rows p (depth - 1) c)))))
    → Left q depth nk ne (without_key key (rows_or (shown p (body_pieces depth keys (Inner kids)))))
stays_at p q depth keys nk kids ne key i at fate other pre n t o f e ek done =
    let pieces = body_pieces depth keys (Inner kids) in
    let x = node_at p depth keys (Inner kids) kids pieces keys key i at refl refl n refl o t in
    by x.0 x.1
  where
    by : Down p depth keys kids.items (body_pieces depth keys (Inner kids)) key i (get_or kids.items i at)
        → slice_get kids.items i ≡ Some (get_or kids.items i at)
        → Left q depth nk ne (without_key key (rows_or (shown p (body_pieces depth keys (Inner kids)))))
    by d g =
        let pieces = body_pieces depth keys (Inner kids) in
        let child = get_or kids.items i at in
        let h = subst (IsFate key d.first d.way.here) e
        (fate_here p depth keys kids.items pieces key i child fate n.1.2 d (f child g)) in
        subst (λ w. Left q depth nk ne (without_key key w)) (sym (ap rows_or d.rows_is))
        (child_stays p q depth keys nk kids.items ne pieces key i child other pre n.1.2 n.0.0 n.1.0 d h n.1.1 ek
        (done child g))

-- it can be entered
pub can_at : (p : Contents) (depth : ℕ) (keys : List Bytes) (kids : _) (key : Bytes) (i : ℕ) (at : OwnChild)
    (fate : ChildAfter) (other : Option Bytes) → IsNode depth keys (Inner kids)
    → IsTree (shown p (body_pieces depth keys (Inner kids))) → IsPlace key keys i
    → ((c : OwnChild) → slice_get kids.items i ≡ Some c
    → IsFate key (get_or keys i []) (rows_or (kid_shown p c)) fate) → fate ≡ Stays other → (c : OwnChild)
    → slice_get kids.items i ≡ Some c → CanRemove p (depth - 1) key c
can_at p depth keys kids key i at fate other n t o f e =
    let pieces = body_pieces depth keys (Inner kids) in
    let x = node_at p depth keys (Inner kids) kids pieces keys key i at refl refl n refl o t in
    by x.0 x.1
  where
    by : Down p depth keys kids.items (body_pieces depth keys (Inner kids)) key i (get_or kids.items i at)
        → slice_get kids.items i ≡ Some (get_or kids.items i at) → (c : OwnChild)
        → slice_get kids.items i ≡ Some c → CanRemove p (depth - 1) key c
    by d g =
        let pieces = body_pieces depth keys (Inner kids) in
        let child = get_or kids.items i at in
        let h = subst (IsFate key d.first d.way.here) e
        (fate_here p depth keys kids.items pieces key i child fate n.1.2 d (f child g)) in
        can_remove p depth keys kids.items pieces key i child other d g h

-- what is known of it, once more is placed
pub fate_down : (p q : Contents) (depth : ℕ) (keys slice : List Bytes) (body : Body) (kids : _) (pieces : List Piece)
    (key first : Bytes) (i : ℕ) (child : OwnChild) (fate : ChildAfter) → IsPrefix p q → body_pieces depth keys body
    ≡ pieces
    → body ≡ Inner kids → IsNode depth keys body → slice ≡ keys → IsPlace key slice i
    → child ≡ get_or kids.items i child → first ≡ get_or slice i first → IsTree (shown p pieces)
    → IsFate key first (rows_or (kid_shown p child)) fate → 0 < length (without_key key (rows_or (shown p pieces)))
    → ((c : OwnChild) → slice_get kids.items i ≡ Some c
    → IsFate key (get_or keys i []) (rows_or (kid_shown q c)) fate) × HasOthers fate (length keys)
fate_down p q depth keys slice body kids pieces key first i child fate pre v e inv s o g h t f more =
    by (node_down p depth keys body kids pieces slice key i child v e inv s o g t) (subst (IsNode depth keys) e inv)
  where
    by : Down p depth keys kids.items pieces key i child → IsNode depth keys (Inner kids)
        → ((c : OwnChild) → slice_get kids.items i ≡ Some c
        → IsFate key (get_or keys i []) (rows_or (kid_shown q c)) fate) × HasOthers fate (length keys)
    by d n =
        let now = fate_later p p depth keys slice kids.items pieces key first i child fate ([], append-nil p) n.1.2 s
        o.0 d g h f child
        (child_at kids.items i (length keys) child n.1.2 (omega (arith, o.0, ap length s)) g) in (
          fate_later p q depth keys slice kids.items pieces key first i child fate pre n.1.2 s o.0 d g h f,
          has_others p depth keys kids.items pieces key i child fate n.1.2 d
              (fate_here p depth keys kids.items pieces key i child fate n.1.2 d now) more,
        )

-- whether it has one row, once more is placed
pub fate_thin : (p q : Contents) (depth : ℕ) (keys slice : List Bytes) (body : Body) (kids : _) (pieces : List Piece)
    (key : Bytes) (i : ℕ) (child : OwnChild) (fate : ChildAfter) → body_pieces depth keys body ≡ pieces
    → body ≡ Inner kids → IsNode depth keys body → slice ≡ keys → IsPlace key slice i
    → child ≡ get_or kids.items i child → IsTree (shown p pieces)
    → (HasDepth (depth - 1) child → IsSome (child_rows p (depth - 1) child) → fate ≡ Leaves
    → IsThinLater q (depth - 1) (child_levels (depth - 1) child)) → (c : OwnChild) → slice_get kids.items i ≡ Some c
    → fate ≡ Leaves → IsThinLater q (depth - 1) (child_levels (depth - 1) c)
fate_thin p q depth keys slice body kids pieces key i child fate v e inv s o g t h c at leaves =
    let d = node_down p depth keys body kids pieces slice key i child v e inv s o g t in
    let n : IsNode depth keys (Inner kids) = subst (IsNode depth keys) e inv in
    let same : child ≡ c = some_is (sym (child_at kids.items i (length keys) child n.1.2
    (omega (arith, o.0, ap length s)) g) ∙ at) in
    subst (λ x. IsThinLater q (depth - 1) (child_levels (depth - 1) x)) same
    (h (deep d.first child d.all.1) (subst IsSome (sym d.way.here_is) refl) leaves)
  where
    deep : (first : Bytes) (x : OwnChild) → IsChild (depth - 1) first x → HasDepth (depth - 1) x
    deep first (Placed at) k = tt
    deep first (Own m) k = k.0
