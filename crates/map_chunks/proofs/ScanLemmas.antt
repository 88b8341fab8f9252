-- A scan of rows that stand one part after another.
use Rattle.std.proofs.Common.{◌≡◌, ◌<◌, ◌≤◌, ◌+◌, ℕ, zero, suc, Bool, true, false, cond, not, ◌&&◌, ◌||◌, nat_eq}
use Rattle.std.proofs.Common.{T, List, [], ◌∷◌, ◌++◌, Option, Some, None, length, max, take, get_or, slice_get}
use Rattle.std.proofs.Common.{refl, sym, ap, ◌∙◌, subst, arith, append_assoc, filter, Ordering, Less, Equal, Greater}
use Rattle.std.proofs.Common.{is_gt}
use Rattle.std.proofs.lemmas.List.{append-nil}
use Rattle.std.proofs.Math.Seq.{take-length}
use Rattle.std.specs.List.{starts_with}
use Rattle.std.specs.Ordering.{is_ge}
use Rattle.group_history.specs.declared.scans.Scan.{Scan}
use Rattle.group_history.specs.declared.scans.Start.{Start}
use Rattle.group_history.specs.declared.scans.Start.TheVariants.{At, After}
use Rattle.group_history.specs.Map.{Bytes, Entries}
use Rattle.group_history.specs.Rows.{Rows, keys_of, values_of, paired, rises}
use Rattle.group_history.proofs.Pairs.{keys_of-paired, paired-parts}
use Rattle.group_history.specs.Scans.{is_from, is_in, limited, rows_of}
use Rattle.group_history.specs.Spelling.{Contents, Segment, rows_at, joined_one, joined_rows, begins_with}
use Rattle.group_history.specs.Naming.{chunk_content}
use Rattle.group_history.specs.Refs.{stamp_of}
use Rattle.group_history.specs.declared.nodes.Chunk.{Chunk}
use Rattle.group_history.specs.declared.nodes.Chunk.TheVariants as chunked
use Rattle.group_history.specs.declared.refs.Ref.{Ref}
use Rattle.group_history.proofs.Readings.{not-true}
use Rattle.std.specs.Prelude.{option_map, option_and_then}
use mathlib.Core.List.{IsPrefix}
use Rattle.map_chunks.specs.Search.{is_above, IsPlace}
use Rattle.map_chunks.specs.Shown.{rows_or, chunk_rows, IsTree, map_of_rows}
use Rattle.map_chunks.specs.Scanning.{scanned, taken, Took, IsLow, is_past, is_full, is_over}
use Rattle.map_chunks.specs.Sinks.{HasBegun}
use Rattle.map_chunks.specs.Inside.Scanning.{opened_rows, greater}
use Rattle.map_chunks.proofs.RowLemmas.{cmp, AllBelow, AllAbove, IsStrict, IsStrict-back, IsStrict-front, strict}
use Rattle.map_chunks.proofs.RowLemmas.{rises_strict}
use Rattle.map_chunks.proofs.JoinLemmas.{some_is, Split, split_of, begins, begins-with}
use Rattle.map_chunks.proofs.OpenLemmas.{Known, known, tree_of, shows_of, placing, way_by, AllLow, Opened, opened}
use Rattle.map_chunks.proofs.OpenLemmas.{spells_rows, segment-kept, chunk_rows-at}
use Rattle.map_chunks.proofs.TreeLemmas.{map_is}
use Rattle.map_chunks.proofs.PrefixLemmas.{past_prefix, below_prefix}
use Rattle.map_chunks.proofs.Texts.{and-first, and-second}
use Rattle.map_chunks.proofs.ListLemmas.{length-paired}
use Rattle.map_chunks.proofs.TakenLemmas.{limited-nil, limited-full, took_none, took_part, begun_part}

-- KEYS THAT ARE IN A SCAN

and-none : (a b : Bool) → a ≡ false → (a && b) ≡ false
and-none true b h = absurd cc
and-none false b h = refl

and-last : (a b : Bool) → b ≡ false → (a && b) ≡ false
and-last true b h = h
and-last false b h = refl

above-greater : (x y : Bytes) → is_above x y ≡ true → cmp x y ≡ Greater
above-greater x y h = by (cmp x y) h
  where
    by : (o : Ordering) → is_gt o ≡ true → o ≡ Greater
    by Less h = absurd cc
    by Equal h = absurd cc
    by Greater h = refl

low_by-prefix : (scan : Scan) (k : Bytes) → cmp k scan.prefix ≡ Less → is_in scan k ≡ false
low_by-prefix scan k l = and-none (starts_with nat_eq k scan.prefix) (is_from scan.start k)
    (below_prefix scan.prefix k l)

pub low_any : (scan : Scan) (low : Bytes) → low ≡ scan.prefix → IsLow scan low
low_any scan low e k l = low_by-prefix scan k (subst (λ w. cmp k w ≡ Less) e l)

-- no key below this one is one from which the scan may begin
abbrev pub IsStart : Start → Bytes → Type 0
IsStart start key = (k : Bytes) → cmp k key ≡ Less → is_from start k ≡ false

pub start_at : (key : Bytes) → IsStart (At key) key
start_at key k l = ap is_ge l

pub start_after : (key : Bytes) → IsStart (After key) key
start_after key k l = ap is_gt l

pub low_from : (scan : Scan) (start : Start) (key low : Bytes) → scan.start ≡ start → IsStart start key
    → low ≡ greater key scan.prefix → IsLow scan low
low_from scan start key low s i e k l = by (is_above key scan.prefix) e
  where
    by : (u : Bool) → low ≡ cond u key scan.prefix → is_in scan k ≡ false
    by true e = and-last (starts_with nat_eq k scan.prefix) (is_from scan.start k)
        (subst (λ z. is_from z k ≡ false) (sym s) (i k (subst (λ w. cmp k w ≡ Less) e l)))
    by false e = low_by-prefix scan k (subst (λ w. cmp k w ≡ Less) e l)

none_more : (scan : Scan) (r : Bytes × Bytes) (rs : Rows) → is_in scan r.0 ≡ false
    → scanned scan (r ∷ rs) ≡ scanned scan rs
none_more scan r rs h = ap (λ u. cond u (r ∷ scanned scan rs) (scanned scan rs)) h

none_below : (scan : Scan) (low : Bytes) (rs : Rows) → IsLow scan low → AllBelow low rs → scanned scan rs ≡ []
none_below scan low [] i h = refl
none_below scan low (r ∷ rs) i h = none_more scan r rs (i r.0 h.0) ∙ none_below scan low rs i h.1

none_above : (scan : Scan) (k : Bytes) (rs : Rows) → is_past scan k ≡ true → AllAbove k rs → scanned scan rs ≡ []
none_above scan k [] p h = refl
none_above scan k (r ∷ rs) p h =
    let g = above-greater k scan.prefix (and-first _ _ p) in
    let n = not-true _ (and-second (is_above k scan.prefix) (not (starts_with nat_eq k scan.prefix)) p) in
    none_more scan r rs (and-none _ _ (past_prefix scan.prefix k r.0 g n h.0)) ∙ none_above scan k rs p h.1

-- behind a key that is past the prefix nothing is in the scan
none_past : (scan : Scan) (k : Bytes) (rs : Rows) → is_past scan k ≡ true → begins_with k rs ≡ true → IsStrict rs
    → scanned scan rs ≡ []
none_past scan k rs p s o =
    let b = begins k rs s in
    let o2 : IsStrict ((k, b.value) ∷ b.rest) = subst IsStrict b.whole o in
    let n = not-true _ (and-second (is_above k scan.prefix) (not (starts_with nat_eq k scan.prefix)) p) in
    ap (scanned scan) b.whole ∙ none_more scan (k, b.value) b.rest (and-none _ _ n) ∙ none_above scan k b.rest p o2.0

-- PART AFTER PART

-- the rows of the first so many entries
abbrev pub first_rows : {A : Type 0} → (Bytes × A → Option Rows) → List (Bytes × A) → ℕ → Rows
first_rows g es i = rows_or (joined_rows (shows_of g (take i es)))

front_is : {A : Type 0} (g : Bytes × A → Option Rows) (es : List (Bytes × A)) (i : ℕ) (rs : Rows)
    → joined_rows (shows_of g es) ≡ Some rs
    → joined_rows (shows_of g (take i es)) ≡ Some (first_rows g es i)
front_is g [] zero rs h = refl
front_is g [] (suc i) rs h = refl
front_is g (x ∷ es) zero rs h = refl
front_is g (x ∷ es) (suc i) rs h =
    let s = split_of (x.0, g x) (shows_of g es) rs h in
    let e : joined_rows (shows_of g (x ∷ take i es)) ≡ Some (s.front ++ first_rows g es i) =
    ap (λ w. joined_one x.0 w (joined_rows (shows_of g (take i es)))) s.front_is ∙ ap (joined_one x.0 (Some s.front))
    (front_is g es i s.back s.back_is)
    ∙ ap (λ u. cond u (Some (s.front ++ first_rows g es i)) None) s.starts in
    e ∙ ap (λ w. Some w) (sym (ap rows_or e))

-- an entry, what it shows, and what those behind it show
pub record Turn {A : Type 0} (g : Bytes × A → Option Rows) (es : List (Bytes × A)) (i : ℕ) (rs : Rows) : Type 0 where
  pub entry : Bytes × A
  pub here : Rows
  pub back : Rows
  pub at : slice_get es i ≡ Some entry
  pub here_is : g entry ≡ Some here
  pub starts : begins_with entry.0 here ≡ true
  pub more : first_rows g es (suc i) ≡ first_rows g es i ++ here
  pub whole : rs ≡ first_rows g es i ++ (here ++ back)
  pub strict : IsStrict (here ++ back)

pub turn : {A : Type 0} (g : Bytes × A → Option Rows) (es : List (Bytes × A)) (i : ℕ) (rs : Rows)
    → joined_rows (shows_of g es) ≡ Some rs → IsStrict rs → i < length es → Turn g es i rs
turn g [] i rs h o l = absurd (omega arith)
turn g (x ∷ es) zero rs h o l =
    let s = split_of (x.0, g x) (shows_of g es) rs h in
    record {
      entry = x;
      here = s.front;
      back = s.back;
      at = refl;
      here_is = s.front_is;
      starts = s.starts;
      more = ap rows_or (ap (λ w. joined_one x.0 w (Some [])) s.front_is ∙ ap
          (λ u. cond u (Some (s.front ++ [])) None) s.starts) ∙ append-nil s.front;
      whole = s.whole;
      strict = subst IsStrict s.whole o;
    }
turn g (x ∷ es) (suc i) rs h o l =
    let s = split_of (x.0, g x) (shows_of g es) rs h in
    let t = turn g es i s.back s.back_is (IsStrict-back s.front s.back (subst IsStrict s.whole o)) (omega arith) in
    let a = longer i s in
    let b = longer (suc i) s in
    record {
      entry = t.entry;
      here = t.here;
      back = t.back;
      at = t.at;
      here_is = t.here_is;
      starts = t.starts;
      more = b ∙ ap (λ w. s.front ++ w) t.more ∙ sym (append_assoc s.front (first_rows g es i) t.here) ∙ ap
          (λ w. w ++ t.here) (sym a);
      whole = s.whole ∙ ap (λ w. s.front ++ w) t.whole ∙ sym
          (append_assoc s.front (first_rows g es i) (t.here ++ t.back)) ∙ ap (λ w. w ++ (t.here ++ t.back)) (sym a);
      strict = t.strict;
    }
  where
    longer : (j : ℕ) → (s : Split (x.0, g x) (shows_of g es) rs)
        → first_rows g (x ∷ es) (suc j) ≡ s.front ++ first_rows g es j
    longer j s = ap rows_or (ap (λ w. joined_one x.0 w (joined_rows (shows_of g (take j es)))) s.front_is ∙ ap
        (joined_one x.0 (Some s.front)) (front_is g es j s.back s.back_is)
        ∙ ap (λ u. cond u (Some (s.front ++ first_rows g es j)) None) s.starts)

first_all : {A : Type 0} (g : Bytes × A → Option Rows) (es : List (Bytes × A)) (i : ℕ) (rs : Rows)
    → joined_rows (shows_of g es) ≡ Some rs → i ≡ length es → first_rows g es i ≡ rs
first_all g es i rs h e = ap (λ n. rows_or (joined_rows (shows_of g (take n es)))) e ∙ ap
    (λ w. rows_or (joined_rows (shows_of g w))) (take-length es) ∙ ap rows_or h

-- the entry at a place with those before it and those behind it
cut_at : {A : Type 0} (es : List A) (i : ℕ) → i < length es
    → (before : List A) × (e : A) × (behind : List A) × (es ≡ before ++ e ∷ behind) × (length before ≡ i)
    × (take i es ≡ before)
cut_at [] i l = absurd (omega arith)
cut_at (x ∷ es) zero l = ([], x, es, refl, refl, refl)
cut_at (x ∷ es) (suc i) l = let c = cut_at es i (omega arith) in
    (x ∷ c.0, c.1, c.2, ap (λ w. x ∷ w) c.3, ap suc c.4, ap (λ w. x ∷ w) c.5)

-- before the child to which the lowest key belongs nothing is in the scan
none_before : {A : Type 0} (g : Bytes × A → Option Rows) (es : List (Bytes × A)) (i : ℕ) (rs : Rows) (scan : Scan)
    (low : Bytes) → joined_rows (shows_of g es) ≡ Some rs → IsStrict rs
    → IsLow scan low → IsPlace low (keys_of es) i → i < length es → scanned scan (first_rows g es i) ≡ []
none_before g es i rs scan low h o z p l =
    let c = cut_at es i l in
    let q = placing low c.0 c.1.0 c.1.1 c.2 i c.4 (subst (λ w. IsPlace low (keys_of w) i) c.3 p) in
    let w = way_by g low c.0 c.1 c.2 rs (subst (λ w. joined_rows (shows_of g w) ≡ Some rs) c.3 h) o q in
    ap (λ w. scanned scan (rows_or (joined_rows (shows_of g w)))) c.5 ∙ ap
    (λ w. scanned scan (rows_or w)) w.front_is ∙ none_below scan low w.front z w.below

-- THE TURNS OF A LOOP

-- at the start nothing is taken
begun : {A : Type 0} (g : Bytes × A → Option Rows) (es : List (Bytes × A)) (i : ℕ) (rs : Rows) (scan : Scan)
    (low : Bytes) (room : Option ℕ) → joined_rows (shows_of g es) ≡ Some rs → IsStrict rs
    → IsLow scan low → IsPlace low (keys_of es) i → i < length es → taken scan room (first_rows g es i) ≡ []
begun g es i rs scan low room h o z p l =
    ap (limited room) (none_before g es i rs scan low h o z p l) ∙ limited-nil room

-- what follows is not in the scan, or there is no room for it
over_none : (scan : Scan) (room : Option ℕ) (b : Rows) (k : Bytes) → is_over scan room k ≡ true
    → begins_with k b ≡ true → IsStrict b → taken scan room b ≡ []
over_none scan room b k v s o = by (is_full room) refl v
  where
    by : (u : Bool) → is_full room ≡ u → (u || is_past scan k) ≡ true → taken scan room b ≡ []
    by true f v = limited-full room (scanned scan b) f
    by false f v = ap (limited room) (none_past scan k b v s o) ∙ limited-nil room

or-first : (a b : Bool) → (a || b) ≡ false → a ≡ false
or-first true b h = absurd cc
or-first false b h = refl

-- where the scan isn't over there is room
pub room_for : (scan : Scan) (room : Option ℕ) (k : Bytes) → is_over scan room k ≡ false → is_full room ≡ false
room_for scan room k v = or-first (is_full room) (is_past scan k) v

-- the rest of a turn at which the scan is over
turn_over : {A : Type 0} (g : Bytes × A → Option Rows) (es : List (Bytes × A)) (i : ℕ) (rs : Rows) (scan : Scan)
    {S : Type 0} (has : S → Rows → Type 0) (old new : S) (room after : Option ℕ) (k : Bytes) → (t : Turn g es i rs)
    → k ≡ t.entry.0 → Took has old new room after (taken scan room (first_rows g es i)) → is_over scan after k ≡ true
    → Took has old new room after (taken scan room rs)
turn_over g es i rs scan has old new room after k t q e v =
    subst (λ w. Took has old new room after (taken scan room w)) (sym t.whole)
    (took_part has old new new scan room after after (first_rows g es i) (t.here ++ t.back) e
    (took_none has new after (taken scan after (t.here ++ t.back))
    (over_none scan after (t.here ++ t.back) k v
    (subst (λ w. begins_with w (t.here ++ t.back) ≡ true) (sym q) (longer t.entry.0 t.here t.back t.starts)) t.strict)))
  where
    longer : (k : Bytes) (a b : Rows) → begins_with k a ≡ true → begins_with k (a ++ b) ≡ true
    longer k [] b h = absurd cc
    longer k (r ∷ a) b h = h

-- a turn in which the scan stops
pub turn_stopped : {A : Type 0} (g : Bytes × A → Option Rows) (es : List (Bytes × A)) (i : ℕ) (rs : Rows) (scan : Scan)
    {S : Type 0} (has : S → Rows → Type 0) (old mid new : S) (room between : Option ℕ) → (t : Turn g es i rs)
    → Took has old mid room between (taken scan room (first_rows g es i))
    → HasBegun has mid new (taken scan between t.here) → HasBegun has old new (taken scan room rs)
turn_stopped g es i rs scan has old mid new room between t p q =
    subst (λ w. HasBegun has old new (taken scan room w)) (sym t.whole)
    (begun_part has old mid new scan room between (first_rows g es i) t.here t.back p q)

-- ROWS OF A LEAF

-- a row alone
abbrev pub alone : Bytes × Bytes → Option Rows
alone r = Some (r ∷ [])

pub alone-rows : (rows : Rows) → joined_rows (shows_of alone rows) ≡ Some rows
alone-rows [] = refl
alone-rows (r ∷ rows) = ap (joined_one r.0 (Some (r ∷ []))) (alone-rows rows) ∙ ap (λ u. cond u (Some (r ∷ rows)) None)
    (begins-with r.0 r.1 [])

-- a key and a value side by side
paired-at : {A : Type 0} (ks : List Bytes) (xs : List A) (i : ℕ) (k : Bytes) (x : A) (e : Bytes × A)
    → length xs ≡ length ks → i < length ks → k ≡ get_or ks i k → x ≡ get_or xs i x
    → slice_get (paired ks xs) i ≡ Some e → (k, x) ≡ e
paired-at [] xs i k x e l h p q s = absurd (omega arith)
paired-at (j ∷ ks) [] i k x e l h p q s = absurd (omega arith)
paired-at (j ∷ ks) (y ∷ xs) zero k x e l h p q s = cc
paired-at (j ∷ ks) (y ∷ xs) (suc i) k x e l h p q s = paired-at ks xs i k x e (omega arith) (omega arith) p q s

key_of-pair : {A : Type 0} (ks : List Bytes) (xs : List A) (i : ℕ) (k : Bytes) (e : Bytes × A) → i < length ks
    → k ≡ get_or ks i k → slice_get (paired ks xs) i ≡ Some e → k ≡ e.0
key_of-pair [] xs i k e h p s = absurd (omega arith)
key_of-pair (j ∷ ks) [] i k e h p s = absurd cc
key_of-pair {A} (j ∷ ks) (y ∷ xs) zero k e h p s = p ∙ ap (λ (z : Bytes × A). z.0) (let q : (j, y) ≡ e = cc s in q)
key_of-pair (j ∷ ks) (y ∷ xs) (suc i) k e h p s = key_of-pair ks xs i k e (omega arith) p s

-- THE TURNS, WITH KEYS AND ENTRIES APART

pub pairs_begun : {A : Type 0} (g : Bytes × A → Option Rows) (ks : List Bytes) (xs : List A) (i : ℕ) (rs : Rows)
    (scan : Scan) (low : Bytes) {S : Type 0} (has : S → Rows → Type 0) (s : S) (room : Option ℕ)
    → length xs ≡ length ks → joined_rows (shows_of g (paired ks xs)) ≡ Some rs → IsStrict rs → IsLow scan low
    → IsPlace low ks i → Took has s s room room (taken scan room (first_rows g (paired ks xs) i))
pairs_begun g ks xs i rs scan low has s room l h o z p =
    took_none has s room (taken scan room (first_rows g (paired ks xs) i))
    (begun g (paired ks xs) i rs scan low room h o z (subst (λ w. IsPlace low w i) (sym (keys_of-paired ks xs l)) p)
    (omega (arith, p.0, length-paired ks xs l)))

pub pairs_turn : {A : Type 0} (g : Bytes × A → Option Rows) (ks : List Bytes) (xs : List A) (i : ℕ) (rs : Rows)
    → length xs ≡ length ks
    → joined_rows (shows_of g (paired ks xs)) ≡ Some rs → IsStrict rs → i < length ks → Turn g (paired ks xs) i rs
pairs_turn g ks xs i rs l h o b = turn g (paired ks xs) i rs h o (omega (arith, length-paired ks xs l))

pub pairs_over : {A : Type 0} (g : Bytes × A → Option Rows) (ks : List Bytes) (xs : List A) (i : ℕ) (rs : Rows)
    (scan : Scan) {S : Type 0} (has : S → Rows → Type 0) (old new : S) (room after : Option ℕ) (k : Bytes)
    → length xs ≡ length ks → joined_rows (shows_of g (paired ks xs)) ≡ Some rs → IsStrict rs → i < length ks
    → k ≡ get_or ks i k → Took has old new room after (taken scan room (first_rows g (paired ks xs) i))
    → is_over scan after k ≡ true → Took has old new room after (taken scan room rs)
pairs_over g ks xs i rs scan has old new room after k l h o b q e v =
    let t = pairs_turn g ks xs i rs l h o b in
    turn_over g (paired ks xs) i rs scan has old new room after k t (key_of-pair ks xs i k t.entry b q t.at) e v

pub pairs_all : {A : Type 0} (g : Bytes × A → Option Rows) (ks : List Bytes) (xs : List A) (i : ℕ) (rs : Rows)
    → length xs ≡ length ks → joined_rows (shows_of g (paired ks xs)) ≡ Some rs → i ≡ length ks
    → first_rows g (paired ks xs) i ≡ rs
pairs_all g ks xs i rs l h e = first_all g (paired ks xs) i rs h (omega (arith, e, length-paired ks xs l))

one_more : {A : Type 0} (g : Bytes × A → Option Rows) (es : List (Bytes × A)) (i : ℕ) (rs : Rows) → (t : Turn g es i rs)
    → first_rows g es (i + 1) ≡ first_rows g es i ++ t.here
one_more g es i rs t = (let n : i + 1 ≡ suc i = omega arith in ap (first_rows g es) n) ∙ t.more

-- the rows of a child more
pub pairs_child : {A : Type 0} (g : Bytes × A → Option Rows) (ks : List Bytes) (xs : List A) (i : ℕ) (rs : Rows)
    (scan : Scan) {S : Type 0} (has : S → Rows → Type 0) (old mid new : S) (room between after : Option ℕ)
    → (t : Turn g (paired ks xs) i rs)
    → Took has old mid room between (taken scan room (first_rows g (paired ks xs) i))
    → Took has mid new between after (taken scan between t.here)
    → Took has old new room after (taken scan room (first_rows g (paired ks xs) (i + 1)))
pairs_child g ks xs i rs scan has old mid new room between after t p q =
    subst (λ w. Took has old new room after (taken scan room w)) (sym (one_more g (paired ks xs) i rs t))
    (took_part has old mid new scan room between after (first_rows g (paired ks xs) i) t.here p q)

-- a row at its turn
pub row_turn : (ks vs : List Bytes) (i : ℕ) (k v : Bytes) → length vs ≡ length ks → IsStrict (paired ks vs)
    → i < length ks → k ≡ get_or ks i k → v ≡ get_or vs i v
    → (t : Turn alone (paired ks vs) i (paired ks vs)) × ((k, v) ∷ [] ≡ t.here)
row_turn ks vs i k v l o b p q =
    let rows = paired ks vs in
    let t = pairs_turn alone ks vs i rows l (alone-rows rows) o b in
    (t, ap (λ w. w ∷ []) (paired-at ks vs i k v t.entry l b p q t.at) ∙ some_is t.here_is)

-- a row more
pub pairs_row : (ks vs : List Bytes) (i : ℕ) (scan : Scan) {S : Type 0} (has : S → Rows → Type 0) (old mid new : S)
    (room between after : Option ℕ) (k v : Bytes) → length vs ≡ length ks → IsStrict (paired ks vs) → i < length ks
    → k ≡ get_or ks i k → v ≡ get_or vs i v
    → Took has old mid room between (taken scan room (first_rows alone (paired ks vs) i))
    → Took has mid new between after (taken scan between ((k, v) ∷ []))
    → Took has old new room after (taken scan room (first_rows alone (paired ks vs) (i + 1)))
pairs_row ks vs i scan has old mid new room between after k v l o b p q e f =
    let r = row_turn ks vs i k v l o b p q in
    pairs_child alone ks vs i (paired ks vs) scan has old mid new room between after r.0 e
    (subst (λ w. Took has mid new between after (taken scan between w)) r.1 f)

-- a row at which the scan stops
pub pairs_stopped : (ks vs : List Bytes) (i : ℕ) (scan : Scan) {S : Type 0} (has : S → Rows → Type 0) (old mid new : S)
    (room between : Option ℕ) (k v : Bytes) → length vs ≡ length ks → IsStrict (paired ks vs) → i < length ks
    → k ≡ get_or ks i k → v ≡ get_or vs i v
    → Took has old mid room between (taken scan room (first_rows alone (paired ks vs) i))
    → HasBegun has mid new (taken scan between ((k, v) ∷ []))
    → HasBegun has old new (taken scan room (paired ks vs))
pairs_stopped ks vs i scan has old mid new room between k v l o b p q e f =
    let r = row_turn ks vs i k v l o b p q in
    turn_stopped alone (paired ks vs) i (paired ks vs) scan has old mid new room between r.0 e
    (subst (λ w. HasBegun has mid new (taken scan between w)) r.1 f)

pub pairs_order : (ks vs : List Bytes) → length vs ≡ length ks → T (rises ks) → IsStrict (paired ks vs)
pairs_order ks vs l o = strict (paired ks vs)
    (rises_strict (paired ks vs) (subst (λ w. T (rises w)) (sym (keys_of-paired ks vs l)) o))

-- the rows before a place
alone_first : (rows : Rows) (i : ℕ) → first_rows alone rows i ≡ take i rows
alone_first rows i = ap rows_or (alone-rows (take i rows))

pub rows_begun : (rows : Rows) (i : ℕ) (scan : Scan) {S : Type 0} (has : S → Rows → Type 0) (s : S) (room : Option ℕ)
    → scanned scan (take i rows) ≡ [] → Took has s s room room (taken scan room (first_rows alone rows i))
rows_begun rows i scan has s room n = took_none has s room (taken scan room (first_rows alone rows i))
    (ap (taken scan room) (alone_first rows i) ∙ ap (limited room) n ∙ limited-nil room)

-- before the place to which the lowest key belongs no row is in the scan
pub rows_before : (ks vs : List Bytes) (i : ℕ) (scan : Scan) (low : Bytes) → length vs ≡ length ks → T (rises ks)
    → IsLow scan low → IsPlace low ks i → scanned scan (take i (paired ks vs)) ≡ []
rows_before ks vs i scan low l o z p =
    ap (scanned scan) (sym (alone_first (paired ks vs) i))
    ∙ none_before alone (paired ks vs) i (paired ks vs) scan low (alone-rows (paired ks vs)) (pairs_order ks vs l o) z
    (subst (λ w. IsPlace low w i) (sym (keys_of-paired ks vs l)) p) (omega (arith, p.0, length-paired ks vs l))

-- CHILDREN SHOWN ANOTHER WAY

-- children that show rows show the same by what tells as much
pub shown_as : {A : Type 0} (f g : Bytes × A → Option Rows) → ((e : Bytes × A) (v : Rows) → f e ≡ Some v → g e ≡ Some v)
    → (es : List (Bytes × A)) (rs : Rows)
    → joined_rows (shows_of f es) ≡ Some rs → joined_rows (shows_of g es) ≡ Some rs
shown_as f g t [] rs h = h
shown_as f g t (e ∷ es) rs h =
    let s = split_of (e.0, f e) (shows_of f es) rs h in
    ap (λ x. joined_one e.0 x (joined_rows (shows_of g es))) (t e s.front s.front_is) ∙ ap
    (joined_one e.0 (Some s.front)) (shown_as f g t es s.back s.back_is)
    ∙ ap (λ u. cond u (Some (s.front ++ s.back)) None) s.starts ∙ ap (λ w. Some w) (sym s.whole)

-- what a placed child shows
abbrev pub ref_rows : Contents → Bytes × Ref → Option Rows
ref_rows contents e = chunk_rows contents (stamp_of e.1)

-- the first stamp above those of the children
abbrev pub top : List (Bytes × Ref) → ℕ
top [] = 0
top (e ∷ es) = max (stamp_of e.1 + 1) (top es)

abbrev pub chunk_top : Chunk Ref → ℕ
chunk_top (chunked.Leaf rows) = 0
chunk_top (chunked.Inner kids) = top kids

top-low : (k : ℕ) (kids : List (Bytes × Ref)) → AllLow k kids → top kids ≤ k
top-low k [] h = omega arith
top-low k (e ∷ es) h = let r = top-low k es h.1 in let l = h.0 in omega arith

below_top : (es : List (Bytes × Ref)) (i : ℕ) (e : Bytes × Ref) → slice_get es i ≡ Some e → stamp_of e.1 < top es
below_top [] i e h = absurd cc
below_top (x ∷ es) zero e h = let p : x ≡ e = cc h in
    subst (λ (z : Bytes × Ref). stamp_of z.1 < max (stamp_of x.1 + 1) (top es)) p (omega arith)
below_top (x ∷ es) (suc i) e h = let r = below_top es i e h in omega arith

-- the rows of a chunk that is shown are those of its stamp
pub record OpenedRows (ns : Contents) (k : ℕ) (rs : Rows) (c : Chunk Ref) : Type 0 where
  pub rows_are : opened_rows ns c ≡ Some rs
  pub low : chunk_top c ≤ k

pub opened_is : (ns : Contents) (k : ℕ) (rs : Rows) (c : Chunk Ref) → chunk_rows ns k ≡ Some rs
    → slice_get ns k ≡ Some (chunk_content c) → OpenedRows ns k rs c
opened_is ns k rs c h g =
    let s = spells_rows ns k rs h in
    by c s.segment s.rows (opened ns k s.segment c s.is g)
  where
    by : (c : Chunk Ref) (s : Segment) → s.rows ≡ rs → Opened ns k s c → OpenedRows ns k rs c
    by (chunked.Leaf rows) s r o = record { rows_are = ap (λ w. Some w) (sym o.is ∙ r); low = omega arith }
    by (chunked.Inner kids) s r o = record {
      rows_are = shown_as (λ (e : Bytes × Ref). rows_at ns o.depth (stamp_of e.1)) (ref_rows ns)
          (λ e v q. chunk_rows-at ns o.depth (stamp_of e.1) v q) kids s.rows o.rows ∙ ap (λ w. Some w) r;
      low = top-low k kids o.low;
    }

-- the keys and the values of a leaf side by side are its rows
pub leaf_opened : (ns : Contents) (c : Chunk Ref) (rows : Rows) (ks vs : List Bytes) → c ≡ chunked.Leaf rows
    → ks ≡ keys_of rows → vs ≡ values_of rows → paired ks vs ≡ rows_or (opened_rows ns c)
leaf_opened ns c rows ks vs e p q =
    ap (λ w. paired w vs) p ∙ ap (paired (keys_of rows)) q ∙ paired-parts rows
    ∙ ap (λ (w : Chunk Ref). rows_or (opened_rows ns w)) (sym e)

pub chunk_rows-kept : (old new : Contents) (k : ℕ) (rs : Rows) → IsPrefix old new → chunk_rows old k ≡ Some rs
    → chunk_rows new k ≡ Some rs
chunk_rows-kept old new k rs p h =
    let s = spells_rows old k rs h in
    ap (option_map (λ (z : Segment). z.rows)) (segment-kept old new k s.segment p s.is) ∙ ap (λ w. Some w) s.rows

-- the children of a chunk in one turn
pub refs_known : (ns : Contents) (ks : List Bytes) (xs : List Ref)
    → IsTree (joined_rows (shows_of (ref_rows ns) (paired ks xs)))
    → Known (joined_rows (shows_of (ref_rows ns) (paired ks xs)))
refs_known ns ks xs h = known (joined_rows (shows_of (ref_rows ns) (paired ks xs))) h

-- the child at a place
pub value_of-pair : {A : Type 0} (ks : List Bytes) (xs : List A) (i : ℕ) (x : A) (e : Bytes × A) → length xs ≡ length ks
    → i < length ks → x ≡ get_or xs i x → slice_get (paired ks xs) i ≡ Some e → x ≡ e.1
value_of-pair [] xs i x e l h p s = absurd (omega arith)
value_of-pair (j ∷ ks) [] i x e l h p s = absurd cc
value_of-pair {A} (j ∷ ks) (y ∷ xs) zero x e l h p s = p ∙ ap (λ (z : Bytes × A). z.1) (let q : (j, y) ≡ e = cc s in q)
value_of-pair (j ∷ ks) (y ∷ xs) (suc i) x e l h p s = value_of-pair ks xs i x e (omega arith) (omega arith) p s

-- a placed child at its turn, when more may be placed
pub record RefTurn (old new : Contents) (ks : List Bytes) (xs : List Ref) (i : ℕ) (rs : Rows) (at : Ref) : Type 0 where
  pub turn : Turn (ref_rows old) (paired ks xs) i rs
  pub rows_are : chunk_rows new (stamp_of at) ≡ Some turn.here
  pub tree : IsTree (chunk_rows new (stamp_of at))
  pub low : stamp_of at < top (paired ks xs)

pub ref_turn : (old new : Contents) (ks : List Bytes) (xs : List Ref) (i : ℕ) (at : Ref) → IsPrefix old new
    → length xs ≡ length ks
    → (n : Known (joined_rows (shows_of (ref_rows old) (paired ks xs)))) → i < length ks → at ≡ get_or xs i at
    → RefTurn old new ks xs i n.rows at
ref_turn old new ks xs i at p l n b q =
    let t = pairs_turn (ref_rows old) ks xs i n.rows l n.is n.order b in
    let same = value_of-pair ks xs i at t.entry l b q t.at in
    let r : chunk_rows new (stamp_of at) ≡ Some t.here = ap
    (λ w. chunk_rows new (stamp_of w)) same ∙ chunk_rows-kept old new (stamp_of t.entry.1) t.here p t.here_is in
    record {
      turn = t;
      rows_are = r;
      tree = tree_of (chunk_rows new (stamp_of at)) t.here r (IsStrict-front t.here t.back t.strict);
      low = subst (λ w. stamp_of w < top (paired ks xs)) (sym same) (below_top (paired ks xs) i t.entry t.at);
    }

-- what stands at a place within doesn't depend on what stands for nothing
pub got_any : {A : Type 0} (xs : List A) (i : ℕ) (d e : A) → i < length xs → get_or xs i d ≡ get_or xs i e
got_any [] i d e l = absurd (omega arith)
got_any (x ∷ xs) zero d e l = refl
got_any (x ∷ xs) (suc i) d e l = got_any xs i d e (omega arith)

-- A WHOLE MAP

-- a scan of a map's rows
pub scan_of-map : (x : Option Rows) (m : Entries) (scan : Scan) → option_and_then map_of_rows x ≡ Some m
    → taken scan scan.limit (rows_or x) ≡ rows_of scan m
scan_of-map x m scan h =
    let f = map_is x m h in
    ap (λ w. limited scan.limit (filter (λ e. is_in scan e.0) w)) (sym f.rows)
