-- What a placed chunk has, and what it spells.
use Rattle.std.proofs.Common.{◌≡◌, ◌<◌, ◌≤◌, ◌+◌, ℕ, zero, suc, Bool, true, false, cond, List, [], ◌∷◌, ◌++◌, Option}
use Rattle.std.proofs.Common.{Some, None, length, map, get_or, slice_get, nat_le, refl, sym, ap, ◌∙◌, subst, arith}
use Rattle.std.proofs.Common.{nat_cmp}
use Rattle.std.proofs.lemmas.Bool.Decides.{nat_tests}
use Rattle.std.specs.Prelude.{option_and_then, option_map, ◌==◌}
use Rattle.std.specs.Cmp.Lexicographic.{slice_cmp}
use Rattle.std.specs.FinMap.{find}
use mathlib.Core.List.{IsPrefix}
use Rattle.group_history.specs.declared.nodes.Chunk.{Chunk}
use Rattle.group_history.specs.declared.nodes.Chunk.TheVariants.{Leaf, Inner}
use Rattle.group_history.specs.declared.nodes.Node.TheVariants as node
use Rattle.group_history.specs.declared.refs.Ref.{Ref}
use Rattle.group_history.specs.Folds.{answer}
use Rattle.group_history.specs.Map.{Bytes}
use Rattle.group_history.specs.Naming.{chunk_content, renamed_chunk}
use Rattle.group_history.specs.Refs.{stamp_of}
use Rattle.group_history.specs.Rows.{Rows, keys_of, values_of}
use Rattle.group_history.specs.Spelling.{Contents, Spelled, Segment, as_segment, spelled, sized, chunk_in, segment_in}
use Rattle.group_history.specs.Spelling.{rows_if, rows_in, segment_at, rows_at, joined_one, joined_rows}
use Rattle.group_history.proofs.Folding.{and_then-some}
use Rattle.group_history.proofs.Spellings.{segment-content, segment-stays, rows-stay}
use Rattle.map_chunks.specs.Search.{IsPlace, is_above}
use Rattle.map_chunks.specs.Shown.{chunk_rows, IsTree}
use Rattle.map_chunks.proofs.RowLemmas.{IsStrict, strict, sorted, find-front, find-back}
use Rattle.map_chunks.proofs.JoinLemmas.{Shows, split_of, Place, Way, way}

pub segment-kept : (old new : Contents) (k : ℕ) (s : Segment) → IsPrefix old new → segment_at old k ≡ Some s
    → segment_at new k ≡ Some s
segment-kept old new k s p h = subst (λ c. segment_at c k ≡ Some s) p.1 (segment-stays old p.0 k s h)

pub rows-kept : (old new : Contents) (d k : ℕ) (rs : Rows) → IsPrefix old new → rows_at old d k ≡ Some rs
    → rows_at new d k ≡ Some rs
rows-kept old new d k rs p h = subst (λ c. rows_at c d k ≡ Some rs) p.1 (rows-stay old p.0 d k rs h)

-- the segment of a chunk with rows
pub record Spells (ns : Contents) (k : ℕ) (rs : Rows) : Type 0 where
  pub segment : Segment
  pub is : segment_at ns k ≡ Some segment
  pub rows : segment.rows ≡ rs

pub spells_rows : (ns : Contents) (k : ℕ) (rs : Rows) → chunk_rows ns k ≡ Some rs → Spells ns k rs
spells_rows ns k rs h = by (segment_at ns k) refl h
  where
    by : (o : Option Segment) → segment_at ns k ≡ o → option_map (λ (s : Segment). s.rows) o ≡ Some rs → Spells ns k rs
    by None e h = absurd cc
    by (Some s) e h = record { segment = s; is = e; rows = let g : s.rows ≡ rs = cc h in g }

-- rows at a depth are those of the chunk, and the depth is its own
pub spells_at : (ns : Contents) (d k : ℕ) (rs : Rows) → rows_at ns d k ≡ Some rs
    → (f : Spells ns k rs) × (f.segment.depth ≡ d)
spells_at ns d k rs h =
    let m = and_then-some (segment_at ns k) (rows_if d) rs h in
    by m.0 m.1 m.2
  where
    by : (s : Segment) → segment_at ns k ≡ Some s → rows_if d s ≡ Some rs → (f : Spells ns k rs) × (f.segment.depth ≡ d)
    by s e g = to (s.depth == d) refl g
      where
        to : (u : Bool) → (s.depth == d) ≡ u → cond u (Some s.rows) None ≡ Some rs
            → (f : Spells ns k rs) × (f.segment.depth ≡ d)
        to true q g = (record { segment = s; is = e; rows = let w : s.rows ≡ rs = cc g in w }, grind (arith, nat_tests))
        to false q g = absurd cc

pub chunk_rows-at : (ns : Contents) (d k : ℕ) (rs : Rows) → rows_at ns d k ≡ Some rs → chunk_rows ns k ≡ Some rs
chunk_rows-at ns d k rs h =
    let f = spells_at ns d k rs h in
    ap (option_map (λ (s : Segment). s.rows)) f.0.is ∙ ap (λ w. Some w) f.0.rows

pub rows_at-segment : (ns : Contents) (k : ℕ) (s : Segment) → segment_at ns k ≡ Some s
    → rows_at ns s.depth k ≡ Some s.rows
rows_at-segment ns k s h = ap (option_and_then (rows_if s.depth)) h ∙ by (s.depth == s.depth) (grind (arith, nat_tests))
  where
    by : (u : Bool) → u ≡ true → cond u (Some s.rows) None ≡ Some s.rows
    by true q = refl
    by false q = absurd cc

-- rows that are in order are there
pub record Known (x : Option Rows) : Type 0 where
  pub rows : Rows
  pub is : x ≡ Some rows
  pub order : IsStrict rows

pub known : (x : Option Rows) → IsTree x → Known x
known None h = absurd h
known (Some rs) h = record { rows = rs; is = refl; order = strict rs h }

pub tree_of : (x : Option Rows) (rs : Rows) → x ≡ Some rs → IsStrict rs → IsTree x
tree_of x rs e o = subst IsTree (sym e) (sorted rs o)

-- the children, by what shows a stamp
abbrev pub shows_by : (ℕ → Option Rows) → List (Bytes × Ref) → Shows
shows_by f kids = map (λ e. (e.0, f (stamp_of e.1))) kids

-- each child was placed before this stamp
abbrev pub AllLow : ℕ → List (Bytes × Ref) → Type 0
AllLow k [] = Unit {0}
AllLow k (e ∷ es) = (stamp_of e.1 < k) × AllLow k es

pub record OpenLeaf (s : Segment) (rows : Rows) : Type 0 where
  pub fit : length rows ≤ 16
  pub depth : s.depth ≡ 1
  pub is : s.rows ≡ rows

pub record OpenInner (ns : Contents) (k : ℕ) (s : Segment) (kids : List (Bytes × Ref)) : Type 0 where
  pub depth : ℕ
  pub deep : s.depth ≡ depth + 1
  pub filled : 0 < length kids
  pub fit : length kids ≤ 16
  pub rows : joined_rows (shows_by (rows_at ns depth) kids) ≡ Some s.rows
  pub low : AllLow k kids

abbrev pub Opened : Contents → ℕ → Segment → Chunk Ref → Type 0
Opened ns k s (Leaf rows) = OpenLeaf s rows
Opened ns k s (Inner kids) = OpenInner ns k s kids

-- a chunk of so many entries
pub record Sized (n depth : ℕ) (rows : Rows) (s : Segment) : Type 0 where
  pub fit : n ≤ 16
  pub depth_is : s.depth ≡ depth
  pub rows_is : s.rows ≡ rows

pub sized-is : (n depth : ℕ) (rows : Rows) (s : Segment) → sized n depth rows ≡ Some s → Sized n depth rows s
sized-is n depth rows s h = by (nat_le n 16) refl h
  where
    by : (u : Bool) → nat_le n 16 ≡ u → cond u (Some (record { depth = depth; rows = rows })) None ≡ Some s
        → Sized n depth rows s
    by true q h = let e : record { depth = depth; rows = rows } ≡ s = cc h in
        record {
          fit = grind (arith, nat_tests);
          depth_is = ap (λ (r : Segment). r.depth) (sym e);
          rows_is = ap (λ (r : Segment). r.rows) (sym e);
        }
    by false q h = absurd cc

-- children that show rows show the same by what tells as much
lifted : (f g : ℕ → Option Rows) (k : ℕ) → ((c : ℕ) (v : Rows) → f c ≡ Some v → (c < k) × (g c ≡ Some v))
    → (kids : List (Bytes × Ref)) (rs : Rows)
    → joined_rows (shows_by f kids) ≡ Some rs → (joined_rows (shows_by g kids) ≡ Some rs) × AllLow k kids
lifted f g k t [] rs h = (h, tt)
lifted f g k t (e ∷ es) rs h =
    let s = split_of (e.0, f (stamp_of e.1)) (shows_by f es) rs h in
    let r = lifted f g k t es s.back s.back_is in
    let m = t (stamp_of e.1) s.front s.front_is in (
      ap (λ x. joined_one e.0 x (joined_rows (shows_by g es))) m.1 ∙ ap (λ y. joined_one e.0 (Some s.front) y) r.0
          ∙ ap (λ u. cond u (Some (s.front ++ s.back)) None) s.starts ∙ ap (λ w. Some w) (sym s.whole),
      (m.0, r.1),
    )

pub rows_in-lift : (done whole : List (Option Spelled)) (k d c : ℕ) (v : Rows)
    → ((j : ℕ) (y : Spelled) → answer done j ≡ Some y → (j < k) × (answer whole j ≡ Some y))
    → rows_in done d c ≡ Some v → (c < k) × (rows_in whole d c ≡ Some v)
rows_in-lift done whole k d c v t h =
    let m = and_then-some (segment_in done c) (rows_if d) v h in
    let a = and_then-some (answer done c) as_segment m.0 m.1 in
    let b = t c a.0 a.1 in (
      b.0,
      ap (λ o. option_and_then (rows_if d) (option_and_then as_segment o)) b.1 ∙ ap
          (λ o. option_and_then (rows_if d) o) a.2 ∙ m.2,
    )

-- the children by their stamps, and what shows these
abbrev pub stamped : List (Bytes × Ref) → List (Bytes × ℕ)
stamped kids = map (λ e. (e.0, stamp_of e.1)) kids

abbrev pub stamps_shown : (ℕ → Option Rows) → List (Bytes × ℕ) → Shows
stamps_shown f kids = map (λ x. (x.0, f x.1)) kids

pub renamed-shows : (f : ℕ → Option Rows) (kids : List (Bytes × Ref)) → stamps_shown f (stamped kids) ≡ shows_by f kids
renamed-shows f [] = refl
renamed-shows f (e ∷ es) = ap (λ w. (e.0, f (stamp_of e.1)) ∷ w) (renamed-shows f es)

pub length-renamed : (kids : List (Bytes × Ref)) → length (stamped kids) ≡ length kids
length-renamed [] = refl
length-renamed (e ∷ es) = ap suc (length-renamed es)

pub opened : (ns : Contents) (k : ℕ) (s : Segment) (c : Chunk Ref) → segment_at ns k ≡ Some s
    → slice_get ns k ≡ Some (chunk_content c) → Opened ns k s c
opened ns k s c h g =
    let m = segment-content ns k s h in
    let e : Some (node.Chunk m.0) ≡ Some (chunk_content c) = sym m.2 ∙ g in
    let r : m.0 ≡ renamed_chunk stamp_of c = cc e in
    by c m.1 (subst (λ w. chunk_in (spelled m.1) w ≡ Some s) r m.3) m.4
  where
    by : (c : Chunk Ref) (pre : Contents) → chunk_in (spelled pre) (renamed_chunk stamp_of c) ≡ Some s
        → ((j : ℕ) (y : Spelled) → answer (spelled pre) j ≡ Some y → (j < k) × (answer (spelled ns) j ≡ Some y))
        → Opened ns k s c
    by (Leaf rows) pre is t = let z = sized-is (length rows) 1 rows s is in
        record { fit = z.fit; depth = z.depth_is; is = z.rows_is }
    by (Inner []) pre is t = absurd cc
    by (Inner (e ∷ es)) pre is t =
        let a = and_then-some (segment_in (spelled pre) (stamp_of e.1)) (λ (p : Segment).
        option_and_then (sized (length (stamped (e ∷ es))) (p.depth + 1))
        (joined_rows (stamps_shown (rows_in (spelled pre) p.depth) (stamped (e ∷ es))))) s is in
        let b = and_then-some (joined_rows (stamps_shown (rows_in (spelled pre) a.0.depth) (stamped (e ∷ es))))
        (sized (length (stamped (e ∷ es))) (a.0.depth + 1)) s a.2 in
        let z = sized-is (length (stamped (e ∷ es))) (a.0.depth + 1) b.0 s b.2 in
        let j : joined_rows (shows_by (rows_in (spelled pre) a.0.depth) (e ∷ es))
        ≡ Some b.0 = ap joined_rows (sym (renamed-shows (rows_in (spelled pre) a.0.depth) (e ∷ es))) ∙ b.1 in
        let l = lifted (rows_in (spelled pre) a.0.depth) (rows_at ns a.0.depth) k
        (λ c v q. rows_in-lift (spelled pre) (spelled ns) k a.0.depth c v t q) (e ∷ es) b.0 j in
        record {
          depth = a.0.depth;
          deep = z.depth_is;
          filled = omega arith;
          fit = omega (arith, z.fit, length-renamed es);
          rows = l.0 ∙ ap (λ w. Some w) (sym z.rows_is);
          low = l.1;
        }

-- the entry at a place, those before it and those behind it
pub record At {A : Type 0} (es : List (Bytes × A)) (i : ℕ) (x : A) : Type 0 where
  pub before : List (Bytes × A)
  pub first : Bytes
  pub behind : List (Bytes × A)
  pub whole : es ≡ before ++ (first, x) ∷ behind
  pub at : length before ≡ i

pub entry_at : {A : Type 0} (es : List (Bytes × A)) (i : ℕ) (x : A) → slice_get (values_of es) i ≡ Some x → At es i x
entry_at [] i x h = absurd cc
entry_at (e ∷ es) zero x h = record {
  before = [];
  first = e.0;
  behind = es;
  whole = ap (λ w. (e.0, w) ∷ es) (let g : e.1 ≡ x = cc h in g);
  at = refl;
}
entry_at (e ∷ es) (suc i) x h =
    let a = entry_at es i x h in
    record {
      before = e ∷ a.before;
      first = a.first;
      behind = a.behind;
      whole = ap (λ w. e ∷ w) a.whole;
      at = ap suc a.at;
    }

pub key_at : {A : Type 0} (before : List (Bytes × A)) (e : Bytes × A) (behind : List (Bytes × A)) (i : ℕ)
    → length before ≡ i → get_or (keys_of (before ++ e ∷ behind)) i [] ≡ e.0
key_at [] e behind zero h = refl
key_at [] e behind (suc i) h = absurd (omega arith)
key_at (b ∷ before) e behind zero h = absurd (omega arith)
key_at (b ∷ before) e behind (suc i) h = key_at before e behind i (omega arith)

key_next : {A : Type 0} (before : List (Bytes × A)) (e f : Bytes × A) (behind : List (Bytes × A)) (i : ℕ)
    → length before ≡ i → get_or (keys_of (before ++ e ∷ f ∷ behind)) (suc i) [] ≡ f.0
key_next [] e f behind zero h = refl
key_next [] e f behind (suc i) h = absurd (omega arith)
key_next (b ∷ before) e f behind zero h = absurd (omega arith)
key_next (b ∷ before) e f behind (suc i) h = key_next before e f behind i (omega arith)

-- the place of a key among first keys, in terms of the entries there
pub record Placing {A : Type 0} (key : Bytes) (before : List (Bytes × A)) (first : Bytes)
    (behind : List (Bytes × A)) : Type 0 where
  pub upto : 0 < length before → is_above first key ≡ false
  pub next : (f : Bytes × A) (fs : List (Bytes × A)) → behind ≡ f ∷ fs → is_above f.0 key ≡ true

pub placing : {A : Type 0} (key : Bytes) (before : List (Bytes × A)) (first : Bytes) (x : A) (behind : List (Bytes × A))
    (i : ℕ) → length before ≡ i
    → IsPlace key (keys_of (before ++ (first, x) ∷ behind)) i → Placing key before first behind
placing {A} key before first x behind i l p = record {
  upto = λ h. subst (λ w. is_above w key ≡ false) (key_at before (first, x) behind i l) (p.1 [] (omega arith));
  next = λ f fs e. next f fs e p;
}
  where
    long : {A : Type 0} (before : List (Bytes × A)) (e f : Bytes × A) (fs : List (Bytes × A))
        → length before + 1 < length (keys_of (before ++ e ∷ f ∷ fs))
    long [] e f fs = omega arith
    long (b ∷ before) e f fs = omega (arith, long before e f fs)

    next : (f : Bytes × A) (fs : List (Bytes × A)) → behind ≡ f ∷ fs
        → IsPlace key (keys_of (before ++ (first, x) ∷ behind)) i → is_above f.0 key ≡ true
    next f fs e p =
        let q : IsPlace key (keys_of (before ++ (first, x) ∷ f ∷ fs)) i = subst
        (λ w. IsPlace key (keys_of (before ++ (first, x) ∷ w)) i) e p in
        let n : i + 1 ≡ suc i = omega arith in
        subst (λ w. is_above w key ≡ true) (key_next before (first, x) f fs i l)
        (subst (λ j. is_above (get_or (keys_of (before ++ (first, x) ∷ f ∷ fs)) j []) key ≡ true) n
        (q.2 [] (omega (arith, long before (first, x) f fs))))

-- entries with what shows them
abbrev pub shows_of : {A : Type 0} → (Bytes × A → Option Rows) → List (Bytes × A) → Shows
shows_of g es = map (λ e. (e.0, g e)) es

placed_by : {A : Type 0} (g : Bytes × A → Option Rows) (key : Bytes) (before : List (Bytes × A)) (first : Bytes)
    (behind : List (Bytes × A))
    → Placing key before first behind → Place key (shows_of g before) first (shows_of g behind)
placed_by {A} g key before first behind p = record {
  upto = λ h. p.upto (long before h);
  next = λ f fs e. next behind p.next f fs e;
}
  where
    long : (xs : List (Bytes × A)) → 0 < length (shows_of g xs) → 0 < length xs
    long [] h = h
    long (x ∷ xs) h = omega arith

    next : (ys : List (Bytes × A)) → ((f : Bytes × A) (fs : List (Bytes × A)) → ys ≡ f ∷ fs → is_above f.0 key ≡ true)
        → (f : Bytes × Option Rows) (fs : Shows) → shows_of g ys ≡ f ∷ fs → is_above f.0 key ≡ true
    next [] n f fs e = absurd cc
    next (y ∷ ys) n f fs e = let w : (y.0, g y) ≡ f = cc e in
        subst (λ (z : Bytes × Option Rows). is_above z.0 key ≡ true) w (n y ys refl)

pub shows-append : {A : Type 0} (g : Bytes × A → Option Rows) (xs ys : List (Bytes × A))
    → shows_of g (xs ++ ys) ≡ shows_of g xs ++ shows_of g ys
shows-append g [] ys = refl
shows-append g (x ∷ xs) ys = ap (λ w. (x.0, g x) ∷ w) (shows-append g xs ys)

pub low_at : (k : ℕ) (before : List (Bytes × Ref)) (e : Bytes × Ref) (behind : List (Bytes × Ref))
    → AllLow k (before ++ e ∷ behind) → stamp_of e.1 < k
low_at k [] e behind h = h.0
low_at k (b ∷ before) e behind h = low_at k before e behind h.1

-- the way down by what shows an entry
pub way_by : {A : Type 0} (g : Bytes × A → Option Rows) (key : Bytes) (before : List (Bytes × A)) (e : Bytes × A)
    (behind : List (Bytes × A)) (rs : Rows)
    → joined_rows (shows_of g (before ++ e ∷ behind)) ≡ Some rs → IsStrict rs → Placing key before e.0 behind
    → Way key (shows_of g before) e.0 (g e) (shows_of g behind) rs
way_by g key before e behind rs h o p =
    way key (shows_of g before) e.0 (g e) (shows_of g behind) rs
    (ap joined_rows (sym (shows-append g before (e ∷ behind))) ∙ h) o (placed_by g key before e.0 behind p)

pub find-way : (key : Bytes) (ls : Shows) (k : Bytes) (x : Option Rows) (bs : Shows) (rs : Rows)
    → (w : Way key ls k x bs rs) → find (slice_cmp nat_cmp) key w.here ≡ find (slice_cmp nat_cmp) key rs
find-way key ls k x bs rs w =
    sym (ap (find (slice_cmp nat_cmp) key) w.whole ∙ find-back key w.front
    (w.here ++ w.back) w.below ∙ find-front key w.here w.back w.above)
