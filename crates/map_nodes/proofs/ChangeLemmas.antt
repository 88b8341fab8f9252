-- A child of a draft's chunk changed in its place.
use Rattle.std.proofs.Common.{◌≡◌, ◌-◌, ℕ, zero, suc, true, cond, List, [], ◌∷◌, ◌++◌, Option, Some, None, length}
use Rattle.std.proofs.Common.{get_or, set, refl, sym, ap, ◌∙◌, subst, arith, nat_cmp, Ordering, Less, Equal, Greater}
use Rattle.std.specs.Prelude.{IsSome}
use Rattle.std.specs.Cmp.Lexicographic.{slice_cmp}
use Rattle.std.specs.FinMap.{put}
use Rattle.std.specs.FinMap.Entries.{by_order}
use Rattle.std.proofs.lemmas.List.{append-nil}
use mathlib.Core.List.{IsPrefix}
use Rattle.group_history.specs.Map.{Bytes}
use Rattle.group_history.specs.Refs.{stamp_of}
use Rattle.group_history.specs.Rows.{Rows, keys_of, paired}
use Rattle.group_history.specs.Spelling.{Contents, joined_one, joined_rows, begins_with}
use Rattle.group_history.proofs.Pairs.{keys_of-paired}
use Rattle.map_chunks.specs.Shown.{Part, value, chunk, Piece, part_rows, shown}
use Rattle.map_nodes.specs.Nodes.{Kids, kids_pieces, HeadIs, AllKids}
use Rattle.map_nodes.specs.Inside.Nodes.{Kid, child_rows}
use Rattle.map_nodes.specs.declared.nodes.OwnChild.{OwnChild}
use Rattle.map_nodes.specs.declared.nodes.OwnChild.TheVariants.{Placed, Own}
use Rattle.map_chunks.proofs.RowLemmas.{cmp, AllBelow, AllAbove, put-front}
use Rattle.map_chunks.proofs.RowLemmas.{put-back, put-at}
use Rattle.map_chunks.proofs.JoinLemmas.{Shows, appended, joined-append, split_of, begins, back_begins, begins-with}
use Rattle.map_chunks.proofs.OpenLemmas.{rows-kept, shows_of, shows-append, key_at}
use Rattle.map_nodes.proofs.NodeLemmas.{Down, kid_rows, pieces_shown, shown-kids}
use Rattle.map_chunks.proofs.SearchLemmas.{Found}

-- what pieces show stays when more is placed
part-kept : (old new : Contents) (k : Bytes) (x : Part) (rs : Rows) → IsPrefix old new → part_rows old k x ≡ Some rs
    → part_rows new k x ≡ Some rs
part-kept old new k (value v) rs p h = h
part-kept old new k (chunk d at) rs p h = rows-kept old new d (stamp_of at) rs p h

joined-kept : (e : Bytes) (x y : Option Rows) (es fs : Shows) (rs : Rows) → joined_rows ((e, x) ∷ es) ≡ Some rs
    → ((r : Rows) → x ≡ Some r → y ≡ Some r)
    → ((r : Rows) → joined_rows es ≡ Some r → joined_rows fs ≡ Some r) → joined_rows ((e, y) ∷ fs) ≡ Some rs
joined-kept e x y es fs rs h one more =
    let s = split_of (e, x) es rs h in
    ap (λ w. joined_one e w (joined_rows fs)) (one s.front s.front_is) ∙ ap (joined_one e (Some s.front))
    (more s.back s.back_is)
    ∙ ap (λ u. cond u (Some (s.front ++ s.back)) None) s.starts ∙ ap (λ w. Some w) (sym s.whole)

pub shown-kept : (old new : Contents) (ps : List Piece) (rs : Rows) → IsPrefix old new → shown old ps ≡ Some rs
    → shown new ps ≡ Some rs
shown-kept old new [] rs p h = h
shown-kept old new (q ∷ ps) rs p h =
    joined-kept q.0 (part_rows old q.0 q.1) (part_rows new q.0 q.1) (pieces_shown old ps) (pieces_shown new ps) rs h
    (λ r e. part-kept old new q.0 q.1 r p e) (λ r e. shown-kept old new ps r p e)

child-kept : (old new : Contents) (below : ℕ) (c : OwnChild) (rs : Rows) → IsPrefix old new
    → child_rows old below c ≡ Some rs → child_rows new below c ≡ Some rs
child-kept old new below (Placed at) rs p h = rows-kept old new below (stamp_of at) rs p h
child-kept old new below (Own n) rs p h = shown-kept old new n.value.pieces rs p h

kids-kept : (old new : Contents) (below : ℕ) (es : Kids) (rs : Rows) → IsPrefix old new
    → joined_rows (shows_of (kid_rows old below) es) ≡ Some rs
    → joined_rows (shows_of (kid_rows new below) es) ≡ Some rs
kids-kept old new below [] rs p h = h
kids-kept old new below (e ∷ es) rs p h =
    joined-kept e.0 (child_rows old below e.1) (child_rows new below e.1) (shows_of (kid_rows old below) es)
    (shows_of (kid_rows new below) es) rs h
    (λ r q. child-kept old new below e.1 r p q) (λ r q. kids-kept old new below es r p q)

-- a change of rows that is made at a key alone
abbrev pub IsLocal : Bytes → (Rows → Rows) → Type 0
IsLocal key op = (a x b : Rows) → AllBelow key a → AllAbove key b → op (a ++ (x ++ b)) ≡ a ++ (op x ++ b)

pub put-local : (key v : Bytes) → IsLocal key (put (slice_cmp nat_cmp) key v)
put-local key v a x b l u = put-back key v a (x ++ b) l ∙ ap (λ w. a ++ w) (put-front key v x b u)

AllKids-join : (below : ℕ) (ls bs : Kids) → AllKids below ls → AllKids below bs → AllKids below (ls ++ bs)
AllKids-join below [] bs g h = h
AllKids-join below (a ∷ ls) bs g h = (g.0, AllKids-join below ls bs g.1 h)

both-appended : (x y : Option Rows) (a b : Rows) → x ≡ Some a → y ≡ Some b → appended x y ≡ Some (a ++ b)
both-appended x y a b e f = ap (λ w. appended w y) e ∙ ap (appended (Some a)) f

-- other children in the place of one, which show its rows changed
pub record Changed (p : Contents) (below : ℕ) (kids : Kids) (rows : Rows) : Type 0 where
  pub all : AllKids below kids
  pub joined_is : joined_rows (shows_of (kid_rows p below) kids) ≡ Some rows
  pub shown_is : shown p (kids_pieces below kids) ≡ Some rows

pub changed : (old new : Contents) (depth : ℕ) (keys : List Bytes) (kids : List OwnChild) (pieces : List Piece)
    (key : Bytes) (i : ℕ) (child : OwnChild) (op : Rows → Rows) (news : Kids)
    → IsPrefix old new → (d : Down old depth keys kids pieces key i child) → IsLocal key op → AllKids (depth - 1) news
    → joined_rows (shows_of (kid_rows new (depth - 1)) news) ≡ Some (op d.way.here)
    → Changed new (depth - 1) (d.before ++ (news ++ d.behind)) (op d.rows)
changed old new depth keys kids pieces key i child op news p d local all n =
    let below = depth - 1 in
    let front = kids-kept old new below d.before d.way.front p d.way.front_is in
    let back = kids-kept old new below d.behind d.way.back p d.way.back_is in
    let behind : joined_rows (shows_of (kid_rows new below) (news ++ d.behind)) ≡ Some (op d.way.here ++ d.way.back) =
    ap joined_rows (shows-append (kid_rows new below) news d.behind) ∙ joined-append
    (shows_of (kid_rows new below) news) (shows_of (kid_rows new below) d.behind)
    ∙ both-appended _ _ (op d.way.here) d.way.back n back in
    let whole : joined_rows (shows_of (kid_rows new below) (d.before ++ (news ++ d.behind))) ≡ Some (op d.rows) =
    ap joined_rows (shows-append (kid_rows new below) d.before (news ++ d.behind))
    ∙ joined-append (shows_of (kid_rows new below) d.before) (shows_of (kid_rows new below) (news ++ d.behind))
    ∙ both-appended _ _ d.way.front (op d.way.here ++ d.way.back) front behind
    ∙ ap (λ w. Some w) (sym (ap op d.way.whole ∙ local d.way.front d.way.here d.way.back d.way.below d.way.above)) in
    let every : AllKids below (d.before ++ (news ++ d.behind)) = AllKids-join below d.before (news ++ d.behind) d.all.0
    (AllKids-join below news d.behind all d.all.2) in
    record {
      all = every;
      joined_is = whole;
      shown_is = shown-kids new below (d.before ++ (news ++ d.behind)) every ∙ whole;
    }

-- the first piece is under the first key
pub head_from : (p : Contents) (k : Bytes) (ps : List Piece) (rs : Rows) → shown p ps ≡ Some rs
    → begins_with k rs ≡ true → HeadIs k ps
head_from p k [] rs e h = by rs (let g : [] ≡ rs = cc e in g) h
  where
    by : (rs : Rows) → [] ≡ rs → begins_with k rs ≡ true → ⊥
    by [] e h = cc
    by (r ∷ rs) e h = cc
head_from p k (q ∷ ps) rs e h =
    let b = back_begins (q.0, part_rows p q.0 q.1) (pieces_shown p ps) rs e in
    let c = begins k rs h in
    same q.0 k b.value c.value b.rest c.rest (sym b.whole ∙ c.whole)
  where
    same : (x y v w : Bytes) (ls bs : Rows) → (x, v) ∷ ls ≡ (y, w) ∷ bs → x ≡ y
    same x y v w ls bs e = ap (λ (rs : Rows). first_key rs) e
      where
        first_key : Rows → Bytes
        first_key [] = []
        first_key (r ∷ rs) = r.0

-- one own child shows its rows, under the key with which they begin
pub one_child : (p : Contents) (below : ℕ) (k : Bytes) (n : Kid) (rs : Rows) → n.value.depth ≡ below
    → shown p n.value.pieces ≡ Some rs → begins_with k rs ≡ true
    → AllKids below ((k, Own n) ∷ []) × (joined_rows (shows_of (kid_rows p below) ((k, Own n) ∷ [])) ≡ Some rs)
one_child p below k n rs d e h = (
  ((d, head_from p k n.value.pieces rs e h), tt),
  ap (λ x. joined_one k x (Some [])) e ∙ ap (λ u. cond u (Some (rs ++ [])) None) h ∙ ap (λ w. Some w) (append-nil rs),
)

paired-set : {A : Type 0} (ks : List Bytes) (xs : List A) (i : ℕ) (y : A)
    → paired ks (set xs i y) ≡ set (paired ks xs) i (get_or ks i [], y)
paired-set [] xs i y = refl
paired-set (k ∷ ks) [] i y = refl
paired-set (k ∷ ks) (x ∷ xs) zero y = refl
paired-set (k ∷ ks) (x ∷ xs) (suc i) y = ap (λ w. (k, x) ∷ w) (paired-set ks xs i y)

pub set-at : {A : Type 0} (before : List A) (e : A) (behind : List A) (i : ℕ) (f : A) → length before ≡ i
    → set (before ++ e ∷ behind) i f ≡ before ++ f ∷ behind
set-at [] e behind zero f l = refl
set-at [] e behind (suc i) f l = absurd (omega arith)
set-at (b ∷ before) e behind zero f l = absurd (omega arith)
set-at (b ∷ before) e behind (suc i) f l = ap (λ w. b ∷ w) (set-at before e behind i f (omega arith))

-- one value of pairs replaced
pub replaced : {A : Type 0} (ks : List Bytes) (xs : List A) (i : ℕ) (y c : A) (before : List (Bytes × A))
    (first : Bytes) (behind : List (Bytes × A)) → length xs ≡ length ks
    → paired ks xs ≡ before ++ (first, c) ∷ behind → length before ≡ i
    → paired ks (set xs i y) ≡ before ++ (first, y) ∷ behind
replaced ks xs i y c before first behind l w a =
    let k : get_or ks i [] ≡ first = ap (λ z. get_or z i []) (sym (keys_of-paired ks xs l)) ∙ ap
    (λ z. get_or (keys_of z) i []) w ∙ key_at before (first, c) behind i a in
    paired-set ks xs i y ∙ ap (λ z. set z i (get_or ks i [], y)) w ∙ ap
    (λ z. set (before ++ (first, c) ∷ behind) i (z, y)) k ∙ set-at before (first, c) behind i (first, y) a

-- a put of a key that isn't below the first keeps the first key
pub put-begins : (k key v : Bytes) (rs : Rows) → begins_with k rs ≡ true → (cmp key k ≡ Less → ⊥)
    → begins_with k (put (slice_cmp nat_cmp) key v rs) ≡ true
put-begins k key v rs h n =
    let b = begins k rs h in
    subst (λ w. begins_with k (put (slice_cmp nat_cmp) key v w) ≡ true) (sym b.whole)
    (by (cmp key k) refl b.value b.rest)
  where
    by : (o : Ordering) → cmp key k ≡ o → (w : Bytes) (rest : Rows)
        → begins_with k (by_order o ((key, v) ∷ (k, w) ∷ rest) ((k, v) ∷ rest)
        ((k, w) ∷ put (slice_cmp nat_cmp) key v rest)) ≡ true
    by Less e w rest = absurd (n e)
    by Equal e w rest = begins-with k v rest
    by Greater e w rest = begins-with k w (put (slice_cmp nat_cmp) key v rest)

pub none_there : (o : Option Bytes) → IsSome o → o ≡ None → ⊥
none_there None f e = absurd cc
none_there (Some v) f e = cc

pub put-found : (key v : Bytes) (rows : Rows) (i : ℕ) → (f : Found key rows i)
    → put (slice_cmp nat_cmp) key v rows ≡ f.front ++ (key, v) ∷ f.back
put-found key v rows i f = ap (put (slice_cmp nat_cmp) key v) f.whole ∙ put-back key v f.front
    ((key, f.value) ∷ f.back) f.below ∙ ap (λ w. f.front ++ w) (put-at key v f.value f.back)
