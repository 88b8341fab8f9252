-- Children one after another, each with the rows that it shows.
use Rattle.std.proofs.Common.{◌≡◌, ◌<◌, Bool, true, false, cond, List, [], ◌∷◌, ◌++◌, Option, Some, None, length, refl}
use Rattle.std.proofs.Common.{sym, ap, ◌∙◌, subst, arith, append_assoc}
use Rattle.group_history.specs.Map.{Bytes}
use Rattle.group_history.specs.Rows.{Rows}
use Rattle.group_history.specs.Spelling.{begins_with, joined_one, joined_rows}
use Rattle.map_chunks.specs.Search.{is_above}
use Rattle.map_chunks.proofs.RowLemmas.{greater_less, AllBelow, AllAbove, AllAbove-less, AllBelow-upto, IsStrict}
use Rattle.map_chunks.proofs.RowLemmas.{IsStrict-back, IsStrict-front, AllBelow-before}
use Rattle.map_chunks.proofs.Texts.{same_text-is, same_text-itself}

abbrev pub Shows : Type 0
Shows = List (Bytes × Option Rows)

-- rows behind rows, where both are known
abbrev pub appended : Option Rows → Option Rows → Option Rows
appended None y = None
appended (Some a) None = None
appended (Some a) (Some b) = Some (a ++ b)

one-appended : (k : Bytes) (x y z : Option Rows) → joined_one k x (appended y z) ≡ appended (joined_one k x y) z
one-appended k None y z = refl
one-appended k (Some a) None z = refl
one-appended k (Some a) (Some b) None = by (begins_with k a)
  where
    by : (u : Bool) → None ≡ appended (cond u (Some (a ++ b)) None) None
    by true = refl
    by false = refl
one-appended k (Some a) (Some b) (Some c) = by (begins_with k a)
  where
    by : (u : Bool) → cond u (Some (a ++ (b ++ c))) None ≡ appended (cond u (Some (a ++ b)) None) (Some c)
    by true = ap (λ t. Some t) (sym (append_assoc a b c))
    by false = refl

none-appended : (y : Option Rows) → y ≡ appended (Some []) y
none-appended None = refl
none-appended (Some b) = refl

pub joined-append : (es fs : Shows) → joined_rows (es ++ fs) ≡ appended (joined_rows es) (joined_rows fs)
joined-append [] fs = none-appended (joined_rows fs)
joined-append (e ∷ es) fs = ap (joined_one e.0 e.1) (joined-append es fs) ∙ one-appended e.0 e.1 (joined_rows es)
    (joined_rows fs)

pub some_is : {A : Type 0} {a b : A} → Some a ≡ Some b → a ≡ b
some_is p = cc

-- both parts of rows that are known
pub record Halves (x y : Option Rows) (rs : Rows) : Type 0 where
  pub front : Rows
  pub back : Rows
  pub front_is : x ≡ Some front
  pub back_is : y ≡ Some back
  pub whole : rs ≡ front ++ back

pub halves : (x y : Option Rows) (rs : Rows) → appended x y ≡ Some rs → Halves x y rs
halves None y rs h = absurd cc
halves (Some a) None rs h = absurd cc
halves (Some a) (Some b) rs h = record { front = a; back = b; front_is = refl; back_is = refl; whole = sym (some_is h) }

-- what the first child and those behind it show
pub record Split (e : Bytes × Option Rows) (es : Shows) (rs : Rows) : Type 0 where
  pub front : Rows
  pub back : Rows
  pub front_is : e.1 ≡ Some front
  pub back_is : joined_rows es ≡ Some back
  pub starts : begins_with e.0 front ≡ true
  pub whole : rs ≡ front ++ back

pub split_of : (e : Bytes × Option Rows) (es : Shows) (rs : Rows) → joined_rows (e ∷ es) ≡ Some rs → Split e es rs
split_of e es rs h = by e.1 refl (joined_rows es) refl h
  where
    by : (x : Option Rows) → e.1 ≡ x → (y : Option Rows) → joined_rows es ≡ y
        → joined_one e.0 x y ≡ Some rs → Split e es rs
    by None p y q g = absurd cc
    by (Some a) p None q g = absurd cc
    by (Some a) p (Some b) q g = to (begins_with e.0 a) refl g
      where
        to : (u : Bool) → begins_with e.0 a ≡ u → cond u (Some (a ++ b)) None ≡ Some rs → Split e es rs
        to true s g = record { front = a; back = b; front_is = p; back_is = q; starts = s; whole = sym (some_is g) }
        to false s g = absurd cc

-- rows that begin with a key
pub record Begins (k : Bytes) (rs : Rows) : Type 0 where
  pub value : Bytes
  pub rest : Rows
  pub whole : rs ≡ (k, value) ∷ rest

pub begins : (k : Bytes) (rs : Rows) → begins_with k rs ≡ true → Begins k rs
begins k [] h = absurd cc
begins k (r ∷ rs) h = record { value = r.1; rest = rs; whole = ap (λ w. (w, r.1) ∷ rs) (same_text-is r.0 k h) }

pub begins-with : (k v : Bytes) (rs : Rows) → begins_with k ((k, v) ∷ rs) ≡ true
begins-with k v rs = same_text-itself k

-- the rows of children begin with the first one's key
pub back_begins : (e : Bytes × Option Rows) (es : Shows) (rs : Rows) → joined_rows (e ∷ es) ≡ Some rs → Begins e.0 rs
back_begins e es rs h =
    let s = split_of e es rs h in
    let b = begins e.0 s.front s.starts in
    record { value = b.value; rest = b.rest ++ s.back; whole = s.whole ∙ ap (λ t. t ++ s.back) b.whole }

pub one : (k : Bytes) (rs : Rows) → begins_with k rs ≡ true → joined_rows ((k, Some rs) ∷ []) ≡ Some (rs ++ [])
one k rs h = ap (λ u. cond u (Some (rs ++ [])) None) h

-- the key belongs to the child with the first key k, which stands behind ls and before bs
pub record Place (key : Bytes) (ls : Shows) (k : Bytes) (bs : Shows) : Type 0 where
  pub upto : 0 < length ls → is_above k key ≡ false
  pub next : (f : Bytes × Option Rows) (fs : Shows) → bs ≡ f ∷ fs → is_above f.0 key ≡ true

-- the rows before the child's, its own, and those behind them
pub record Way (key : Bytes) (ls : Shows) (k : Bytes) (x : Option Rows) (bs : Shows) (rs : Rows) : Type 0 where
  pub front : Rows
  pub here : Rows
  pub back : Rows
  pub front_is : joined_rows ls ≡ Some front
  pub here_is : x ≡ Some here
  pub back_is : joined_rows bs ≡ Some back
  pub starts : begins_with k here ≡ true
  pub whole : rs ≡ front ++ (here ++ back)
  pub strict : IsStrict here
  pub below : AllBelow key front
  pub above : AllAbove key back

pub way : (key : Bytes) (ls : Shows) (k : Bytes) (x : Option Rows) (bs : Shows) (rs : Rows)
    → joined_rows (ls ++ (k, x) ∷ bs) ≡ Some rs → IsStrict rs
    → Place key ls k bs → Way key ls k x bs rs
way key ls k x bs rs h o p =
    let g = halves (joined_rows ls) (joined_rows ((k, x) ∷ bs)) rs (sym (joined-append ls ((k, x) ∷ bs)) ∙ h) in
    let s = split_of (k, x) bs g.back g.back_is in
    let w : rs ≡ g.front ++ (s.front ++ s.back) = g.whole ∙ ap (λ t. g.front ++ t) s.whole in
    let o2 : IsStrict (g.front ++ (s.front ++ s.back)) = subst IsStrict w o in
    let o3 : IsStrict (s.front ++ s.back) = IsStrict-back g.front (s.front ++ s.back) o2 in
    record {
      front = g.front;
      here = s.front;
      back = s.back;
      front_is = g.front_is;
      here_is = s.front_is;
      back_is = s.back_is;
      starts = s.starts;
      whole = w;
      strict = IsStrict-front s.front s.back o3;
      below = low ls g.front g.front_is (λ l. p.upto l) s.front s.back s.starts o2;
      above = high bs s.back s.back_is p.next s.front o3;
    }
  where
    low : (ls : Shows) (front : Rows) → joined_rows ls ≡ Some front → (0 < length ls → is_above k key ≡ false)
        → (here back : Rows) → begins_with k here ≡ true
        → IsStrict (front ++ (here ++ back)) → AllBelow key front
    low [] front e u here back s o = subst (AllBelow key) (some_is e) tt
    low (a ∷ ls) front e u here back s o =
        let b = begins k here s in
        let o4 : IsStrict (front ++ (k, b.value) ∷ (b.rest ++ back)) = subst
        (λ t. IsStrict (front ++ (t ++ back))) b.whole o in
        AllBelow-upto k key front (u (omega arith)) (AllBelow-before front (k, b.value) (b.rest ++ back) o4)

    high : (bs : Shows) (back : Rows) → joined_rows bs ≡ Some back
        → ((f : Bytes × Option Rows) (fs : Shows) → bs ≡ f ∷ fs → is_above f.0 key ≡ true) → (here : Rows)
        → IsStrict (here ++ back) → AllAbove key back
    high [] back e n here o = subst (AllAbove key) (some_is e) tt
    high (f ∷ fs) back e n here o =
        let b = back_begins f fs back e in
        let l = greater_less f.0 key (n f fs refl) in
        let o5 : IsStrict ((f.0, b.value) ∷ b.rest) = subst IsStrict b.whole (IsStrict-back here back o) in
        subst (AllAbove key) (sym b.whole) (l, AllAbove-less key f.0 b.rest l o5.0)
