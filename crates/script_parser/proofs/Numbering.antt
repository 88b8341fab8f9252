-- A tree of numbered names, with a name more.
use Rattle.std.proofs.Common.{◌≡◌, ◌≢◌, ◌<◌, ◌≤◌, ◌+◌, ◌==◌, ◌∙◌, ℕ, zero, suc, Bool, true, false, List, [], ◌∷◌, ◌++◌}
use Rattle.std.proofs.Common.{None, Some, String, cond, length, map, unwrap_or, refl, sym, ap, subst, arith}
use Rattle.std.proofs.lemmas.Bool.{ne_eqb, eq-eqb}
use Rattle.std.proofs.lemmas.Iterator.Adapters.{position_from-zero}
use Rattle.std.proofs.lemmas.List.FromFn.{length-map-range_with_len, map-range_with_len_more}
use Rattle.std.proofs.lemmas.Slice.Eq.{bytes_eq-Decides}
use Rattle.std.proofs.lemmas.Map.Text.{btree_map_updates_text}
use Rattle.std.specs.BTreeMap.{BTreeMap, UpdatesBy, get_by_text, insert_entry, is_at}
use Rattle.std.specs.List.{position, position_from, range_with_len}
use Rattle.std.specs.Map.{lookup}
use Rattle.std.specs.Cmp.Lexicographic.{slice_cmp}
use Rattle.std.specs.Ordering.{is_eq, match_ordering, nat_cmp}
use Rattle.std.specs.declared.cmp.Ordering.TheVariants.{Less, Equal, Greater}
use Rattle.std.specs.Str.{bytes_eq}
use Rattle.std.specs.String.{string_bytes, string_cmp}
use Rattle.group_history.specs.Map.{Bytes, same_text}
use Rattle.script_parser.specs.Names.{number_among, with_name, names_of, name_number, noted, number_made}
use Rattle.script_parser.specs.Inside.Names.{name_at, names_in, AreNumbersBelow, IsNumbering}
use Rattle.script_parser.proofs.Changes.{changed_at-past, get_or-past}

-- PLACES

-- a value more that doesn't pass
place-other : {X : Type 0} (p : X → Bool) (xs : List X) (y : X) (a : ℕ) → p y ≡ false
    → position_from p a (xs ++ y ∷ []) ≡ position_from p a xs
place-other p [] y a fails = rw fails
place-other p (x ∷ xs) y a fails = ap (cond (p x) (Some a)) (place-other p xs y (a + 1) fails)

-- one that is the first to pass
place-first : {X : Type 0} (p : X → Bool) (xs : List X) (y : X) (a n : ℕ) → position_from p a xs ≡ None → p y ≡ true
    → a + length xs ≡ n → position_from p a (xs ++ y ∷ []) ≡ Some n
place-first p [] y a n none passes is = rw passes (ap Some (omega (arith, is)))
place-first p (x ∷ xs) y a n none passes is =
    elim (p x) as (λ b. cond b (Some a) (position_from p (a + 1) xs) ≡ None
    → cond b (Some a) (position_from p (a + 1) (xs ++ y ∷ [])) ≡ Some n) [
      | true ↦ λ found. absurd (cc)
      | false ↦ λ rest. place-first p xs y (a + 1) n rest passes (omega (arith, is))
    ] none

from-zero : {X : Type 0} (p : X → Bool) (xs : List X) → position p xs ≡ position_from p 0 xs
from-zero p xs = position_from-zero p xs

-- the number of a name among those of a client, and one that they didn't have
number_among-more : (names : List Bytes) (name q : Bytes) → number_among name names ≡ None
    → number_among q (names ++ name ∷ [])
    ≡ cond (same_text name q) (Some (length names)) (number_among q names)
unfolding number_among
number_among-more names name q none =
    let p : Bytes → Bool = λ n. same_text n q in
    from-zero p (names ++ name ∷ []) ∙
    elim (same_text name q) as (λ b. same_text name q ≡ b
    → position_from p 0 (names ++ name ∷ []) ≡ cond b (Some (length names)) (position p names)) [
      | true ↦ λ same_is.
          let same : name ≡ q = (bytes_eq-Decides name q).0 same_is in
          let none_of = subst (λ r. position (λ n. same_text n r) names ≡ None) same none in
          place-first p names name 0 (length names) (sym (from-zero p names) ∙ none_of) same_is (omega arith)
      | false ↦ λ other. place-other p names name 0 other ∙ sym (from-zero p names)
    ] refl

-- a client past the last has no names
pub number_of-past : (client : ℕ) (name : Bytes) (made : List (List Bytes)) → length made ≤ client
    → name_number client name made ≡ None
unfolding name_number number_among
number_of-past client name made past = ap (number_among name) (get_or-past made client [] past)

pub number_made-past : (client : ℕ) (name : Bytes) (made : List (List Bytes)) → length made ≤ client
    → number_made client name made ≡ 0
unfolding number_made
number_made-past client name made past =
    ap (λ o. unwrap_or o (length (names_of client made))) (number_of-past client name made past)
    ∙ ap length (get_or-past made client [] past)

pub noted-past : (client : ℕ) (name : Bytes) (made : List (List Bytes)) → length made ≤ client
    → noted client name made ≡ made
unfolding noted
noted-past client name made past = changed_at-past (with_name name) made client past

-- what two functions give alike but at one number is alike before it
alike_before : {X : Type 0} (f g : ℕ → X) (c : ℕ) → ((i : ℕ) → i ≢ c → g i ≡ f i) → (a n : ℕ) → a + n ≤ c
    → map g (range_with_len a n) ≡ map f (range_with_len a n)
alike_before f g c alike a zero before = refl
alike_before f g c alike a (suc n) before =
    ap (λ x. x ∷ map g (range_with_len (a + 1) n)) (alike a (λ e. absurd (omega (arith, e, before))))
    ∙ ap (λ xs. f a ∷ xs) (alike_before f g c alike (a + 1) n (omega (arith, before)))

-- NAMES

module _ {A : Type 0} where
  length-insert : (es : List (String A × ℕ)) (k : String A) (n : ℕ) → lookup (is_at (string_cmp k)) es ≡ None
      → length (insert_entry string_cmp es k n) ≡ length es + 1
  length-insert [] k n none = refl
  length-insert (e ∷ es) k n none =
      elim (string_cmp k e.0) as (λ o. cond (is_eq o) (Some e.1) (lookup (is_at (string_cmp k)) es) ≡ None
      → length (match_ordering o ((k, n) ∷ e ∷ es) ((e.0, n) ∷ es) (e ∷ insert_entry string_cmp es k n))
      ≡ suc (length es) + 1) [
        | Less ↦ λ rest. omega arith
        | Equal ↦ λ found. absurd (cc)
        | Greater ↦ λ rest. omega (arith, length-insert es k n rest)
      ] none

  name_at-other : (es : List (String A × ℕ)) (k : String A) (n i : ℕ) → lookup (is_at (string_cmp k)) es ≡ None
      → i ≢ n → name_at (insert_entry string_cmp es k n) i ≡ name_at es i
  name_at-other [] k n i none other = rw (ne_eqb n i (λ e. other (sym e)))
  name_at-other (e ∷ es) k n i none other =
      let apart : (n == i) ≡ false = ne_eqb n i (λ e. other (sym e)) in
      elim (string_cmp k e.0) as (λ o. cond (is_eq o) (Some e.1) (lookup (is_at (string_cmp k)) es) ≡ None
      → name_at (match_ordering o ((k, n) ∷ e ∷ es) ((e.0, n) ∷ es) (e ∷ insert_entry string_cmp es k n)) i
      ≡ name_at (e ∷ es) i) [
        | Less ↦ λ rest. rw apart
        | Equal ↦ λ found. absurd (cc)
        | Greater ↦ λ rest. ap (cond (e.1 == i) (string_bytes e.0)) (name_at-other es k n i rest other)
      ] none

  name_at-new : (es : List (String A × ℕ)) (k : String A) (n : ℕ) → lookup (is_at (string_cmp k)) es ≡ None
      → AreNumbersBelow n es → name_at (insert_entry string_cmp es k n) n ≡ string_bytes k
  name_at-new [] k n none below = rw (eq-eqb n n refl)
  name_at-new (e ∷ es) k n none below =
      let own : (n == n) ≡ true = eq-eqb n n refl in
      let apart : (e.1 == n) ≡ false = ne_eqb e.1 n (λ is. absurd (omega (arith, is, below.0))) in
      elim (string_cmp k e.0) as (λ o. cond (is_eq o) (Some e.1) (lookup (is_at (string_cmp k)) es) ≡ None
      → name_at (match_ordering o ((k, n) ∷ e ∷ es) ((e.0, n) ∷ es) (e ∷ insert_entry string_cmp es k n)) n
      ≡ string_bytes k) [
        | Less ↦ λ rest. rw own
        | Equal ↦ λ found. absurd (cc)
        | Greater ↦ λ rest. rw apart (name_at-new es k n rest below.1)
      ] none

  below-later : (n : ℕ) (es : List (String A × ℕ)) → AreNumbersBelow n es → AreNumbersBelow (n + 1) es
  below-later n [] below = tt
  below-later n (e ∷ es) below = (omega (arith, below.0), below-later n es below.1)

  below-insert : (es : List (String A × ℕ)) (k : String A) (n : ℕ) → AreNumbersBelow n es
      → AreNumbersBelow (n + 1) (insert_entry string_cmp es k n)
  below-insert [] k n below = (omega arith, tt)
  below-insert (e ∷ es) k n below =
      let here : e.1 < n + 1 = omega (arith, below.0) in
      let rest = below-later n es below.1 in
      elim (string_cmp k e.0) as (λ o. AreNumbersBelow (n + 1)
      (match_ordering o ((k, n) ∷ e ∷ es) ((e.0, n) ∷ es) (e ∷ insert_entry string_cmp es k n))) [
        | Less ↦ (omega arith, (here, rest))
        | Equal ↦ (omega arith, rest)
        | Greater ↦ (here, below-insert es k n below.1)
      ]

  names_in-insert : (es : List (String A × ℕ)) (k : String A) → lookup (is_at (string_cmp k)) es ≡ None
      → AreNumbersBelow (length es) es
      → names_in (insert_entry string_cmp es k (length es)) ≡ names_in es ++ string_bytes k ∷ []
  names_in-insert es k none below =
      let n = length es in
      let new = insert_entry string_cmp es k n in
      ap (λ m. map (name_at new) (range_with_len 0 m)) (length-insert es k n none)
      ∙ map-range_with_len_more (name_at new) 0 n n (omega arith)
      ∙ ap (λ xs. xs ++ name_at new n ∷ []) (alike_before (name_at es) (name_at new) n
      (λ i other. name_at-other es k n i none other) 0 n (omega arith))
      ∙ ap (λ x. names_in es ++ x ∷ []) (name_at-new es k n none below)

  pub length-names_in : (es : List (String A × ℕ)) → length (names_in es) ≡ length es
  length-names_in es = length-map-range_with_len (name_at es) 0 (length es)

  -- no names
  pub IsNumbering-none : (tree : BTreeMap (String A) ℕ) → tree.entries ≡ [] → IsNumbering tree
  unfolding number_among
  IsNumbering-none tree none = record {
    below = subst (λ es. AreNumbersBelow (length es) es) (sym none) tt;
    found = λ name. subst (λ (es : List (String A × ℕ)).
        lookup (is_at (λ k. slice_cmp nat_cmp name (string_bytes k))) es
        ≡ position (λ n. same_text n name) (names_in es)) (sym none) refl;
  }

  -- what becomes of a tree that takes a new name under the next number
  pub record Adds (old new : BTreeMap (String A) ℕ) (k : String A) (n : ℕ) : Type 0 where
    pub next : n ≡ length old.entries
    pub is_new : number_among (string_bytes k) (names_in old.entries) ≡ None
    pub entries : new.entries ≡ insert_entry string_cmp old.entries k n
    pub found : (q : Bytes) → get_by_text new q ≡ cond (bytes_eq (string_bytes k) q) (Some n) (get_by_text old q)

  pub Adds-from : {old new : BTreeMap (String A) ℕ} {k : String A} {n : ℕ} (name : Bytes) (names : List Bytes)
      → names_in old.entries ≡ names → string_bytes k ≡ name → number_among name names ≡ None
      → n ≡ length old.entries → new.entries ≡ insert_entry string_cmp old.entries k n
      → UpdatesBy string_cmp (λ q. slice_cmp nat_cmp (string_bytes k) (string_bytes q)) old new (Some n)
      → Adds old new k n
  Adds-from {old = old} {new = new} {k = k} {n = n} name names seen named none next entries updates = record {
    next = next;
    is_new = ap (number_among (string_bytes k)) seen ∙ ap (λ bs. number_among bs names) named ∙ none;
    entries = entries;
    found = btree_map_updates_text (string_bytes k) old new (Some n) updates;
  }

  none_at : {old new : BTreeMap (String A) ℕ} {k : String A} {n : ℕ} → IsNumbering old → Adds old new k n
      → lookup (is_at (string_cmp k)) old.entries ≡ None
  none_at {k = k} numbered adds = numbered.found (string_bytes k) ∙ adds.is_new

  pub names_in-add : {old new : BTreeMap (String A) ℕ} {k : String A} {n : ℕ} → IsNumbering old → Adds old new k n
      → names_in new.entries ≡ names_in old.entries ++ string_bytes k ∷ []
  names_in-add {old = old} {k = k} numbered adds =
      ap names_in (adds.entries ∙ ap (insert_entry string_cmp old.entries k) adds.next)
      ∙ names_in-insert old.entries k (none_at numbered adds) numbered.below

  pub IsNumbering-add : {old new : BTreeMap (String A) ℕ} {k : String A} {n : ℕ} → IsNumbering old → Adds old new k n
      → IsNumbering new
  IsNumbering-add {old = old} {new = new} {k = k} numbered adds =
      let es = old.entries in
      let n = length es in
      let none = none_at numbered adds in
      let entries = adds.entries ∙ ap (insert_entry string_cmp es k) adds.next in
      record {
        below = subst (λ fs. AreNumbersBelow (length fs) fs) (sym entries)
            (subst (λ m. AreNumbersBelow m (insert_entry string_cmp es k n)) (sym (length-insert es k n none))
            (below-insert es k n numbered.below));
        found = λ q. adds.found q
            ∙ ap (λ m. cond (bytes_eq (string_bytes k) q) (Some m) (get_by_text old q))
            (adds.next ∙ sym (length-names_in es))
            ∙ ap (cond (bytes_eq (string_bytes k) q) (Some (length (names_in es)))) (numbered.found q)
            ∙ sym (number_among-more (names_in es) (string_bytes k) q adds.is_new)
            ∙ ap (number_among q) (sym (names_in-add numbered adds));
      }
