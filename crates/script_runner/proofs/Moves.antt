-- How often the head was moved, and by whom.
use Rattle.std.proofs.Common.{◌≡◌, ℕ, suc, ◌+◌, ◌-◌, ◌<◌, ◌≤◌, ◌==◌, inl, inr, Bool, true, false, cond, List}
use Rattle.std.proofs.Common.{[], ◌∷◌, ◌++◌, length, filter, take, drop, Option, Some, None, refl, sym, ap, subst, ◌∙◌}
use Rattle.std.proofs.Common.{arith, length-append, set, slice_index_or, take-append-drop}
use Rattle.std.proofs.lemmas.Bool.Decides.{eqb_tells}
use Rattle.std.proofs.lemmas.List.{append-nil, get_or-set_other, get_or-set_same, length-set}
use Rattle.std.proofs.lemmas.List.Elements.{All-rest, filter-append}
use Rattle.std.proofs.lemmas.List.Sums.{sum_by-set}
use Rattle.std.specs.List.{All, sum}
use mathlib.Core.List.{IsPrefix}
use Rattle.group_history.specs.declared.changes.Change.{Change}
use Rattle.group_history.specs.declared.refs.Ref.{Ref}
use Rattle.group_history.specs.Meaning.{Meanings}
use Rattle.head_word.specs.declared.entry.Entry.{Entry}
use Rattle.head_word.specs.declared.entry.Entry.TheVariants as v
use Rattle.head_word.specs.Books.{AreBySeats, IsBySeat, StartsOpened, opened_at, book_opening, opening_entries}
use Rattle.head_word.specs.Books.{record_of}
use Rattle.head_word.specs.Books.{seats_of, with_change}
use Rattle.head_word.specs.Marks.{Known, own_of}
use Rattle.head_word.specs.Tallies.{key_of, mine}
use Rattle.head_word.proofs.Books.{record_more}
use Rattle.head_word.proofs.Counting.{mine_more}
use Rattle.linearized.specs.Answered.{IsPoint, is_move, moves_for, own_moves}
use Rattle.linearized.proofs.AtOnce.{record_at}

-- how often the head was moved
abbrev pub moves : List Entry → ℕ
moves es = length (filter is_move es)

pub moves_more : (xs ys : List Entry) → moves (xs ++ ys) ≡ moves xs + moves ys
moves_more xs ys = ap length (filter-append is_move xs ys) ∙ length-append (filter is_move xs) (filter is_move ys)

pub moves_grow : (xs ys : List Entry) → IsPrefix xs ys → moves xs ≤ moves ys
moves_grow xs ys pre = omega (arith, moves_more xs pre.0, ap moves pre.1)

-- an entry is a move or none
abbrev one : Entry → ℕ
one e = cond (is_move e) 1 0

moves_next : (e : Entry) (es : List Entry) → moves (e ∷ es) ≡ one e + moves es
moves_next (v.Draft d) es = let same : moves es ≡ 0 + moves es = omega arith in same
moves_next (v.Move m) es = let more : suc (moves es) ≡ 1 + moves es = omega arith in more
moves_next (v.Opening o) es = let more : suc (moves es) ≡ 1 + moves es = omega arith in more

-- entries that are no moves leave the record, and so does a book with no more moves
record_still : (es : List Entry) → moves es ≡ 0 → record_of es ≡ []
record_still [] h = refl
record_still (v.Draft d ∷ es) h = record_still es h
record_still (v.Move m ∷ es) h = absurd (let e : suc (moves es) ≡ 0 = h in omega (arith, e))
record_still (v.Opening o ∷ es) h = absurd (let e : suc (moves es) ≡ 0 = h in omega (arith, e))

pub record_same : (xs ys : List Entry) → IsPrefix xs ys → moves ys ≡ moves xs → record_of ys ≡ record_of xs
record_same xs ys pre same =
    let none : moves pre.0 ≡ 0 = omega (arith, moves_more xs pre.0, ap moves pre.1, same) in
    sym (ap record_of pre.1) ∙ (record_more xs pre.0 ∙
    (ap (λ w. record_of xs ++ w) (record_still pre.0 none) ∙ append-nil (record_of xs)))

-- ---- the moves of one seat

-- by an entry more, a key's moves are as many, or one more
mine_next : (k : ℕ) (e : Entry) (es : List Entry)
    → moves (mine k (e ∷ es)) ≡ cond (key_of e == k) (one e) 0 + moves (mine k es)
mine_next k e es = by (key_of e == k)
  where
    by : (b : Bool) → moves (cond b (e ∷ mine k es) (mine k es)) ≡ cond b (one e) 0 + moves (mine k es)
    by true = moves_next e (mine k es)
    by false = omega arith

mine_within : (k : ℕ) (es : List Entry) → moves (mine k es) ≤ moves es
mine_within k [] = omega arith
mine_within k (e ∷ es) =
    let rest = mine_within k es in
    omega (arith, mine_next k e es, moves_next e es, rest, at_most (key_of e == k))
  where
    at_most : (b : Bool) → cond b (one e) 0 ≤ one e
    at_most true = omega arith
    at_most false = omega arith

-- a seat's own moves are no more than all moves
pub own_within : (m : Known) → length (own_moves m) ≤ moves m.log
own_within m = by m.seat
  where
    by : (seat : Option ℕ) → moves (own_of seat m.log) ≤ moves m.log
    by None = omega arith
    by (Some j) = mine_within (suc j) m.log

own_more : (seat : Option ℕ) (xs ys : List Entry) → moves (own_of seat (xs ++ ys)) ≡ moves (own_of seat xs)
    + moves (own_of seat ys)
own_more None xs ys = refl
own_more (Some j) xs ys = ap moves (mine_more (suc j) xs ys) ∙ moves_more (mine (suc j) xs) (mine (suc j) ys)

own_part : (seat : Option ℕ) (es : List Entry) → moves (own_of seat es) ≤ moves es
own_part None es = omega arith
own_part (Some j) es = mine_within (suc j) es

module _ (old new : Known) (seat : new.seat ≡ old.seat) (pre : IsPrefix old.log new.log) where
  own_later : length (own_moves new) ≡ length (own_moves old) + moves (own_of old.seat pre.0)
  own_later =
      ap (λ s. moves (own_of s new.log)) seat ∙ ap (λ es. moves (own_of old.seat es)) (sym pre.1)
      ∙ own_more old.seat old.log pre.0

  -- other seats never move the head back
  pub others_grow : moves old.log + length (own_moves new) ≤ moves new.log + length (own_moves old)
  others_grow =
      omega (arith, own_later, own_part old.seat pre.0, moves_more old.log pre.0, ap moves pre.1)

  -- Where no other seat moved the head: the records at a point of a call, and behind it.
  module _ (alone : moves old.log + length (own_moves new) ≡ moves new.log + length (own_moves old)) where
    pub at_point : (means : Meanings) (change : Option Change) (log : List Entry) → IsPoint means old new change log
        → (record_of log ≡ record_of old.log) × (record_of new.log ≡ record_of old.log ++ with_change change [])
    at_point means change log p =
        let mine = moves_for old.seat p.to change in
        let b = ap length p.moves in
        let c = length-append (own_moves old) mine in
        let d = moves_more log mine in
        let e = moves_grow old.log log p.since in
        let f = moves_grow (log ++ mine) new.log p.until in
        let g : moves mine ≡ length mine = all_moves old.seat p.to change in
        let before = record_same old.log log p.since (omega (arith, alone, b, c, d, e, f, g)) in
        let behind = record_same (log ++ mine) new.log p.until (omega (arith, alone, b, c, d, e, f, g)) in
        (before, behind ∙ (record_at old.seat p.to change log ∙ ap (λ w. w ++ with_change change []) before))
      where
        all_moves : (seat : Option ℕ) (to : Ref) (change : Option Change)
            → moves (moves_for seat to change) ≡ length (moves_for seat to change)
        all_moves seat to None = refl
        all_moves seat to (Some c) = refl

    -- a call that moved nothing left the record
    pub left_alone : own_moves new ≡ own_moves old → record_of new.log ≡ record_of old.log
    left_alone none = record_same old.log new.log pre (omega (arith, alone, ap length none))

-- ---- the moves of all seats

-- what a book opens with is one move, by no seat
pub moves_opened : (count : ℕ) (at : Ref) → moves (book_opening count at) ≡ 1
moves_opened count at = refl

no_seat : (k : ℕ) → (0 == suc k) ≡ false
no_seat k = elim (eqb_tells 0 (suc k)) [
  | inl is ↦ absurd (let same : 0 ≡ suc k = is.1 in omega (arith, same))
  | inr not ↦ not.0
]

pub none_opened : (k count : ℕ) (at : Ref) → mine (suc k) (book_opening count at) ≡ []
none_opened k count at = rw (no_seat k) refl

by_seat : (k n : ℕ) → 0 < k → k ≤ n → (i : ℕ) × (i < n) × (k ≡ suc i)
by_seat k n some within = (k - 1, omega (arith, some, within), omega (arith, some, within))

-- Entries that so many seats added are no more moves than these bounds of each seat's moves.
pub counted : (es : List Entry) (bounds : List ℕ) → All (IsBySeat (length bounds)) es
    → ((i : ℕ) → i < length bounds → moves (mine (suc i) es) ≤ slice_index_or bounds i 0) → moves es ≤ sum bounds
counted [] bounds by within = omega arith
counted (e ∷ es) bounds by within =
    let here = by 0 e (omega arith) in
    let at = by_seat (key_of e) (length bounds) here.0 here.1 in
    let i = at.0 in
    let first : cond (key_of e == suc i) (one e) 0 ≡ one e = hit (key_of e) (suc i) (one e) at.2 in
    let bound = within i at.1 in
    let less = slice_index_or bounds i 0 - one e in
    let lower = set bounds i less in
    let long : length lower ≡ length bounds = length-set bounds i less in
    let total : sum lower + slice_index_or bounds i 0 ≡ sum bounds + less = sum_by-set (λ x. x) bounds i less 0 at.1 in
    let rest : moves es ≤ sum lower = counted es lower
    (subst (λ n. All (IsBySeat n) es) (sym long) (All-rest (IsBySeat (length bounds)) e es (e ∷ es) refl by))
    (λ k below. elim (eqb_tells k i) [
      | inl is ↦
          let now : slice_index_or lower k 0 ≡ less =
          ap (λ n. slice_index_or lower n 0) is.1 ∙ get_or-set_same bounds i less 0 at.1 in
          let same : moves (mine (suc k) es) ≡ moves (mine (suc i) es) = ap (λ n. moves (mine (suc n) es)) is.1 in
          omega (arith, now, same, bound, mine_next (suc i) e es, first)
      | inr not ↦
          let now : slice_index_or lower k 0 ≡ slice_index_or bounds k 0 = get_or-set_other bounds i k less 0 not.1 in
          omega (arith, now, within k (omega (arith, below, long)), mine_next (suc k) e es)
    ]) in
    omega (arith, rest, total, bound, mine_next (suc i) e es, first, moves_next e es)
  where
    hit : (a b n : ℕ) → a ≡ b → cond (a == b) n 0 ≡ n
    hit a b n is = elim (eqb_tells a b) [
      | inl same ↦ rw same.0 refl
      | inr not ↦ absurd (not.1 is)
    ]

-- so a book's moves are no more than the opening and what bounds each seat's moves
pub counted_book : (book : List Entry) (bounds : List ℕ) → StartsOpened book → AreBySeats (seats_of book) book
    → seats_of book ≡ length bounds
    → ((i : ℕ) → i < length bounds → moves (mine (suc i) book) ≤ slice_index_or bounds i 0)
    → moves book ≤ suc (sum bounds)
counted_book book bounds starts by many within =
    let head = take opening_entries book in let rest = drop opening_entries book in
    let whole : head ++ rest ≡ book = take-append-drop opening_entries book in
    let first : moves head ≡ 1 = ap moves starts ∙ moves_opened (seats_of book) (opened_at book) in
    let left : moves rest ≤ sum bounds = counted rest bounds (subst (λ n. All (IsBySeat n) rest) many by)
    (λ i below.
    let none : mine (suc i) head ≡ [] = ap (mine (suc i)) starts ∙ none_opened i (seats_of book) (opened_at book) in
    let all : moves (mine (suc i) book) ≡ moves (mine (suc i) rest) =
    ap (λ es. moves (mine (suc i) es)) (sym whole) ∙ ap moves (mine_more (suc i) head rest) ∙ ap
    (λ es. moves (es ++ mine (suc i) rest)) none in
    omega (arith, all, within i below)) in
    omega (arith, first, left, moves_more head rest, ap moves whole)
