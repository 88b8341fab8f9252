-- A try that was lost was lost to another seat.
use Rattle.std.proofs.Common.{◌≡◌, ◌≢◌, ℕ, suc, ◌<◌, ◌≤◌, ◌==◌, ◌⊎◌, inl, inr, Bool, true, false, cond, List, [], ◌∷◌}
use Rattle.std.proofs.Common.{◌++◌, length, filter, Option, Some, None, refl, ap, sym, subst, ◌∙◌, arith, length-append}
use Rattle.std.proofs.lemmas.List.Elements.{filter-append}
use mathlib.Core.List.{IsPrefix}
use Rattle.group_history.specs.declared.changes.Change.{Change}
use Rattle.group_history.specs.declared.refs.Ref.{Ref}
use Rattle.group_history.specs.Meaning.{Meanings}
use Rattle.group_history.specs.Record.{IsLegal}
use Rattle.group_history.proofs.Lists.{prefix_trans}
use Rattle.head_word.specs.declared.entry.Entry.{Entry}
use Rattle.head_word.specs.declared.entry.Entry.TheVariants as v
use Rattle.head_word.specs.Books.{record_of, last_move, moved_from, nowhere}
use Rattle.head_word.specs.Marks.{Known, own, own_of, others}
use Rattle.head_word.specs.Tallies.{key_of, mine}
use Rattle.head_word.proofs.Books.{moved_more}
use Rattle.head_word.proofs.Counting.{mine_more}
use Rattle.linearized.specs.Answered.{IsPoint, own_moves, is_move, moves_for}

-- a point of the later part of a call is one of the whole call
pub point_since : (means : Meanings) (old mid new : Known) (change : Option Change) (log : List Entry)
    → IsPrefix old.log mid.log → mid.seat ≡ old.seat → own_moves mid ≡ own_moves old → IsPoint means mid new change log
    → IsPoint means old new change log
point_since means old mid new change log pre seat same is = record {
  to = is.to;
  since = prefix_trans old.log mid.log log pre is.since;
  until = subst (λ s. IsPrefix (log ++ moves_for s is.to change) new.log) seat is.until;
  legal = subst (λ s. IsLegal means (record_of (log ++ moves_for s is.to change))) seat is.legal;
  moves = subst (λ s. own_moves new ≡ own_moves old ++ moves_for s is.to change) seat
      (is.moves ∙ ap (λ w. w ++ moves_for mid.seat is.to change) same);
}

mine_short : (k : ℕ) (es : List Entry) → length (mine k es) ≤ length es
mine_short k [] = omega arith
mine_short k (e ∷ es) = by (key_of e == k) (mine_short k es)
  where
    by : (b : Bool) → length (mine k es) ≤ length es → length (cond b (e ∷ mine k es) (mine k es)) ≤ length (e ∷ es)
    by true le = omega (arith, le)
    by false le = omega (arith, le)

own_short : (seat : Option ℕ) (es : List Entry) → length (own_of seat es) ≤ length es
own_short None es = omega arith
own_short (Some j) es = mine_short (suc j) es

own_more : (seat : Option ℕ) (xs ys : List Entry) → own_of seat (xs ++ ys) ≡ own_of seat xs ++ own_of seat ys
own_more None xs ys = refl
own_more (Some j) xs ys = mine_more (suc j) xs ys

-- entries that are the seat's own, and no moves, leave the head; else another seat added one of them
quiet : (seat : Option ℕ) (r : Ref) (ys : List Entry) → filter is_move (own_of seat ys) ≡ []
    → (moved_from r ys ≡ r) ⊎ (length (own_of seat ys) < length ys)
quiet None r [] h = inl refl
quiet None r (y ∷ ys) h = inr (omega arith)
quiet (Some j) r [] h = inl refl
quiet (Some j) r (e ∷ es) h = by e (key_of e == suc j) (quiet (Some j) r es) h
  where
    by : (e : Entry) (b : Bool) → (filter is_move (mine (suc j) es) ≡ []
        → (moved_from r es ≡ r) ⊎ (length (mine (suc j) es) < length es))
        → filter is_move (cond b (e ∷ mine (suc j) es) (mine (suc j) es)) ≡ []
        → (moved_from r (e ∷ es) ≡ r) ⊎ (length (cond b (e ∷ mine (suc j) es) (mine (suc j) es)) < length (e ∷ es))
    by e false rest h = inr (omega (arith, mine_short (suc j) es))
    by (v.Move m) true rest h = absurd cc
    by (v.Opening o) true rest h = absurd cc
    by (v.Draft d) true rest h = elim (rest h) [ inl is ↦ inl is | inr less ↦ inr (omega (arith, less)) ]

nothing_more : {A : Type 0} (xs ys : List A) → xs ++ ys ≡ xs → ys ≡ []
nothing_more xs [] h = refl
nothing_more xs (y ∷ ys) h = absurd (omega (arith, ap length h, length-append xs (y ∷ ys)))

-- of a longer beginning of a book others have added no less
pub others_grow : (old new : Known) → IsPrefix old.log new.log → new.seat ≡ old.seat → others old ≤ others new
others_grow old new pre seat =
    let ys = pre.0 in
    let all : own new ≡ own_of old.seat old.log ++ own_of old.seat ys = ap (λ s. own_of s new.log) seat
    ∙ (ap (own_of old.seat) (sym pre.1) ∙ own_more old.seat old.log ys) in
    omega (
      arith,
      length-append old.log ys,
      length-append (own_of old.seat old.log) (own_of old.seat ys),
      ap length pre.1,
      ap length all,
      own_short old.seat old.log,
      own_short old.seat ys,
    )

-- where the seat made no move and the head is elsewhere, another seat added an entry
pub lost_to_others : (old new : Known) (base : Ref) → IsPrefix old.log new.log → new.seat ≡ old.seat
    → own_moves new ≡ own_moves old → base ≡ last_move old.log → last_move new.log ≢ base → others old < others new
lost_to_others old new base pre seat same at away =
    let ys = pre.0 in
    let all : own new ≡ own_of old.seat old.log
    ++ own_of old.seat ys = ap (λ s. own_of s new.log) seat ∙
    (ap (own_of old.seat) (sym pre.1) ∙ own_more old.seat old.log ys) in
    let none : filter is_move (own_of old.seat ys)
    ≡ [] = nothing_more (filter is_move (own old)) (filter is_move (own_of old.seat ys))
    (sym (filter-append is_move (own old) (own_of old.seat ys)) ∙ (sym (ap (filter is_move) all) ∙ same)) in
    let goes : last_move new.log ≡ moved_from (last_move old.log) ys = ap last_move
    (sym pre.1) ∙ moved_more nowhere old.log ys in
    let a = length-append old.log ys in
    let b = length-append (own_of old.seat old.log) (own_of old.seat ys) in
    let c = ap length pre.1 in
    let d = ap length all in
    let e = own_short old.seat old.log in
    let f = own_short old.seat ys in
    elim (quiet old.seat (last_move old.log) ys none) [
      | inl is ↦ absurd (away (goes ∙ (is ∙ sym at)))
      | inr less ↦ omega (arith, a, b, c, d, e, f, less)
    ]
