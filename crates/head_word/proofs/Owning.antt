-- A tally that came back, and what its seat has added.
use Rattle.std.proofs.Common.{◌≡◌, ◌≢◌, ◌==◌, ◌<◌, ◌≤◌, arith, inl, inr, length-append, None, Bool, true, false}
use Rattle.std.proofs.Common.{MatchBool, if◌then◌else◌, ℕ, zero, suc, List, [], ◌∷◌, ◌++◌, length, replicate, Some}
use Rattle.std.proofs.Common.{Option, refl, ap, sym, ◌∙◌, subst}
use mathlib.Core.List.{IsPrefix}
use Rattle.group_history.specs.Meaning.{Meanings}
use Rattle.head_word.specs.declared.entry.Answer.{Answer}
use Rattle.head_word.specs.declared.entry.Entry.{Entry}
use Rattle.head_word.specs.Tallies.{key_of, count, mine}
use Rattle.head_word.specs.Inside.Parts.{told_count}
use Rattle.group_history.specs.declared.refs.Ref.{Ref}
use Rattle.head_word.specs.Books.{next_stamp, last_move, IsOpened}
use Rattle.head_word.specs.Rules.{head_says}
use Rattle.head_word.specs.Marks.{Known, own, own_of, others}
use Rattle.head_word.specs.Inside.Steps.{Taken, tallied, AddsEntry, Misses}
use Rattle.std.proofs.lemmas.Bool.Decides.{eqb_tells}
use Rattle.std.proofs.lemmas.Bool.{eq-eqb, false≢true}
use Rattle.std.proofs.lemmas.List.{append-nil}
use Rattle.head_word.proofs.Counting.{mine_more, mine_same}

pub told_of : (n : ℕ) (e : Entry) → length (replicate n e) ≡ n
told_of zero e = refl
told_of (suc n) e = ap suc (told_of n e)

pub count_told : (about : List Entry) (ask : Entry) (n : ℕ) → about ≡ ask ∷ replicate n ask → told_count about ≡ n
count_told about ask n is = ap told_count is ∙ told_of n ask

-- the offer's answer says that the book had as many entries as the tally, so it has no other entries of the seat
pub own_same : (k n : ℕ) (log log' : List Entry) → IsPrefix log log' → n ≡ count k log → (a : Answer) (m : ℕ)
    → Some a ≡ Some (tallied (count k log') m) → a.before ≡ n → mine k log' ≡ mine k log
own_same k n log log' pre sits a m is told =
    let is' : a ≡ tallied (count k log') m = cc is in
    mine_same k log log' pre (sym (ap (λ (b : Answer). b.before) is') ∙ (told ∙ sits))

-- one entry more
pub one_more : (old mid new : List Entry) (e e' : Entry) → new ≡ mid ++ e ∷ [] → mid ≡ old → e ≡ e'
    → new ≡ old ++ e' ∷ []
one_more old mid new e e' adds same is =
    adds ∙ (ap (λ (es : List Entry). es ++ e ∷ []) same ∙ ap (λ (x : Entry). old ++ x ∷ []) is)

alone : (k : ℕ) (ask : Entry) → key_of ask ≡ k → mine k (ask ∷ []) ≡ ask ∷ []
alone k ask key = rw (eq-eqb (key_of ask) k key) refl

-- an exchange of a seat's adds its one entry, or none
pub own_added : (says : List Entry → ℕ) (means : Meanings) (k n : ℕ) (t : Taken) (a : Answer) (won : Bool)
    → key_of t.ask ≡ k → n ≡ count k t.before → a.before ≡ n → t.answer ≡ Some a → IsPrefix t.before t.after
    → MatchBool won (AddsEntry says means t) (Misses says t)
    → mine k t.after ≡ mine k t.before ++ (if won then t.ask ∷ [] else [])
own_added says means k n t a true key sits told has pre h =
    let is = subst (λ (j : ℕ). Some a ≡ Some (tallied (count j h.log) (count j t.after))) key (sym has ∙ h.counted) in
    let mid : mine k h.log ≡ mine k t.before = own_same k n t.before h.log h.seen sits a (count k t.after) is told in
    ap (mine k) h.added ∙ (mine_more k h.log (t.ask ∷ []) ∙
    (ap (λ w. w ++ mine k (t.ask ∷ [])) mid ∙ ap (λ w. mine k t.before ++ w) (alone k t.ask key)))
own_added says means k n t a false key sits told has pre h =
    let is = subst (λ (j : ℕ). Some a ≡ Some (tallied (count j t.after) (count j t.after))) key (sym has ∙ h.counted) in
    own_same k n t.before t.after pre sits a (count k t.after) is told ∙ sym (append-nil (mine k t.before))

mine_within : (k : ℕ) (xs : List Entry) → length (mine k xs) ≤ length xs
mine_within k [] = omega arith
mine_within k (e ∷ xs) = elim (eqb_tells (key_of e) k) [
  | inl is ↦ rw is.0 (omega (arith, mine_within k xs))
  | inr not ↦ rw not.0 (omega (arith, mine_within k xs))
]

own_within : (seat : Option ℕ) (log : List Entry) → length (own_of seat log) ≤ length log
own_within None log = omega arith
own_within (Some j) log = mine_within (suc j) log

-- where a book has more entries, and the same ones of the seat, others added some
pub others_rise : (m w : Known) → length m.log < length w.log → own w ≡ own m → others m < others w
others_rise m w more same = omega (arith, more, ap length same, own_within m.seat m.log)

-- a book in which other stamps were drawn since has more entries
pub drew_more : (xs ys : List Entry) → IsPrefix xs ys → next_stamp ys ≢ next_stamp xs → length xs < length ys
drew_more xs ys ([], is) other = absurd (other (ap next_stamp (sym is ∙ append-nil xs)))
drew_more xs ys (e ∷ es, is) other = omega (arith, sym (ap length is) ∙ length-append xs (e ∷ es))

-- what an exchange of the head tells of the move
pub move_told : (means : Meanings) (t : Taken) (base : Ref) (won : Bool) → t.expected ≡ base.bits
    → (t.found == t.expected) ≡ won → MatchBool won (AddsEntry head_says means t) (Misses head_says t)
    → MatchBool won ((log : List Entry) × IsPrefix t.before log × IsOpened means log × (last_move log ≡ base)
    × (t.after ≡ log ++ t.ask ∷ [])) (last_move t.after ≢ base)
move_told means t base true at is told =
    let at_base : last_move told.log ≡ base = ap (λ (n : ℕ). let r : Ref = record { bits = n } in r) (told.word ∙ at) in
    (told.log, told.seen, told.opened, at_base, told.added)
move_told means t base false at is told = λ same.
    let met : t.found ≡ t.expected = sym told.word ∙ (ap (λ (r : Ref). r.bits) same ∙ sym at) in
    absurd (false≢true (sym is ∙ eq-eqb t.found t.expected met))
