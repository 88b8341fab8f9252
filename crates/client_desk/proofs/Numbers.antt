-- What is kept under numbers.
use Rattle.std.proofs.Common.{◌≡◌, ℕ, zero, suc, ◌<◌, inl, inr, List, [], ◌∷◌, ◌++◌, Option, Some, None, length, refl}
use Rattle.std.proofs.Common.{sym, ap, ◌∙◌, subst, slice_set}
use Rattle.std.specs.Prelude.{IfSome}
use Rattle.std.proofs.lemmas.Bool.Decides.{eqb_tells}
use Rattle.std.proofs.lemmas.List.{get_or-set_same, get_or-set_other}
use Rattle.logbook.specs.Pages.{Book}
use Rattle.rebase.specs.Watching.{Watched}
use Rattle.client_desk.specs.declared.calls.Keep.{Keep}
use Rattle.client_desk.specs.declared.calls.Keep.TheVariants.{At, AtNext}
use Rattle.client_desk.specs.Inside.Keeping.{AreFor}
use Rattle.client_desk.specs.Kept.{IsKeptAt, kept_at, room_for, given_up_at}

-- what is written at a number that is there
pub kept_there : {X : Type 0} (old wide : List (Option X)) (n : ℕ) (x : X) → n < length wide
    → ((k : ℕ) → kept_at wide k ≡ kept_at old k) → IsKeptAt n x old (slice_set wide n (Some x))
kept_there old wide n x within same = record {
  there = get_or-set_same wide n (Some x) None within;
  others = λ k other. get_or-set_other wide n k (Some x) None other ∙ same k;
}

-- nothing is kept under one place more
pub one_more : {X : Type 0} (xs : List (Option X)) (k : ℕ) → kept_at (xs ++ None ∷ []) k ≡ kept_at xs k
one_more [] zero = refl
one_more [] (suc k) = refl
one_more (x ∷ xs) zero = refl
one_more (x ∷ xs) (suc k) = one_more xs k

-- what is kept is of one book

without_of : (book : Book) (ws : List (Option Watched)) (n : ℕ) → AreFor book ws → AreFor book (given_up_at ws n)
without_of book [] n all k = tt
without_of book (w ∷ ws) zero all zero = tt
without_of book (w ∷ ws) zero all (suc k) = all (suc k)
without_of book (w ∷ ws) (suc n) all zero = all 0
without_of book (w ∷ ws) (suc n) all (suc k) = without_of book ws n (λ i. all (suc i)) k

pub room_of : (book : Book) (keep : Keep) (ws : List (Option Watched)) → AreFor book ws → AreFor book (room_for keep ws)
room_of book (At n) ws all = without_of book ws n all
room_of book AtNext ws all = all

pub set_of : (book : Book) (ws : List (Option Watched)) (n : ℕ) (w : Watched) → w.book ≡ book → AreFor book ws
    → AreFor book (slice_set ws n (Some w))
set_of book [] n w is all k = tt
set_of book (x ∷ ws) zero w is all zero = is
set_of book (x ∷ ws) zero w is all (suc k) = all (suc k)
set_of book (x ∷ ws) (suc n) w is all zero = all 0
set_of book (x ∷ ws) (suc n) w is all (suc k) = set_of book ws n w is (λ i. all (suc i)) k

pub kept_of : (book : Book) (n : ℕ) (w : Watched) (old new : List (Option Watched)) → w.book ≡ book → AreFor book old
    → IsKeptAt n w old new → AreFor book new
kept_of book n w old new is all kept k = elim (eqb_tells k n) [
  | inl same ↦ subst (λ o. IfSome o (λ (x : Watched). x.book ≡ book)) (sym (ap (kept_at new) same.1 ∙ kept.there)) is
  | inr other ↦ subst (λ o. IfSome o (λ (x : Watched). x.book ≡ book)) (sym (kept.others k other.1)) (all k)
]
