-- What a book knows when it is opened.
use Rattle.std.proofs.Common.{◌≡◌, ◌≢◌, ℕ, ◌+◌, ◌<◌, ◌≤◌, zero, suc, length, arith, List, [], ◌∷◌, ap, subst, sym, ◌∙◌}
use Rattle.std.proofs.Common.{refl, Some, cond, eq-eqb, ne_eqb}
use Rattle.std.specs.List.{All}
use Rattle.std.proofs.lemmas.List.{length_push}
use Rattle.std.proofs.lemmas.List.Elements.{All-nil, All-push}
use Rattle.logbook.specs.Pages.{Book}
use Rattle.head_word.specs.declared.entry.Entry.{Entry}
use Rattle.head_word.specs.Marks.{Known, known, seated}
use Rattle.reader_claims.specs.Lists.{without}
use Rattle.chunk_slots.specs.Inside.Openings.{Knows}

-- each mark of a new book knows just what it opens with
seated_know : (book : Book) (log : List Entry) (n : ℕ) → All (Knows book log) (seated book log n)
seated_know book log zero = All-nil (Knows book log)
seated_know book log (suc n) = All-push (Knows book log) (seated book log n) (known book log (Some n))
    (seated_know book log n) (refl, refl)

-- there are as many marks as seats
pub length_seated : (book : Book) (log : List Entry) (n : ℕ) → length (seated book log n) ≡ n
length_seated book log zero = refl
length_seated book log (suc n) = length_push (seated book log n) (known book log (Some n)) ∙ ap (λ k. k + 1)
    (length_seated book log n) ∙ omega arith

-- of two slots nothing is left without both
pub none_left : (a b : ℕ) → a ≢ b → without b (without a (b ∷ a ∷ [])) ≡ []
none_left a b two =
    ap (λ c. without b (cond c (without a (a ∷ [])) (b ∷ without a (a ∷ [])))) (ne_eqb a b two)
    ∙ ap (λ c. without b (b ∷ cond c [] (a ∷ []))) (eq-eqb a a refl)
    ∙ ap (λ c. cond c [] (b ∷ [])) (eq-eqb b b refl)

pub marks_know : (book : Book) (log : List Entry) (n : ℕ) (marks : List Known) → marks ≡ seated book log n
    → All (Knows book log) marks
marks_know book log n marks is = subst (All (Knows book log)) (sym is) (seated_know book log n)

pub some_marks : (book : Book) (log : List Entry) (n : ℕ) (marks : List Known) → marks ≡ seated book log n → 1 ≤ n
    → 0 < length marks
some_marks book log n marks is some = let long = ap length is ∙ length_seated book log n in omega arith
