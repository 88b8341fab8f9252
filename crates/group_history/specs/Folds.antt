-- Answers by stamp. Contents stand in a list by their stamps, children before parents, and what each content
-- answers is made from what those before it answer. This project's own words.
use Rattle.std.specs.Prelude.{ℕ, List, [], ◌∷◌, ◌++◌, slice_get, Some, None, Option}

-- the answers of contents in order, after those of earlier ones
abbrev pub folded : {N A : Type 0} → (List (Option A) → N → Option A) → List (Option A) → List N → List (Option A)
folded f done [] = done
folded f done (n ∷ ns) = folded f (done ++ f done n ∷ []) ns

abbrev pub joined : {A : Type 0} → Option (Option A) → Option A
joined None = None
joined (Some o) = o

-- the answer of a stamp; none past the end, and where a content answers nothing
abbrev pub answer : {A : Type 0} → List (Option A) → ℕ → Option A
answer done k = joined (slice_get done k)
