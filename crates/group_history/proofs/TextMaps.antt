-- Entries that are cloned, and maps without any.
use Rattle.std.proofs.Common.{◌≡◌, ℕ, List, [], ◌∷◌, refl, sym, ap, ◌∙◌, length, arith}
use Rattle.std.specs.Ordering.{nat_cmp}
use Rattle.std.specs.Cmp.Lexicographic.{slice_cmp}
use Rattle.std.specs.List.{AllZip}
use Rattle.std.specs.FinMap.{entries, empty, len-entries, len-empty, empty_of_len, from_sorted, entries-from_sorted}

module _ {V : Type 0} where
  -- clones that are exact leave the entries as they are
  pub exact_entries : {C : List ℕ → List ℕ → Type 0} {D : V → V → Type 0} → ((x y : List ℕ) → C x y → y ≡ x)
      → ((x y : V) → D x y → y ≡ x)
      → (es fs : List (List ℕ × V)) → AllZip (λ p q. C p.0 q.0 × D p.1 q.1) es fs → fs ≡ es
  exact_entries c d [] [] h = refl
  exact_entries c d [] (f ∷ fs) h = absurd h
  exact_entries c d (e ∷ es) [] h = absurd h
  exact_entries c d (e ∷ es) (f ∷ fs) h =
      let head : f ≡ e = λ i. (c e.0 f.0 h.0.0 i, d e.1 f.1 h.0.1 i) in
      λ i. head i ∷ exact_entries c d es fs h.1 i

  none_left : (es : List (List ℕ × V)) → length es ≡ 0 → es ≡ []
  none_left [] h = refl
  none_left (e ∷ es) h = absurd (omega arith)

  pub entries-empty : entries (empty {X = V} {R = slice_cmp nat_cmp}) ≡ []
  entries-empty = none_left _ (sym (len-entries _) ∙ len-empty (slice_cmp nat_cmp) V)

-- no rows make the empty map
pub empty_map : from_sorted {K = List ℕ} {X = List ℕ} {R = slice_cmp nat_cmp} [] ≡ empty
empty_map = empty_of_len _ (len-entries _ ∙ ap length (entries-from_sorted (slice_cmp nat_cmp) [] tt))
