-- What a call did that took just these slots.
use Rattle.std.proofs.Common.{◌≡◌, ℕ, List, [], ◌∷◌, ◌++◌, map, ap, sym, ◌∙◌}
use Rattle.std.proofs.lemmas.List.{append_cancel_right}
use Rattle.reader_claims.specs.Deeds as deed
use Rattle.reader_claims.specs.Passes.{OnlyTakes}
use Rattle.reader_claims.specs.declared.view.View.{View}

took_those : (v u : View) (slots those : List ℕ) → OnlyTakes v u slots → u.taken ≡ those ++ v.taken
    → u.deeds ≡ map deed.took those ++ v.deeds
took_those v u slots those took is = took.1 ∙ ap (λ (xs : List ℕ). map deed.took xs ++ v.deeds)
    (append_cancel_right slots those v.taken (sym took.0 ∙ is))

pub took_none : (v u : View) → ((slots : List ℕ) × OnlyTakes v u slots) → u.taken ≡ v.taken → u.deeds ≡ v.deeds
took_none v u took is = took_those v u took.0 [] took.1 is

pub took_one : (v u : View) (i : ℕ) → ((slots : List ℕ) × OnlyTakes v u slots) → u.taken ≡ i ∷ v.taken
    → u.deeds ≡ deed.took i ∷ v.deeds
took_one v u i took is = took_those v u took.0 (i ∷ []) took.1 is
