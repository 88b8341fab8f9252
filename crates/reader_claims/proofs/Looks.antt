-- What a quick look at more slots led to.
use Rattle.std.proofs.Common.{◌≡◌, ℕ, ◌≤◌, ◌∷◌, refl, ap, sym, subst, ◌∙◌, arith}
use Rattle.reader_claims.specs.declared.passes.Look.{Look}
use Rattle.reader_claims.specs.declared.passes.Look.TheVariants.{Took, Retired, Nothing}
use Rattle.reader_claims.specs.declared.view.View.{View}
use Rattle.reader_claims.specs.Lists.{In}
use Rattle.reader_claims.specs.Passes.{Takes}
use Rattle.reader_claims.specs.Inside.Looked.{IfTook}

takes_later : (v u t : View) (i : ℕ) → u.taken ≡ v.taken → Takes u t i → Takes v t i
takes_later v u t i same h = ((λ inside. h.0 (subst (λ l. In l i) (sym same) inside)), h.1 ∙ ap (λ l. i ∷ l) same)

pub took_further : (look : Look) (a end : ℕ) (v u t : View) → a ≤ end → u.taken ≡ v.taken → IfTook look a u t
    → IfTook look end v t
took_further (Took i) a end v u t near same h = let lt = h.0 in (omega arith, takes_later v u t i same h.1)
took_further (Retired i) a end v u t near same h = let lt = h.0 in (omega arith, h.1 ∙ same)
took_further Nothing a end v u t near same h = h ∙ same

-- a look that took nothing, whatever else it found
pub took_nothing : (look : Look) (end : ℕ) (v u : View) → ((i : ℕ) → look ≡ Took i → ⊥) → IfTook look end v u
    → u.taken ≡ v.taken
took_nothing (Took i) end v u not h = absurd (not i refl)
took_nothing (Retired i) end v u not h = h.1
took_nothing Nothing end v u not h = h
