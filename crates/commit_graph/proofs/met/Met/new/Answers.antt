use Rattle.std.proofs.Common.{◌≡◌, ℕ, inl, inr, List, [], ◌∷◌, sym, ◌∙◌}
use Rattle.std.specs.List.{AllClonesOf, Contains}
use Rattle.group_history.proofs.Lists.{cons_cases, no_element}
use Rattle.commit_graph.proofs.met.Met.new.Goals as goal

-- what has only clones of a number has only the number
all_same : (x : ℕ) (ys : List ℕ) → AllClonesOf (λ (a b : ℕ). b ≡ a) x ys → (y : ℕ) → Contains ys y → y ≡ x
all_same x [] all y h = absurd (no_element y h)
all_same x (z ∷ zs) all y h = elim (cons_cases z zs y h) [
  | inl e ↦ sym e ∙ elim all.0 [ inl p ↦ p | inr q ↦ q ]
  | inr i ↦ all_same x zs all.1 y i
]

pub invariant_of-result : goal.invariant_of-result
invariant_of-result c = sym c.in_ok-stamps.stamps.ok.0 ∙ c.in_ok-stamps.ensures.len

pub returns : goal.returns
returns c = all_same c.args.stamp c.in_ok-stamps.stamps.items c.in_ok-stamps.ensures.items
