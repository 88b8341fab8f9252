use Rattle.std.proofs.Common.{ℕ, inl, inr, List, ap, subst}
use Rattle.std.specs.List.{Contains}
use Rattle.commit_graph.specs.Inside.Reach.{Walked}
use Rattle.commit_graph.proofs.frontiers.Frontier.note.Goals as goal

pub returns : goal.returns
returns c = (
  ap (λ (w : Walked). w.ahead) c.self.view_is,
  λ x h. elim (c.note.ensures x h) [
    | inl e ↦ inr e
    | inr q ↦ inl (subst (λ (xs : List ℕ). Contains xs x) (ap (λ (w : Walked). w.met) c.self.view_is) q)
  ],
)
