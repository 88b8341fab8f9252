use Rattle.std.proofs.Common.{inl, inr, ap, subst, sym}
use Rattle.std.proofs.lemmas.List.Elements.{Contains-push_cases}
use Rattle.std.specs.List.{Contains}
use Rattle.transactions.specs.Rescans.{SoFar}
use Rattle.transactions.specs.declared.spans.Span.{Span}
use Rattle.transactions.proofs.rescan.Rescan.begin.Goals as goal

pub returns-clause-spans : goal.returns-clause-spans
returns-clause-spans g c s h =
    let own = c.self.inside.spans.items in
    elim (Contains-push_cases own _ s (subst (λ xs. Contains xs s) c.in_ok-push.ensures.items h)) [
      | inl p ↦ inl (subst (λ (f : SoFar). Contains f.spans s) c.self.view_is p)
      | inr e ↦ inr (ap (λ (w : Span). w.stamp) (sym e))
    ]
