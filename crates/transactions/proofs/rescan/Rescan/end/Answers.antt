use Rattle.std.proofs.Common.{◌-◌, ℕ, inl, inr, length, ap, subst, sym, ◌∙◌}
use Rattle.std.specs.List.{Contains}
use Rattle.map_chunks.specs.Inside.Scanning.{CanTake}
use Rattle.transactions.specs.Rescans.{SoFar}
use Rattle.transactions.specs.declared.spans.Span.{Span}
use Rattle.transactions.proofs.SpanLemmas.{set_cases}
use Rattle.transactions.proofs.rescan.Rescan.end.Goals as goal

pub returns-then-begun-len-clause-spans : goal.returns-then-begun-len-clause-spans
returns-then-begun-len-clause-spans g c s h = elim (set_cases c.self.inside.spans.items c.args.begun.place _ s h) [
  | inl p ↦ inl (subst (λ (f : SoFar). Contains f.spans s) c.self.view_is p)
  | inr e ↦ inr (
    ap (λ (w : Span). w.stamp) (sym e),
    ap (λ (w : Span). w.from) (sym e),
    ap (λ (w : Span). w.count) (sym e) ∙ c.saturating_sub-count.ensures
        ∙ ap (λ (n : ℕ). n - c.args.begun.from) c.count.ensures
        ∙ ap (λ (f : SoFar). length f.rows - c.args.begun.from) c.self.view_is,
    λ whole. subst (λ (f : SoFar). CanTake f.room 1) c.self.view_is
        (c.has_room.ensures (ap (λ (w : Span). w.whole) e ∙ whole)),
  )
]
