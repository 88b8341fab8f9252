use Rattle.std.proofs.Common.{◌∙◌, ℕ, ap, inl, inr, subst}
use Rattle.std.specs.List.{Contains}
use Rattle.map_chunks.proofs.AnswerLemmas.{on_ok}
use Rattle.transactions.specs.Rescans.{SoFar}
use Rattle.transactions.specs.Spans.{IsOneMoved, fitting}
use Rattle.transactions.proofs.rescan.Rescan.keep.Goals as goal

pub returns-clause-spans : goal.returns-clause-spans
returns-clause-spans g c =
    let span = c.args.kept.span in
    let all = c.args.kept.all.now in
    let fits = c.fitting-count.ensures ∙ ap (λ (f : SoFar). fitting f.room span.count) c.self.view_is in
    on_ok c.add_moved.result c.add_moved.ensures (λ cases s h. elim (cases s h) [
      | inl p ↦ inl (subst (λ (f : SoFar). Contains f.spans s) c.self.view_is p)
      | inr q ↦ inr (subst (λ (n : ℕ). IsOneMoved span.from (fitting c.args.self.now.room span.count) n all s)
          c.count-end.ensures (subst (λ (n : ℕ). IsOneMoved span.from n c.count-end.result all s) fits q))
    ])
