use Rattle.std.proofs.Common.{◌∙◌, ℕ, List, Vec, Global, ap, inl, inr, subst}
use Rattle.std.proofs.lemmas.List.Elements.{Contains-get_or, Contains-push_cases}
use Rattle.std.specs.List.{Contains}
use Rattle.transactions.specs.Spans.{IsMoved, IsOneMoved}
use Rattle.transactions.specs.declared.spans.Span.{Span}
use Rattle.transactions.proofs.spans.add_moved.Goals as goal
use Rattle.transactions.proofs.spans.add_moved.Goals.{in-Some+in_ok-push, in_default}

-- a span that was met was moved
one_moved : {from count end : ℕ} {one s : Span} (kept : List Span) → IsMoved from count end one s → Contains kept one
    → IsOneMoved from count end kept s
one_moved kept moved met = record { one = _; met = met; moved = moved }

pub loop-one-preserved : goal.loop-one-preserved
loop-one-preserved c s h = elim c.match-moved.branch [
  | in-Some+in_ok-push w ↦ elim (Contains-push_cases c.loop-one.spans.items w.in-Some.moved s
      (subst (λ xs. Contains xs s) (ap (λ (v : Vec Span Global). v.items) w.spans-is ∙ w.in_ok-push.ensures.items) h)) [
        | inl p ↦ c.loop-one.invariant s p
        | inr e ↦ inr (subst (IsOneMoved c.args.rows.from c.args.rows.count c.args.rows.end c.args.kept.now) e
            (one_moved c.args.kept.now w.in-Some.ensures
            (Contains-get_or c.args.kept.now c.loop-one.one-index _ c.loop-one-test.true)))
      ]
  | in_default w ↦ c.loop-one.invariant s
      (subst (λ (v : Vec Span Global). Contains v.items s) w.spans-is h)
]
