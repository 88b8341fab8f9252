use Rattle.std.proofs.Common.{◌≡◌, ◌≤◌, Some, inl, inr, refl, arith, sym, subst, ◌∙◌}
use Rattle.group_history.specs.declared.refs.Ref.{Ref}
use Rattle.group_history.specs.Refs.{stamp_of}
use Rattle.commit_graph.proofs.Narrowing.{tops_more}
use Rattle.commit_graph.proofs.gaps.with.Goals as goal

pub returns-in_default : goal.returns-in_default
returns-in_default c rs is =
    tops_more rs c.args.tops _ c.args.at is (inl refl) (omega arith) (λ r e. absurd (c.in_default.not-Some r e))
    (inl refl)

pub returns-then-stamp : goal.returns-then-stamp
returns-then-stamp c rs is =
    let low : stamp_of c.in-Some.top ≤ c.max.result = grind (arith, c.max.ensures, c.stamp-then-stamp.ensures.stamp) in
    tops_more rs c.args.tops _ c.args.at is (inl refl) (grind (arith, c.max.ensures))
    (λ r e. let x : Some c.in-Some.top ≡ Some r = sym c.in-Some.is ∙ e in
    let same : c.in-Some.top ≡ r = cc x in inr (subst (λ (w : Ref). stamp_of w ≤ c.max.result) same low)) (inl refl)

pub returns : goal.returns
returns c rs is =
    tops_more rs c.args.tops _ c.args.at is (inr (sym c.in-Some.is)) (grind (arith, c.max-2.ensures))
    (λ r e. inl (sym c.in-Some.is ∙ e)) (inr (grind (arith, c.max-2.ensures, c.stamp-3.ensures.stamp)))
