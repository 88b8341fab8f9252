use Rattle.std.proofs.Common.{ℕ, inl, inr, List, [], ◌∷◌, sym, subst, ◌∙◌}
use Rattle.std.specs.List.{Contains}
use Rattle.group_history.specs.Refs.{stamp_of}
use Rattle.group_history.proofs.Lists.{no_element, one_here}
use Rattle.commit_graph.specs.declared.founds.NamedNode.{NamedNode}
use Rattle.commit_graph.specs.Inside.Reach.{stamp_in}
use Rattle.commit_graph.proofs.reaching.begun.Goals as goal

pub returns-clause-begun : goal.returns-clause-begun
returns-clause-begun g c =
    let a = c.in_ok-add.ensures in let root = stamp_of c.args.root in
    let only : (x : ℕ) → Contains c.in_ok-frontier.frontier.met x → Contains (root ∷ []) x =
    λ x h. subst (λ (w : ℕ). Contains (root ∷ []) w) (sym (c.in_ok-frontier.ensures.met x h ∙ c.stamp-2.ensures.stamp))
    (one_here root) in
    record {
      from = λ f h. elim (a.from f h) [
        | inl p ↦ absurd (no_element f (subst (λ (w : List NamedNode). Contains w f) c.in_ok-frontier.ensures.ahead p))
        | inr q ↦ inr q
      ];
      kept = λ f h. absurd (no_element f h);
      added = λ f h. elim (a.added f h) [ inl p ↦ inl p | inr q ↦ inr (only (stamp_in f) q) ];
      met = λ x h. elim (a.met x h) [ inl p ↦ inl p | inr q ↦ inr (only x q) ];
    }
