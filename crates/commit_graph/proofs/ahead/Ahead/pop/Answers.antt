use Rattle.std.proofs.Common.{◌<◌, ℕ, List, [], ◌∷◌, ◌++◌, map, ap, sym, subst, ◌∙◌}
use Rattle.std.specs.List.{Contains}
use Rattle.std.specs.Ordering.{nat_cmp}
use Rattle.std.specs.Cmp.{ranked}
use Rattle.std.specs.BTreeMap.Range.{IsLtBy}
use Rattle.std.specs.declared.cmp.Ordering.TheVariants.{Less}
use Rattle.std.proofs.lemmas.List.{append-nil}
use Rattle.std.proofs.lemmas.List.Elements.{All-contains}
use Rattle.commit_graph.specs.declared.founds.NamedNode.{NamedNode}
use Rattle.commit_graph.specs.Inside.Reach.{AreKeyed, stamp_in}
use Rattle.commit_graph.proofs.Findings.{keyed_last, keyed_at}
use Rattle.commit_graph.proofs.Topping.{keeps_under, nodes_in, nodes_with}
use Rattle.commit_graph.proofs.ahead.Ahead.pop.Goals as goal

pub invariant_of-self-2 : goal.invariant_of-self-2
invariant_of-self-2 c =
    let es = c.pop_last.new.self.entries in let e : ℕ × NamedNode = (c.in_ok-found.field-0-0, c.in_ok-found.found) in (
      (keyed_last es e (subst AreKeyed c.in_ok-found.ensures.removal c.self.invariant.0)).0,
      λ f h. subst (λ (n : ℕ). stamp_in f < n) (sym c.pop.ensures.low)
          (keeps_under c.self.inside.tree.entries es e c.self.inside.near.low c.in_ok-found.ensures.removal
          c.self.invariant.1
          f h),
    )

pub returns-clause-some : goal.returns-clause-some
returns-clause-some c =
    let es = c.pop_last.new.self.entries in let e : ℕ × NamedNode = (c.in_ok-found.field-0-0, c.in_ok-found.found) in
    sym c.self.view_is
    ∙ (ap (λ (w : List NamedNode). nodes_in c.self.inside.tree.entries ++ w) c.in_default.ensures.none
    ∙ (append-nil (nodes_in c.self.inside.tree.entries) ∙ (ap nodes_in c.in_ok-found.ensures.removal
    ∙ (nodes_with es (e ∷ []) ∙ ap (λ (w : List NamedNode). w ++ c.in_ok-found.found ∷ [])
    (sym (ap (λ (w : List NamedNode). nodes_in es ++ w) c.in_default.ensures.left ∙ append-nil (nodes_in es)))))))

pub returns-clause-greatest : goal.returns-clause-greatest
returns-clause-greatest c other h =
    let es = c.pop_last.new.self.entries in
    let inside : Contains (nodes_in es) other = subst (λ (w : List NamedNode). Contains w other)
    (ap (λ (w : List NamedNode). nodes_in es ++ w) c.in_default.ensures.left ∙ append-nil (nodes_in es)) h in
    let k = keyed_last es (c.in_ok-found.field-0-0, c.in_ok-found.found)
    (subst AreKeyed c.in_ok-found.ensures.removal c.self.invariant.0) in
    let low = ranked (stamp_in other) c.in_ok-found.field-0-0 Less
    (sym (All-contains (λ q. IsLtBy nat_cmp q c.in_ok-found.field-0-0) (map (λ (e : ℕ × NamedNode). e.0) es)
    (stamp_in other) c.in_ok-found.ensures.all_below (keyed_at es other k.0 inside))) in
    subst (λ (n : ℕ). stamp_in other < n) k.1 low
