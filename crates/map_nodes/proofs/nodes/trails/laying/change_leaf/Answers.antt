use Rattle.std.proofs.Common.{◌≡◌, ◌∙◌, ◌⊎◌, Err, Ok, Some, inl, inr, nat_cmp, option_copied, subst, sym}
use Rattle.std.specs.Cmp.Lexicographic.{slice_cmp}
use Rattle.std.specs.FinMap.{find}
use Rattle.group_history.specs.declared.mutators.Stop.TheVariants.{NoMemory}
use Rattle.map_nodes.proofs.UnputLemmas.{handed_on}
use Rattle.map_nodes.proofs.LeafRows.{value_searched}
use Rattle.map_nodes.specs.Changes.{Makes}
use Rattle.map_nodes.specs.Inside.Asking.{Asked}
use Rattle.map_nodes.specs.Inside.Laying.{IsLeafEnd}
use Rattle.map_nodes.proofs.nodes.trails.laying.change_leaf.Goals as goal

pub returns-in_err-update-clause-stopped : goal.returns-in_err-update-clause-stopped
returns-in_err-update-clause-stopped g c =
    let there : option_copied c.value_found.result ≡ find (slice_cmp nat_cmp) c.args.down.now.key.now c.args.leaf.now =
    value_searched c.args.leaf.now c.args.down.now.searched.now c.args.down.now.key.now c.search_for-found.result
    (option_copied c.value_found.result) c.as_slice.result.now c.values.result.now c.args.down.now.same
    (c.as_slice.ensures.keys ∙ c.deref.ensures ∙ c.keys.ensures.keys) c.values.ensures c.as_slice.ensures.order
    c.search_for-found.ensures.found c.search_for-found.ensures.absent c.value_found.ensures in
    let asks : c.args.asked.now ≡ Some c.unwrap-change.result = sym c.take.ensures.value ∙ c.unwrap-change.ensures in
    handed_on c.from_residual.result c.from_residual.ensures.1 (λ e same. elim (subst
    (λ s. (s ≡ NoMemory) ⊎ Makes (λ f x r. g.F.FnOnce.post f (x, tt) r) c.unwrap-change.result
    (option_copied c.value_found.result) (Err s)) (sym same) c.in_err-update.ensures.stopped) [
      | inl memory ↦ inl memory
      | inr refused ↦ inr (subst (λ w. Asked (λ f x r. g.F.FnOnce.post f (x, tt) r) w
          (find (slice_cmp nat_cmp) c.args.down.now.key.now c.args.leaf.now) (Err e)) (sym asks)
          (subst (λ w. Makes (λ f x r. g.F.FnOnce.post f (x, tt) r) c.unwrap-change.result w (Err e)) there refused))
    ])

pub returns-clause-reached : goal.returns-clause-reached
returns-clause-reached g c =
    let there : option_copied c.value_found.result ≡ find (slice_cmp nat_cmp) c.args.down.now.key.now c.args.leaf.now =
    value_searched c.args.leaf.now c.args.down.now.searched.now c.args.down.now.key.now c.search_for-found.result
    (option_copied c.value_found.result) c.as_slice.result.now c.values.result.now c.args.down.now.same
    (c.as_slice.ensures.keys ∙ c.deref.ensures ∙ c.keys.ensures.keys) c.values.ensures c.as_slice.ensures.order
    c.search_for-found.ensures.found c.search_for-found.ensures.absent c.value_found.ensures in
    let asks : c.args.asked.now ≡ Some c.unwrap-change.result = sym c.take.ensures.value ∙ c.unwrap-change.ensures in
    let u = c.in_ok-update.update in
    let end = c.put_in.new.laying in (
      u,
      subst (λ w. Asked (λ f x r. g.F.FnOnce.post f (x, tt) r) w
          (find (slice_cmp nat_cmp) c.args.down.now.key.now c.args.leaf.now) (Ok u)) (sym asks)
          (subst (λ w. Makes (λ f x r. g.F.FnOnce.post f (x, tt) r) c.unwrap-change.result w (Ok u)) there
          c.in_ok-update.ensures.made),
      subst (λ w. IsLeafEnd w c.args.down.now.as_trail c.args.leaf.now c.args.down.now.key.now u end.reached end)
          c.under.ensures.copies
          (subst (λ w. IsLeafEnd c.under.result.copies w c.args.leaf.now c.args.down.now.key.now u end.reached end)
          c.under.ensures.trail (subst (λ w. IsLeafEnd c.under.result.copies c.under.result.as_trail c.args.leaf.now w
          u end.reached end) c.under.ensures.key c.in_ok-put_in.ensures)),
    )
