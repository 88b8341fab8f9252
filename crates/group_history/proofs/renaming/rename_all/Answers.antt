use Rattle.std.proofs.Common.{◌≡◌, suc, ◌+◌, ◌-◌, ◌<◌, ◌≤◌, ap, ◌∙◌, length, slice_index_or, slice_set, refl, arith}
use Rattle.std.proofs.Common.{subst, sym}
use Rattle.std.proofs.lemmas.Bool.{lt-ltb, ltb-true}
use Rattle.std.specs.Prelude.{cond}
use Rattle.group_history.specs.Naming.{placed_ref}
use Rattle.group_history.specs.Refs.{stamp_of}
use Rattle.group_history.proofs.InPlace.{replaced, replaced-get, replaced-set, replaced-kept, replaced-all}
use Rattle.group_history.proofs.renaming.rename_all.Goals as goal
use Rattle.group_history.proofs.renaming.rename_all.Goals.{then-not-is_before, else-not-is_before}

pub loop-place-init : goal.loop-place-init
loop-place-init c = refl

pub loop-place-preserved : goal.loop-place-preserved
loop-place-preserved c =
    let f = placed_ref c.args.from c.args.refs.now in
    let xs = c.args.children.items in
    let at = c.loop-place.place in
    let lt : at < length xs = omega (arith, c.loop-place-test.true, c.len-place-end.ensures) in
    let next : suc at ≡ at + 1 = omega arith in
    elim c.if-not-is_before.branch [
      | then-not-is_before w ↦ (
          let d = w.index-then-not-is_before.result.now in
          let e : w.renamed_ref.result ≡ f (slice_index_or xs at d)
          = w.renamed_ref.ensures ∙ ap f (w.index-then-not-is_before.ensures ∙
          (ap (λ v. slice_index_or v at d) c.loop-place.invariant ∙ replaced-get f at xs d)) in
          ap (λ v. v.items) w.children-is
          ∙ (ap (λ v. slice_set v at w.renamed_ref.result) c.loop-place.invariant
          ∙ (ap (λ r. slice_set (replaced f at xs) at r) e
          ∙ (replaced-set f at xs d lt ∙ ap (λ k. replaced f k xs) next)))
          )
      | else-not-is_before w ↦ (
          let d = c.index.result.now in
          let e : d ≡ slice_index_or xs at d = c.index.ensures ∙
          (ap (λ v. slice_index_or v at d) c.loop-place.invariant ∙ replaced-get f at xs d) in
          let below : d.bits < c.first_of-first.result.bits
          = ltb-true _ _ (sym c.is_before.ensures ∙ w.if-not-is_before.false) in
          let least = c.first_of-first.ensures in
          let low : stamp_of d < c.args.from = omega (arith, below, least.stamp, least.slot) in
          let stays : f d ≡ d = ap (λ b. cond b d (slice_index_or c.args.refs.now (stamp_of d - c.args.from) d))
          (lt-ltb (stamp_of d) c.args.from low) in
          ap (λ v. v.items) w.children-is
          ∙ (c.loop-place.invariant
          ∙ (replaced-kept f at xs d lt (subst (λ r. f r ≡ r) e stays) ∙ ap (λ k. replaced f k xs) next))
          )
    ]

pub returns : goal.returns
returns c = c.loop-place.invariant ∙ replaced-all
    (placed_ref c.args.from c.args.refs.now) c.loop-place.place c.args.children.items
    (let le : length c.args.children.items
    ≤ c.loop-place.place = omega (arith, c.loop-place-test.false, c.len-place-end.ensures) in le)
