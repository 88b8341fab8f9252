use Rattle.std.proofs.Common.{◌≡◌, ℕ, ◌<◌, ◌≤◌, ◌+◌, List, length, get_or, arith, subst, sym, ap, ◌∙◌, rules}
use Rattle.std.specs.Prelude.{slice_index}
use Rattle.group_history.specs.declared.refs.Ref.{Ref}
use Rattle.group_history.specs.Refs.{stamp_of}
use Rattle.commit_graph.specs.Reach.{stamps_of}
use Rattle.commit_graph.specs.Inside.Reach.{Omits}
use Rattle.commit_graph.proofs.Leaving.{IsMerge, merge_skip, merge_add, take_all}
use Rattle.commit_graph.proofs.merging.among.Goals as goal
use Rattle.commit_graph.proofs.merging.among.Goals.{then-not-is_at+in_ok-add, else-not-is_at}

pub loop-at-preserved : goal.loop-at-preserved
loop-at-preserved c =
    let bs = c.args.before.now in let ks = c.args.kept.now in let i = c.loop-at.at-index in
    let at = c.skip_above-place.result in
    let d : Ref = record { bits = 0 } in
    let low : i < length bs = search rules in
    let skipped : (j : ℕ) → c.loop-at.place ≤ j → j < at
    → stamp_of (get_or bs i d) < slice_index (stamps_of ks) j = λ j l m.
    (let s = c.skip_above-place.ensures.skipped j l m in omega (arith, s, c.stamp.ensures.stamp)) in
    let far : stamp_of (get_or bs i d) ≡ c.stamp.result = sym c.stamp.ensures.stamp in
    let again : c.stamp-in-loop-at.result ≡ stamp_of (get_or bs i d) = c.stamp-in-loop-at.ensures.stamp in
    elim c.if-not-is_at.branch [
      | then-not-is_at+in_ok-add w ↦ subst (λ (l : List Ref). IsMerge bs ks l (i + 1) at)
          (sym (ap (λ v. v.items) w.left-is ∙ w.in_ok-add.ensures))
          (merge_add bs ks c.loop-at.left.items i c.loop-at.place at d c.requires.before c.requires.kept low
          c.loop-at.invariant c.skip_above-place.ensures.within skipped
          (λ l. (let s = c.skip_above-place.ensures.stands l in omega (arith, s, far)))
          (λ l e. c.is_at.ensures.not w.if-not-is_at.true l (e ∙ sym again)))
      | else-not-is_at w ↦ subst (λ (l : List Ref). IsMerge bs ks l (i + 1) at) (sym (ap (λ v. v.items) w.left-is))
          (let t = c.is_at.ensures.there w.if-not-is_at.false in
          merge_skip bs ks c.loop-at.left.items i c.loop-at.place at d c.requires.before c.requires.kept low
          c.loop-at.invariant c.skip_above-place.ensures.within skipped t.0 (t.1 ∙ again))
    ]

pub returns-clause-exact : goal.returns-clause-exact
returns-clause-exact c =
    let bs = c.args.before.now in
    subst (λ (w : List Ref). Omits w c.args.kept.now c.loop-at.left.items)
    (take_all bs c.loop-at.at-index c.loop-at-test.false) c.loop-at.invariant.leaves
