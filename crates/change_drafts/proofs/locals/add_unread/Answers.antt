use Rattle.std.proofs.Common.{◌≡◌, ◌≤◌, List, take, length, rules, refl, sym, ap, ◌∙◌, subst, arith}
use Rattle.std.proofs.lemmas.List.{take_all}
use Rattle.group_history.specs.declared.mutations.MutationFields.{MutationFields as Mutation}
use Rattle.group_history.specs.Mutating.{after_mutate}
use Rattle.group_history.specs.Refs.{stamp_of}
use Rattle.group_history.specs.Spelling.{Version}
use Rattle.group_history.specs.State.{State}
use Rattle.group_history.proofs.Lists.{prefix_trans}
use Rattle.map_chunks.specs.Places.{with_nodes}
use Rattle.change_drafts.specs.Chaining.{HasTip}
use Rattle.change_drafts.specs.Pending.{with_more}
use Rattle.change_drafts.proofs.BelowLemmas.{tip-behind}
use Rattle.change_drafts.proofs.NeededLemmas.{needed_next}
use Rattle.change_drafts.proofs.StateLemmas.{with_next}
use Rattle.change_drafts.proofs.locals.add_unread.Goals as goal

pub add_over-requires : goal.add_over-requires
add_over-requires g c =
    let i = c.loop-mutation.invariant in let t = c.requires.tip in
    let now : Version = record {
      state = with_more t.0.state (take c.loop-mutation.mutation-index c.args.before.now);
      read = t.0.read;
    } in
    record {
      below = tip-behind g.K.NamesContents.known c.loop-mutation.draft c.loop-mutation.tip now
          (sym (i.0 ∙ c.requires.behind)) (i.2 t.0 t.1 t.2);
    }

pub loop-mutation-preserved : goal.loop-mutation-preserved
loop-mutation-preserved g c =
    let i = c.loop-mutation.invariant in let k = c.loop-mutation.mutation-index in let xs = c.args.before.now in
    let known = g.K.NamesContents.known in (
      c.in_ok-tip.ensures.first ∙ i.0,
      prefix_trans _ _ _ i.1 c.add_over.ensures.grown,
      λ v h is_open.
          let now : Version = record { state = with_more v.state (take k xs); read = v.read } in
          let at = i.2 v h is_open in
          let same : c.in_ok-mutation.mutation ≡ c.mutation-item.result = search rules in
          let next = ap (λ (x : Mutation). after_mutate (with_more v.state (take k xs)) x) same
          ∙ with_next v.state xs k c.mutation-item.result c.loop-mutation-test.true c.mutation-item.is in
          subst (λ (s : State). HasTip (with_nodes known c.add_over.new.draft.nodes) c.in_ok-tip.tip
          (record { state = s; read = v.read })) next
          (c.in_ok-tip.ensures.spelled known now v.read (sym (i.0 ∙ c.requires.behind)) at.0 at.2 is_open refl at.1),
      λ own. subst (λ n. n ≤ stamp_of c.in_ok-tip.tip.commit) i.0 c.in_ok-tip.ensures.new,
      needed_next c.args.basis.commit c.loop-mutation.tip.root c.loop-mutation.tip.commit c.loop-mutation.tip.snapshot
          c.in_ok-tip.tip.commit c.args.draft.now c.loop-mutation.draft c.add_over.new.draft i.4
          c.in_ok-tip.ensures.needed,
    )

pub returns-clause-tip : goal.returns-clause-tip
returns-clause-tip g c v h is_open =
    let k = c.loop-mutation.mutation-index in let xs = c.args.before.now in
    let over : length xs ≤ k = omega (arith, c.loop-mutation-test.false) in
    subst (λ (w : List Mutation). HasTip (with_nodes g.K.NamesContents.known c.loop-mutation.draft.nodes)
    c.loop-mutation.tip
    (record { state = with_more v.state w; read = v.read })) (take_all k xs over)
    (c.loop-mutation.invariant.2 v h is_open)
