use Rattle.std.proofs.Common.{◌≤◌, List, take, length, Some, IsSome, refl, sym, ap, ◌∙◌, subst, arith}
use Rattle.std.proofs.lemmas.List.{take_all}
use Rattle.group_history.specs.declared.mutations.MutationFields.{MutationFields as Mutation}
use Rattle.group_history.specs.Map.{Entries}
use Rattle.group_history.specs.Meaning.{meaning_of}
use Rattle.group_history.specs.State.{replayed}
use Rattle.map_chunks.specs.Places.{with_nodes}
use Rattle.change_drafts.proofs.ReplayLemmas.{replayed_next}
use Rattle.change_drafts.proofs.RunLemmas.{left-done}
use Rattle.change_drafts.proofs.locals.run_all.Goals as goal

pub run_on-requires-clause-map : goal.run_on-requires-clause-map
run_on-requires-clause-map g c κs within =
    subst (λ o. IsSome o) (sym (c.loop-mutation.invariant c.requires.map.0 c.requires.map.1)) refl

pub loop-mutation-preserved : goal.loop-mutation-preserved
loop-mutation-preserved g c m h =
    let means = g.M.Means.means in let k = c.loop-mutation.mutation-index in let xs = c.args.pending.now in
    let x = c.mutation-item.result in let now = replayed means m (take k xs) in
    let meaning = meaning_of means x now in
    let run = c.in_ok-run.ensures.ran now (c.loop-mutation.invariant m h) in
    let left = c.in-Some.ensures (with_nodes g.K.NamesContents.known c.args.draft.now.nodes) _ meaning now run in
    left.1 ∙ ap (λ (r : Entries). Some r) (left-done meaning now left.0 left.2
    ∙ replayed_next means m xs k x c.loop-mutation-test.true c.mutation-item.is)

pub returns-clause-left : goal.returns-clause-left
returns-clause-left g c m h =
    let k = c.loop-mutation.mutation-index in let xs = c.args.pending.now in
    let over : length xs ≤ k = omega (arith, c.loop-mutation-test.false) in
    c.loop-mutation.invariant m h ∙ ap (λ (w : List Mutation). Some (replayed g.M.Means.means m w)) (take_all k xs over)
