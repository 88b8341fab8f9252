use Rattle.std.proofs.Common.{◌≡◌, ◌≤◌, List, take, length, Some, IsSome, refl, sym, ap, ◌∙◌, subst, arith}
use Rattle.std.proofs.lemmas.List.{take_all}
use Rattle.group_history.specs.declared.mutations.MutationFields.{MutationFields as Mutation}
use Rattle.group_history.specs.Map.{Entries}
use Rattle.group_history.specs.State.{replayed}
use Rattle.map_chunks.specs.Places.{with_nodes}
use Rattle.change_drafts.specs.Running.{MayReplay}
use Rattle.change_drafts.specs.declared.runs.Replayed.{Replayed}
use Rattle.change_drafts.specs.declared.runs.Replayed.TheVariants as replay
use Rattle.group_history.specs.Refs.{stamp_of}
use Rattle.group_history.specs.Spelling.{map_at}
use Rattle.change_drafts.proofs.ReplayLemmas.{replayed_done, replayed_next}
use Rattle.change_drafts.proofs.locals.run_undoing.Goals as goal

pub replay_on-requires-clause-map : goal.replay_on-requires-clause-map
replay_on-requires-clause-map g c κs within =
    subst (λ o. IsSome o) (sym (c.loop-mutation.invariant.tree c.requires.map.0 c.requires.map.1)) refl

pub returns-clause-left : goal.returns-clause-left
returns-clause-left g c m h =
    let k = c.loop-mutation.mutation-index in let xs = c.args.pending.now in
    let over : length xs ≤ k = omega (arith, c.loop-mutation-test.false) in
    c.loop-mutation.invariant.tree m h
    ∙ ap (λ (w : List Mutation). Some (replayed g.M.Means.means m w)) (take_all k xs over)

pub returns-clause-done : goal.returns-clause-done
returns-clause-done g c m h =
    let k = c.loop-mutation.mutation-index in let xs = c.args.pending.now in
    let over : length xs ≤ k = omega (arith, c.loop-mutation-test.false) in
    c.loop-mutation.invariant.done m h ∙ ap (replayed g.M.Means.means m) (take_all k xs over)

pub loop-mutation-preserved : goal.loop-mutation-preserved
loop-mutation-preserved g c =
    let means = g.M.Means.means in let k = c.loop-mutation.mutation-index in let xs = c.args.pending.now in
    let x = c.mutation-item.result in let v = c.loop-mutation.invariant in
    let contents = with_nodes g.K.NamesContents.known c.args.draft.now.nodes in
    let now : Entries → Entries = λ m. replayed means m (take k xs) in
    let may : (m : Entries) → map_at contents (stamp_of c.args.root) ≡ Some m
    → MayReplay contents (g.M.Has.has x.name) means (now m) x (replay.Ran c.in-Ran.left) = λ m h. subst
    (λ (w : Replayed). MayReplay contents (g.M.Has.has x.name) means (now m) x w) c.in-Ran.is
    (c.in_ok-left.ensures.left (now m) (v.tree m h)) in
    record {
      tree = λ m h. (may m h).1 ∙ ap (λ (r : Entries). Some r)
          (replayed_next means m xs k x c.loop-mutation-test.true c.mutation-item.is);
      done = λ m h. ap (replayed means m) c.in_ok-add_if.ensures
          ∙ replayed_done means m (now m) c.loop-mutation.done.items c.in-Ran.left.done x (v.done m h) (may m h).2
          ∙ replayed_next means m xs k x c.loop-mutation-test.true c.mutation-item.is;
    }

pub returns-in_default-clause-lacks : goal.returns-in_default-clause-lacks
returns-in_default-clause-lacks g c =
    let means = g.M.Means.means in let k = c.loop-mutation.mutation-index in let xs = c.args.pending.now in
    let x = c.mutation-item.result in let m = c.requires.map.0 in
    let contents = with_nodes g.K.NamesContents.known c.args.draft.now.nodes in
    let lacks = subst
    (λ (w : Replayed). MayReplay contents (g.M.Has.has x.name) means (replayed means m (take k xs)) x w)
    c.in_default.is (c.in_ok-left.ensures.left (replayed means m (take k xs))
    (c.loop-mutation.invariant.tree m c.requires.map.1)) in
    (x, (k, c.loop-mutation-test.true, sym c.mutation-item.is), lacks.0)
