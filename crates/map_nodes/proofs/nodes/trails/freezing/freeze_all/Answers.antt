use Rattle.std.proofs.Common.{refl, [], ◌∷◌, ◌++◌, ◌∙◌, ◌+◌, ap, sym, subst, arith, length, length-append, reverse}
use Rattle.std.specs.Vec.Iter.{into_iter_items}
use Rattle.map_chunks.specs.Drafts.{Drafted}
use Rattle.group_history.specs.declared.nodes.Chunk.TheVariants as chunked
use Rattle.group_history.specs.declared.nodes.Node.TheVariants as node
use Rattle.map_chunks.proofs.NeededLemmas.{adds_one}
use Rattle.map_nodes.proofs.FreezeLemmas.{err_so}
use Rattle.map_nodes.proofs.NeededLemmas.{needed_step}
use Rattle.map_nodes.proofs.StepLemmas.{below_up, next_up, step_children, written_leaf, written_step}
use Rattle.map_nodes.proofs.TrailLemmas.{steps_end, steps_fresh, topmost}
use Rattle.map_nodes.specs.Inside.Freezing.{IsWritten}
use Rattle.map_nodes.specs.Trails.{steps_seen, trail_seen}
use Rattle.map_nodes.proofs.nodes.trails.freezing.freeze_all.Goals as goal

pub loop-step-init : goal.loop-step-init
loop-step-init c =
    let o = c.in_ok-at.ensures.ok in
    let k = c.in_ok-at.ensures.stamp in
    record {
      can = tt;
      finite = tt;
      whole = sym c.into_iter-step-iterator.ensures.into_iter_gives.0;
      first = ap (λ d. d.first) o;
      written = written_leaf c.args.draft.now.first c.args.draft.now.nodes c.push.new.self.nodes c.args.end
          c.in_ok-at.at c.new-leaf.result (steps_end c.args.steps.items c.args.end c.requires.trail)
          c.new-leaf.ensures (ap (λ d. d.nodes) o) k.0 k.1;
      needed = adds_one c.args.draft.now c.push.new.self (node.Chunk (chunked.Leaf c.new-leaf.result)) c.in_ok-at.at
          k.0 o;
    }

pub freeze_step-requires-clause-keys : goal.freeze_step-requires-clause-keys
freeze_step-requires-clause-keys c =
    let i = c.loop-step.invariant in
    let done = c.loop-step.yielded in
    let h = next_up c.args.steps.items done _ _ c.in-Some.step c.args.end c.requires.trail i.whole
    c.in-Some.ensures.steps.0 in
    h.1.0.0

pub freeze_step-requires-clause-pairs : goal.freeze_step-requires-clause-pairs
freeze_step-requires-clause-pairs c =
    let i = c.loop-step.invariant in
    let done = c.loop-step.yielded in
    let h = next_up c.args.steps.items done _ _ c.in-Some.step c.args.end c.requires.trail i.whole
    c.in-Some.ensures.steps.0 in
    h.1.0.1

pub freeze_step-requires-clause-within : goal.freeze_step-requires-clause-within
freeze_step-requires-clause-within c =
    let i = c.loop-step.invariant in
    let done = c.loop-step.yielded in
    let h = next_up c.args.steps.items done _ _ c.in-Some.step c.args.end c.requires.trail i.whole
    c.in-Some.ensures.steps.0 in
    omega (arith, h.1.0.1, h.1.0.2)

pub freeze_step-requires-clause-children : goal.freeze_step-requires-clause-children
freeze_step-requires-clause-children c =
    let i = c.loop-step.invariant in
    let done = c.loop-step.yielded in
    let h = next_up c.args.steps.items done _ _ c.in-Some.step c.args.end c.requires.trail i.whole
    c.in-Some.ensures.steps.0 in
    let m = c.args.draft.now.first + length c.args.draft.now.nodes in
    step_children m (c.loop-step.draft.first + length c.loop-step.draft.nodes) c.in-Some.step
    (steps_seen done c.args.end) c.loop-step.at _ h.1.0 refl (omega (arith, i.first, i.written.count))
    (omega (arith, i.first, i.written.below))
    (below_up m c.args.steps.items done _ c.in-Some.step c.args.end c.requires.trail h.0 c.requires.below)

pub loop-step-preserved : goal.loop-step-preserved
loop-step-preserved c =
    let i = c.loop-step.invariant in
    let done = c.loop-step.yielded in
    let s = c.in-Some.step in
    let h = next_up c.args.steps.items done _ _ s c.args.end c.requires.trail i.whole
    c.in-Some.ensures.steps.0 in
    let o = c.in_ok-at-2.ensures.ok in
    let k = c.in_ok-at-2.ensures.stamp in
    let first = c.args.draft.now.first in
    let old = c.args.draft.now.nodes in
    let new = c.freeze_step.new.draft.nodes in
    record {
      can = tt;
      finite = tt;
      whole = h.0;
      first = ap (λ d. d.first) o ∙ i.first;
      written = subst (λ z. IsWritten first old new (trail_seen z c.args.end) c.in_ok-at-2.at)
          (sym (topmost (done ++ s ∷ []) done s refl))
          (written_step first old c.loop-step.draft.nodes new s (reverse done) c.args.end c.loop-step.at
          c.in_ok-at-2.at h.1 i.written (ap (λ d. d.nodes) o)
          (k.0 ∙ ap (λ n. n + length c.loop-step.draft.nodes) i.first) k.1);
      needed = needed_step c.args.draft.now c.loop-step.draft c.freeze_step.new.draft s (steps_seen done c.args.end)
          c.loop-step.at c.in_ok-at-2.at h.1.0 i.needed k.0 o;
    }

pub new-leaf-requires-clause-keys : goal.new-leaf-requires-clause-keys
new-leaf-requires-clause-keys c = (steps_end c.args.steps.items c.args.end c.requires.trail).0

pub new-leaf-requires-clause-values : goal.new-leaf-requires-clause-values
new-leaf-requires-clause-values c = (steps_end c.args.steps.items c.args.end c.requires.trail).1

pub returns-in_err-at-clause-bound : goal.returns-in_err-at-clause-bound
returns-in_err-at-clause-bound c = err_so c.from_residual.result (omega (
  arith,
  ap (λ (d : Drafted). length d.nodes) c.in_err-at.ensures.err,
  steps_fresh c.args.steps.items c.args.end c.requires.trail,
))

pub returns-in_err-at-2-clause-bound : goal.returns-in_err-at-2-clause-bound
returns-in_err-at-2-clause-bound c =
    let i = c.loop-step.invariant in
    let done = c.loop-step.yielded in
    let s = c.in-Some.step in
    let h = next_up c.args.steps.items done _ _ s c.args.end c.requires.trail i.whole
    c.in-Some.ensures.steps.0 in
    err_so c.from_residual-in_err-at-2.result (omega (
      arith,
      ap (λ (d : Drafted). length d.nodes) c.in_err-at-2.ensures.err,
      i.written.count,
      steps_fresh done c.args.end h.1.1,
      steps_fresh c.args.steps.items c.args.end c.requires.trail,
      ap length h.0,
      length-append (done ++ s ∷ []) (into_iter_items c.next.new.self),
      length-append done (s ∷ []),
    ))
