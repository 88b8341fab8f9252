use Rattle.std.proofs.Common.{◌≡◌, ◌<◌, ◌≤◌, [], ◌∷◌, ◌++◌, List, map, take, refl, ap, sym, subst}
use Rattle.group_history.specs.Refs.{slot_of}
use Rattle.std.proofs.lemmas.List.{take_more}
use Rattle.std.specs.Prelude.{slice_index_or}
use Rattle.group_history.specs.declared.refs.Ref.{Ref}
use Rattle.reader_claims.specs.declared.view.View.{View}
use Rattle.reader_claims.specs.Passes.{IsRetired}
use Rattle.chunk_slots.specs.Seats.{MayRetire}
use Rattle.commit_publishing.specs.Retiring.{AreLetGo}
use Rattle.commit_publishing.proofs.Leaving.{let_go_more, let_go_one}
use Rattle.commit_publishing.proofs.Using.{slots_more}
use Rattle.commit_publishing.proofs.Stepping.{no_step, steps_beside, steps_steps}
use Rattle.commit_publishing.proofs.retiring.retire_at.Goals as goal

pub loop-at-init : goal.loop-at-init
loop-at-init g c = record {
  home = c.requires.home;
  raised = c.requires.raised;
  none = c.requires.none;
  steps = λ r. no_step (g.S.Slots.view c.args.seat.now);
  retired = λ r. refl;
}

pub loop-at-preserved : goal.loop-at-preserved
loop-at-preserved g c =
    let S = g.S.Slots in
    let is = c.loop-at.invariant in
    let done = c.retire.ensures in
    let first = S.view c.args.seat.now in
    let v = S.view c.loop-at.seat in
    let u = S.view c.retire.new.seat in
    let slots = (S.serves c.args.store.now).sizes.slots in
    let ats = c.args.refs.now in
    let i = c.loop-at.at-index in
    let at = slice_index_or ats i (record { bits = 0 }) in
    let before = take i ats in
    let go : S.reused → AreLetGo slots c.args.r (map slot_of (before ++ at ∷ [])) first.deeds u.deeds = λ r.
    let one = subst (λ k. (k < slots → IsRetired v u k c.args.r) × (slots ≤ k → u ≡ v)) c.slot.ensures.slot
    (done.retired r, done.outside r) in
    subst (λ is. AreLetGo slots c.args.r is first.deeds u.deeds) (sym (slots_more before at))
    (let_go_more slots c.args.r (map slot_of before) (slot_of at ∷ []) first.deeds v.deeds u.deeds (is.retired r)
    (let_go_one slots c.args.r (slot_of at) v u one.0 one.1)) in
    record {
      home = done.seat;
      raised = λ r. subst (λ (w : View). MayRetire w c.args.r) (sym (done.kept r)) (is.raised r);
      none = λ r. subst (λ (w : View). w.taken ≡ []) (sym (done.kept r)) (is.none r);
      steps = λ r. steps_steps first v u (is.steps r)
          (steps_beside v u (ap (λ (w : View). w.epoch_loads) (done.kept r))
          (ap (λ (w : View). w.reached) (done.kept r)) (ap (λ (w : View). w.pin) (done.kept r)));
      retired = λ r. subst (λ (w : List Ref). AreLetGo slots c.args.r (map slot_of w) first.deeds u.deeds)
          (sym (take_more ats i (record { bits = 0 }) c.loop-at-test.true)) (go r);
    }
