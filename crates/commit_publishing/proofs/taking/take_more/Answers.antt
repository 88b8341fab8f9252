use Rattle.std.proofs.Common.{◌≡◌, ℕ, ◌≤◌, List, length, ◌∷◌, ◌++◌, [], refl, arith, rules}
use Rattle.std.specs.Prelude.{IfErr}
use Rattle.group_history.specs.declared.refusals.Refusal.TheVariants as refusal
use Rattle.reader_claims.specs.declared.view.View.{View}
use Rattle.reader_claims.specs.Passes.{FindsNone, OnlyTakes}
use Rattle.commit_publishing.specs.Inside.Stacks.{AreLower, Uses}
use Rattle.reader_claims.specs.Seats.{kind_end}
use Rattle.reader_claims.proofs.Scans.{only_takes}
use Rattle.commit_publishing.proofs.Passing.{passed_over}
use Rattle.commit_publishing.proofs.Results.{if_err_then}
use Rattle.commit_publishing.proofs.Stepping.{no_step, steps_steps}
use Rattle.commit_publishing.proofs.taking.take_more.Goals as goal

pub loop-held-init : goal.loop-held-init
loop-held-init g c = record {
  home = c.requires.home;
  taken = c.requires.taken;
  within = λ r all. all;
  more = omega arith;
  took = λ r. ([], (refl, refl));
  steps = λ r. no_step (g.S.Slots.view c.args.seat.now);
}

pub loop-held-preserved : goal.loop-held-preserved
loop-held-preserved g c =
    let is = c.loop-held.invariant in
    let done = c.take_next.ensures in
    let first = g.S.Slots.view c.args.seat.now in
    let v = g.S.Slots.view c.loop-held.seat in
    let u = g.S.Slots.view c.take_next.new.seat in
    record {
      home = done.home;
      taken = done.taken;
      within = λ r all. done.within r (is.within r all);
      more = omega (arith, is.more, c.in_ok-take_next.ensures.more);
      took = λ r. let had = is.took r in let one = c.in_ok-take_next.ensures.took r in
          (one.0 ∷ had.0, only_takes first v u had.0 (one.0 ∷ []) had.1 one.1);
      steps = λ r. steps_steps first v u (is.steps r) (done.steps r);
    }

pub returns-in_err-take_next-clause-steps : goal.returns-in_err-take_next-clause-steps
returns-in_err-take_next-clause-steps g c =
    let view = g.S.Slots.view in λ r. steps_steps (view c.args.seat.now) (view c.loop-held.seat)
    (view c.take_next.new.seat) (c.loop-held.invariant.steps r) (c.take_next.ensures.steps r)

pub returns-in_err-take_next-clause-full : goal.returns-in_err-take_next-clause-full
returns-in_err-take_next-clause-full g c = λ r.
    let v = g.S.Slots.view c.loop-held.seat in
    let u = g.S.Slots.view c.take_next.new.seat in
    let end = kind_end (g.S.Slots.serves c.args.store.now).sizes c.args.kind in
    let here : IfErr c.from_residual.result (λ e. e ≡ refusal.Full → FindsNone v u end) = search rules in
    if_err_then c.from_residual.result here (λ e found is. passed_over (g.S.Slots.view c.args.seat.now) v u end
    (c.loop-held.invariant.steps r).loads (found is))

pub returns-in_err-take_next-clause-used : goal.returns-in_err-take_next-clause-used
returns-in_err-take_next-clause-used g c = λ r.
    let first = g.S.Slots.view c.args.seat.now in
    let v = g.S.Slots.view c.loop-held.seat in
    let u = g.S.Slots.view c.take_next.new.seat in
    let had = c.loop-held.invariant.took r in
    let one = c.in_err-take_next.ensures.used r in
    let end = kind_end (g.S.Slots.serves c.args.store.now).sizes c.args.kind in
    let here : (w : View) × (taken back : List ℕ) × (length back ≤ 1) × AreLower end back × OnlyTakes first w taken
    × Uses w [] back u = (
      one.0,
      one.1 ++ had.0,
      one.1,
      one.2,
      one.3,
      only_takes first v one.0 had.0 one.1 had.1 one.4,
      one.5,
    ) in
    search rules

pub returns-in_err-take_next-clause-none : goal.returns-in_err-take_next-clause-none
returns-in_err-take_next-clause-none g c = λ r.
    let first = g.S.Slots.view c.args.seat.now in
    let v = g.S.Slots.view c.loop-held.seat in
    let u = g.S.Slots.view c.take_next.new.seat in
    let had = c.loop-held.invariant.took r in
    let here : IfErr c.from_residual.result (λ e. e ≡ refusal.Full → OnlyTakes v u []) = search rules in
    if_err_then c.from_residual.result here (λ e none is. (had.0, only_takes first v u had.0 [] had.1 (none is)))
