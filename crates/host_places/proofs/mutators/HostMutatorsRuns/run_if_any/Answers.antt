use Rattle.std.proofs.Common.{None, ap, subst}
use Rattle.rule_mutators.specs.Meaning.{RunsIfAny, steps_named}
use Rattle.rule_mutators.specs.Views.{rules_of}
use Rattle.host_places.specs.Mutators.{has_by}
use Rattle.host_places.proofs.Mutating.{had_none, had_rule, ran_rule, ran_script}
use Rattle.host_places.proofs.mutators.HostMutatorsRuns.run_if_any.Goals as goal

pub returns-in-Some-clause-had : goal.returns-in-Some-clause-had
returns-in-Some-clause-had g c =
    let held = c.args.self.now in
    had_rule (rules_of held.rules) held.asks g.B.NamesMutators.meant c.args.name.now c.args.args.now
    (g.V.WriteView.contents c.args.view.now) (g.V.WriteView.contents c.run_if_any.new.view) c.in-Some.ran held.named
    (subst (λ found. RunsIfAny (steps_named c.args.name.now (rules_of held.rules)) c.args.args.now
    (g.V.WriteView.contents c.args.view.now) found (g.V.WriteView.contents c.run_if_any.new.view)) c.in-Some.is
    c.in_ok-found.ensures.ran)

pub returns-in-Some-clause-ran : goal.returns-in-Some-clause-ran
returns-in-Some-clause-ran g c =
    let held = c.args.self.now in
    ran_rule (rules_of held.rules) held.asks g.B.NamesMutators.meant c.args.name.now c.args.args.now c.args.why
    (g.V.WriteView.contents c.args.view.now) (g.V.WriteView.contents c.run_if_any.new.view) c.in-Some.ran held.named
    (subst (λ found. RunsIfAny (steps_named c.args.name.now (rules_of held.rules)) c.args.args.now
    (g.V.WriteView.contents c.args.view.now) found (g.V.WriteView.contents c.run_if_any.new.view)) c.in-Some.is
    c.in_ok-found.ensures.ran)

pub returns-in-None-clause-had : goal.returns-in-None-clause-had
returns-in-None-clause-had g c =
    let held = c.args.self.now in
    had_none (rules_of held.rules) held.asks g.B.NamesMutators.meant c.args.name.now c.args.args.now
    (g.V.WriteView.contents c.args.view.now) (g.V.WriteView.contents c.run_if_any.new.view) _ held.named
    (subst (λ found. RunsIfAny (steps_named c.args.name.now (rules_of held.rules)) c.args.args.now
    (g.V.WriteView.contents c.args.view.now) found (g.V.WriteView.contents c.run_if_any.new.view)) c.in-None.is
    c.in_ok-found.ensures.ran) (ap (λ asks. has_by None asks) c.if-self.true)

pub returns-in_ok-ran-in-None-2-clause-had : goal.returns-in_ok-ran-in-None-2-clause-had
returns-in_ok-ran-in-None-2-clause-had g c =
    let held = c.args.self.now in
    had_none (rules_of held.rules) held.asks g.B.NamesMutators.meant c.args.name.now c.args.args.now
    (g.V.WriteView.contents c.args.view.now) (g.V.WriteView.contents c.run_if_any.new.view) _ held.named
    (subst (λ found. RunsIfAny (steps_named c.args.name.now (rules_of held.rules)) c.args.args.now
    (g.V.WriteView.contents c.args.view.now) found (g.V.WriteView.contents c.run_if_any.new.view)) c.in-None-2.is
    c.in_ok-found.ensures.ran) (ap (λ asks. has_by None asks) c.if-self.false)

pub returns-in_ok-ran-in-None-2-clause-ran : goal.returns-in_ok-ran-in-None-2-clause-ran
returns-in_ok-ran-in-None-2-clause-ran g c =
    let held = c.args.self.now in
    ran_script (rules_of held.rules) held.asks g.B.NamesMutators.meant c.args.name.now c.args.args.now c.args.why
    (g.V.WriteView.contents c.args.view.now) (g.V.WriteView.contents c.run_if_any.new.view)
    (g.V.WriteView.contents c.run.new.view) c.in_ok-ran-in-None-2.ran held.named c.if-self.false
    (subst (λ found. RunsIfAny (steps_named c.args.name.now (rules_of held.rules)) c.args.args.now
    (g.V.WriteView.contents c.args.view.now) found (g.V.WriteView.contents c.run_if_any.new.view)) c.in-None-2.is
    c.in_ok-found.ensures.ran)
    c.in_ok-ran-in-None-2.ensures.ran
