use Rattle.std.proofs.Common.{subst}
use Rattle.std.proofs.lemmas.Result.{on_err_weaker, on_ok_weaker}
use Rattle.script_server.specs.Serving.{beginning}
use Rattle.script_server.specs.Inside.Stages.{AreHeads, heads_stand, served_at}
use Rattle.script_server.proofs.Opening.{all_served, end_on, some_served}
use Rattle.script_server.proofs.server.serve.Goals as goal

pub returns-in-Some-clause-served : goal.returns-in-Some-clause-served
returns-in-Some-clause-served g c =
    let old = g.I.Read.remaining c.args.input.now in let now = g.W.Write.contents c.args.out.now in
    let input = g.I.Read.remaining c.serve.new.input in let output = g.W.Write.contents c.serve.new.out in
    let s = heads_stand c.serve.new.self in let new = g.W.Write.contents c.serve_phases.new.out in
    let heads = subst (λ f. AreHeads f (beginning old now) s input output) c.in-Some.is
    (subst (λ t. AreHeads c.in_ok-serve.field-0 (served_at t 1 old now) s input output) c.new-heads.ensures
    c.in_ok-serve.ensures.heads) in
    on_ok_weaker c.serve_phases.result
    (λ rest. all_served old now new (end_on (beginning old now) heads.0 new heads.1 rest))
    (c.serve_phases.ensures.served heads.0 heads.2)

pub returns-in-Some-clause-ended : goal.returns-in-Some-clause-ended
returns-in-Some-clause-ended g c =
    let old = g.I.Read.remaining c.args.input.now in let now = g.W.Write.contents c.args.out.now in
    let input = g.I.Read.remaining c.serve.new.input in let output = g.W.Write.contents c.serve.new.out in
    let s = heads_stand c.serve.new.self in let new = g.W.Write.contents c.serve_phases.new.out in
    let heads = subst (λ f. AreHeads f (beginning old now) s input output) c.in-Some.is
    (subst (λ t. AreHeads c.in_ok-serve.field-0 (served_at t 1 old now) s input output) c.new-heads.ensures
    c.in_ok-serve.ensures.heads) in
    on_err_weaker c.serve_phases.result (some_served old now new heads.0 heads.1)
    (c.serve_phases.ensures.ended heads.0 heads.2)
