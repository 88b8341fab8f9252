use Rattle.std.proofs.Common.{IfOk, inr, rules, subst, sym}
use Rattle.script_runner.specs.Runs.{HasStopped}
use Rattle.script_runner.proofs.runner.run_owned.Goals as goal

pub returns-in_err-checked-clause-nothing_written : goal.returns-in_err-checked-clause-nothing_written
returns-in_err-checked-clause-nothing_written g c = search rules

pub returns-clause-want : goal.returns-clause-want
returns-clause-want g c want =
    let s = c.in_ok-checked.ensures.said in
    inr (subst (λ r. IfOk r (λ said. HasStopped said (g.W.Write.contents c.args.out.now)
    (g.W.Write.contents c.run_shared.new.out))) (sym s.1) (c.run_shared.ensures.want s.0 s.2 want))
