use Rattle.change_tries.proofs.requests.begin.Goals as goal

pub returns-in_ok-begin_other-in-Pulled-clause-step : goal.returns-in_ok-begin_other-in-Pulled-clause-step
returns-in_ok-begin_other-in-Pulled-clause-step g c = c.in_ok-begin_other-in-Pulled.ensures.step c.args.found.now.id
