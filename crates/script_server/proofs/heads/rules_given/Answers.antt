use Rattle.std.proofs.Common.{ap, sym, ◌∙◌}
use Rattle.script_server.specs.Answers.{behind_rules}
use Rattle.script_server.proofs.Answering.{given-bytes, given-text}
use Rattle.script_server.proofs.heads.rules_given.Goals as goal

pub returns-in-Ok : goal.returns-in-Ok
returns-in-Ok c =
    let cases = c.in-Ok.ensures.cases in
    c.behind_rules.ensures ∙ ap behind_rules cases.0 ∙ sym (given-text c.args.line.now cases.1)

pub returns-in-Err : goal.returns-in-Err
returns-in-Err c = sym (given-bytes c.args.line.now c.in-Err.ensures.cases.0)
