use Rattle.std.proofs.Common.{Ok, sym, ap, ◌∙◌}
use Rattle.host_places.proofs.Said.{text_other, text_utf8}
use Rattle.host_places.proofs.texts.str_of.Goals as goal

pub returns-in-Ok : goal.returns-in-Ok
returns-in-Ok c =
    ap Ok c.in-Ok.ensures.cases.0 ∙ sym (text_utf8 c.args.bytes.now c.in-Ok.ensures.cases.1)

pub returns-in-Err : goal.returns-in-Err
returns-in-Err c = sym (text_other c.args.bytes.now c.in-Err.ensures.cases.0)
