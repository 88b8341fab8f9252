use Rattle.std.proofs.Common.{◌∙◌, refl, sym, ap, subst}
use Rattle.script_parser.specs.Faults.{said_with}
use Rattle.script_parser.specs.Reading.{TakesAs, kept_by}
use Rattle.script_parser.proofs.Kept.{bytes_said-bytes, bytes_said-text}
use Rattle.script_parser.proofs.reader.LineReader.take.Goals as goal

pub returns-in-Ok-clause-taken : goal.returns-in-Ok-clause-taken
returns-in-Ok-clause-taken c =
    let old = kept_by c.args.self.now in let n = c.args.number in let cases = c.in-Ok.ensures.cases in
    let same = bytes_said-text old n c.args.line.now cases.1 in
    subst (λ r. TakesAs r n old c.take_text.result (kept_by c.take_text.new.self))
    (ap (said_with old n) cases.0 ∙ sym same) c.take_text.ensures.taken

pub returns-in-Err-clause-taken : goal.returns-in-Err-clause-taken
returns-in-Err-clause-taken c =
    (bytes_said-bytes (kept_by c.args.self.now) c.args.number c.args.line.now c.in-Err.ensures.cases.0, refl)
