use Rattle.std.proofs.Common.{◌≡◌, ◌∙◌, sym, subst, refl, Ok, Err}
use Rattle.std.specs.Result.{result_err}
use Rattle.script_parser.specs.declared.script.Script.{Script}
use Rattle.script_parser.specs.declared.parser.Parser.{Parser}
use Rattle.script_parser.specs.Faults.{Checks, first_fault, said_in, lines_of}
use Rattle.script_parser.specs.Context.{nothing_said}
use Rattle.script_parser.specs.Inside.Parsing.{context_of}
use Rattle.script_parser.proofs.Scripts.{script_said-text, script_said-bytes, first_fault-said, Checks-passed}
use Rattle.script_parser.proofs.CheckedLemmas.{script_said-sound}
use Rattle.script_parser.proofs.CheckedScripts.{IsChecked-from}
use Rattle.script_parser.proofs.parser.read_script.Goals as goal

pub returns-in-Err-clause-first : goal.returns-in-Err-clause-first
returns-in-Err-clause-first c =
    let bytes = c.args.bytes.now in
    subst (λ e. Checks {X = Script} (first_fault bytes) (Err e)) (sym c.not_utf8.ensures)
    (first_fault-said bytes _ (script_said-bytes bytes c.in-Err.ensures.cases.0))

pub returns-in_err-parser-clause-first : goal.returns-in_err-parser-clause-first
returns-in_err-parser-clause-first c =
    let bytes = c.args.bytes.now in
    let text : c.in-Ok.text.now ≡ bytes = c.in-Ok.ensures.cases.0 in
    let read = rw c.in_err-parser.was at c.read_lines.ensures.first in
    let first = first_fault-said bytes _ (script_said-text bytes c.in-Ok.ensures.cases.1) in
    let told = subst (λ bytes. Checks {X = Parser} (result_err (said_in 1 nothing_said (lines_of bytes)))
    (Err c.in_err-parser.field-0.0)) text read in
    Checks-passed Parser Script (first_fault bytes) c.from_residual.result c.in_err-parser.field-0.0
    c.from_residual.ensures.1
    (subst (λ f. Checks {X = Parser} f (Err c.in_err-parser.field-0.0)) (sym first) told)

pub returns : goal.returns
returns c =
    let bytes = c.args.bytes.now in
    let text : c.in-Ok.text.now ≡ bytes = c.in-Ok.ensures.cases.0 in
    let parser = c.in_ok-parser.parser in
    let read : said_in 1 nothing_said (lines_of c.in-Ok.text.now)
    ≡ Ok (context_of parser) = rw c.in_ok-parser.was at c.read_lines.ensures.said in
    let said = script_said-text bytes c.in-Ok.ensures.cases.1 ∙ rw (← text) read in
    record {
      first = first_fault-said bytes _ said;
      said = (
        context_of parser,
        said,
        record {
          group = refl;
          profile = refl;
          schema = refl;
          slots = refl;
          clients = refl;
          phases = refl;
        },
      );
      checked = IsChecked-from parser (script_said-sound bytes (context_of parser) said);
    }
