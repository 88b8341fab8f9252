use Rattle.std.proofs.Common.{rules, tests, arith}
use Rattle.std.specs.Char.{is_ascii_alphanumeric}
use Rattle.std.proofs.lemmas.Iterator.{YieldsList-from_slice}
use Rattle.std.proofs.lemmas.Iterator.Search.{all_from_yields_List}
use Rattle.std.proofs.lemmas.Bool.Decides.{nat_tests}
use Rattle.script_parser.specs.Words.{is_ticket_name}
use Rattle.script_parser.proofs.lines.is_ticket_name.Goals as goal

pub returns-then-bytes-le-LONGEST_NAME : goal.returns-then-bytes-le-LONGEST_NAME
unfolding is_ticket_name
returns-then-bytes-le-LONGEST_NAME c =
    let all = all_from_yields_List is_ascii_alphanumeric _ _ c.all.result c.all.ensures.ran
    (YieldsList-from_slice c.args.text.now cc) (λ x b q k. search (rules, tests)) in
    grind (arith, nat_tests)
