use Rattle.std.proofs.Common.{◌≡◌, ◌<◌, ◌∙◌, Some, is_some, length, map, refl, rules, sym, ap, subst, unwrap_or}
use Rattle.script_parser.specs.Context.{place_of}
use Rattle.script_parser.specs.Commands.{command_at, command_line}
use Rattle.script_parser.specs.Scripts.{client_said}
use Rattle.script_parser.proofs.CheckedLemmas.{place_of-within}
use Rattle.script_parser.proofs.parser.Parser.command_line.Goals as goal

pub returns : goal.returns
unfolding command_line command_at
returns c =
    let told = c.in_ok-command.ensures in
    let clients = map client_said c.args.self.now.header.clients.items in
    let at : place_of c.args.word.now clients ≡ Some c.in-Some.client = sym c.place_of.ensures ∙ c.in-Some.is in (
      search rules,
      (
        told.2,
        told.1,
        c.requires,
        subst (λ o. unwrap_or o 0 < length clients) at (place_of-within c.args.word.now clients (ap is_some at)),
        refl,
      ),
    )
