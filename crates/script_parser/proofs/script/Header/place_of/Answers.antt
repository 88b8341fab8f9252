use Rattle.std.proofs.Common.{rules, tests, sym, ◌∙◌}
use Rattle.std.proofs.lemmas.Iterator.{YieldsList-from_slice}
use Rattle.std.proofs.lemmas.Iterator.Search.{position_from_yields_List}
use Rattle.group_history.specs.Map.{same_text}
use Rattle.script_parser.specs.Context.{place_of}
use Rattle.script_parser.specs.Scripts.{client_said}
use Rattle.script_parser.proofs.Lists.{position-map}
use Rattle.script_parser.proofs.script.Header.place_of.Goals as goal

pub returns : goal.returns
unfolding place_of
returns c =
    let found = position_from_yields_List (λ client. same_text client.name c.args.name.now) _ _ c.position.result
    c.position.ensures.ran
    (YieldsList-from_slice c.args.self.now.clients.items cc) (λ x b q k. search (rules, tests)) in
    found ∙ sym (position-map (λ said. same_text said.0 c.args.name.now) client_said c.args.self.now.clients.items)
