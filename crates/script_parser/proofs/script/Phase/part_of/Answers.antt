use Rattle.std.proofs.Common.{◌==◌, rules, tests}
use Rattle.std.proofs.lemmas.Iterator.{YieldsList-from_slice}
use Rattle.std.proofs.lemmas.Iterator.Search.{position_from_yields_List}
use Rattle.script_parser.proofs.script.Phase.part_of.Goals as goal

pub returns : goal.returns
returns c =
    position_from_yields_List (λ part. part.client == c.args.client) _ _ c.position.result c.position.ensures.ran
    (YieldsList-from_slice c.args.self.now.parts.items cc) (λ x b q k. search (rules, tests))
