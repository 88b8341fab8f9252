use Rattle.std.proofs.Common.{◌∙◌, ap}
use Rattle.std.specs.FinMap as map
use Rattle.group_history.proofs.Places.{no_rows}
use Rattle.group_history.proofs.text_map.TextMap.clear.Goals as goal

pub returns : goal.returns
returns g c = ap map.from_sorted c.clear.ensures.items ∙ no_rows
