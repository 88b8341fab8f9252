use Rattle.std.proofs.Common.{rules, List, ℕ}
use Rattle.std.proofs.lemmas.Fn.{always_returns_same}
use Rattle.std.specs.Cmp.Lexicographic.{slice_cmp}
use Rattle.std.specs.Ordering.{nat_cmp}
use Rattle.group_history.proofs.Places.{placed}
use Rattle.group_history.proofs.text_map.place_of.Goals as goal

pub returns : goal.returns
returns g c =
    let search_ends = c.binary_search_by.ensures in
    let order = λ (row : List ℕ × g.row.V.Denot). slice_cmp nat_cmp row.0 c.args.key.now in
    placed c.args.rows.now c.args.key.now c.binary_search_by.result c.requires search_ends.bound
    (search_ends.position order (search (rules, always_returns_same)))
