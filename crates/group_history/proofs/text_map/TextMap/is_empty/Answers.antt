use Rattle.std.proofs.Common.{◌∙◌, ap, sym, length, ◌==◌}
use Rattle.std.specs.FinMap as map
use Rattle.group_history.proofs.Places.{entries_made}
use Rattle.group_history.proofs.text_map.TextMap.is_empty.Goals as goal

pub returns : goal.returns
returns g c =
    let seen = sym (entries_made c.self.inside.rows.items c.self.invariant) ∙ ap map.entries c.self.view_is in
    c.is_empty.ensures ∙ ap (λ n. n == 0) (c.self.inside.rows.ok.0 ∙ ap length seen)
