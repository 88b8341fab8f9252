use Rattle.std.proofs.Common.{ap, subst, ◌⊎◌}
use mathlib.Core.List.{IsPrefix}
use Rattle.commit_graph.proofs.Marked.{one_content}
use Rattle.commit_graph.proofs.stores.agrees.Goals as goal

pub returns : goal.returns
returns g c here =
    let mine = c.args.mark.now.log in
    let shown = c.args.shown.now in
    let one = subst (λ m. IsPrefix mine m ⊎ IsPrefix m mine)
    (ap (λ m. m.log) c.mark.ensures) c.one_record.ensures.books in
    one_content mine shown.mark.log shown.stamp shown.node one here c.value.ensures.drawn
