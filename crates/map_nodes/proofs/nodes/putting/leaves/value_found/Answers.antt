use Rattle.std.proofs.Common.{IfErr, IfOk, subst, sym}
use Rattle.map_chunks.specs.Search.{IsAbsent, IsFound}
use Rattle.map_nodes.proofs.LeafRows.{value_absent, value_there}
use Rattle.map_nodes.proofs.nodes.putting.leaves.value_found.Goals as goal

pub returns-in-Ok : goal.returns-in-Ok
returns-in-Ok c key keys o l found absent =
    sym (value_there key keys c.args.values.now c.in-Ok.place c.index-values-place.result o.1 l
    (subst (λ w. IfOk w (IsFound key keys)) c.in-Ok.is found) c.index-values-place.is)

pub returns-in-Err : goal.returns-in-Err
returns-in-Err c key keys o l found absent =
    sym (value_absent key keys c.args.values.now c.in-Err.field-0 o.1 l
    (subst (λ w. IfErr w (IsAbsent key keys)) c.in-Err.is absent))
