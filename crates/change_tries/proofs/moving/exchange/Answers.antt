use Rattle.std.proofs.Common.{List, sym, subst}
use Rattle.std.specs.List.{All}
use Rattle.group_history.specs.declared.refs.Ref.{Ref}
use Rattle.group_history.specs.Refs.{stamp_of}
use Rattle.head_word.specs.Books.{drawn}
use Rattle.commit_graph.specs.Reach.{IsDropped}
use Rattle.change_tries.proofs.Giving.{are_dropped}
use Rattle.change_tries.proofs.moving.exchange.Goals as goal

pub publish_draft-requires-clause-left : goal.publish_draft-requires-clause-left
publish_draft-requires-clause-left g c κs within =
    let to = c.args.to.now in let cs = drawn c.args.seat.now.mark.log in
    subst (λ (left : List Ref). All (λ at. IsDropped cs (stamp_of to.base) (stamp_of to.new) (stamp_of at)) left)
    (sym c.deref.ensures.value)
    (are_dropped cs to.base to.new to.change.now c.in-Ok.left.items c.in-Ok.ensures.exact)
