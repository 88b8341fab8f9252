use Rattle.std.proofs.Common.{◌≡◌, Some, ap, subst, sym}
use Rattle.group_history.specs.Refs.{stamp_of}
use Rattle.head_word.specs.Books.{drawn}
use Rattle.head_word.specs.Marks.{Known}
use Rattle.commit_graph.specs.LastIds.{last_at}
use Rattle.change_tries.specs.Places.{HeadPlace}
use Rattle.change_tries.proofs.Finding.{last_grown}
use Rattle.change_tries.proofs.steps.find_last.Goals as goal

pub last_known-sought-requires-clause-before : goal.last_known-sought-requires-clause-before
last_known-sought-requires-clause-before g c κs within found is =
    let old = c.args.seat.now.mark in let mid = c.pin_and_load.new.seat.mark in
    subst (λ (m : Known). last_at (drawn m.log) (stamp_of found.at) c.args.client.now ≡ Some found.id)
    (sym (ap (λ (p : HeadPlace). p.mark) c.new.ensures.place))
    (last_grown old.log mid.log (stamp_of found.at) c.args.client.now found.id
    c.pin_and_load.ensures.looked.seat.later.seen (c.requires.before found is))
