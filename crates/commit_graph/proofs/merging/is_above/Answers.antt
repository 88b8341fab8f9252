use Rattle.std.proofs.Common.{◌<◌, ◌-◌, length, get_or, arith, rules}
use Rattle.group_history.specs.declared.refs.Ref.{Ref}
use Rattle.group_history.specs.Refs.{stamp_of}
use Rattle.commit_graph.proofs.Leaving.{apart}
use Rattle.commit_graph.proofs.merging.is_above.Goals as goal

pub returns : goal.returns
returns c is =
    let bs = c.args.before.now in let ks = c.args.kept.now in let d : Ref = record { bits = 0 } in
    let some : 0 < length ks = search rules in
    let more : 0 < length bs = search rules in
    let below : c.stamp-2.result < c.stamp.result = search rules in
    let less : stamp_of (get_or bs 0 d) < stamp_of (get_or ks (length ks - 1) d) =
    omega (arith, below, c.stamp.ensures.stamp, c.stamp-2.ensures.stamp) in
    apart bs ks d d c.requires.kept c.requires.before some more less
