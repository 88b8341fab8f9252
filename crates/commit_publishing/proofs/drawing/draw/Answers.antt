use Rattle.std.proofs.Common.{◌≤◌, ap, arith}
use Rattle.head_word.specs.Books.{next_stamp}
use Rattle.head_word.proofs.Books.{next_more}
use Rattle.commit_publishing.proofs.Numbers.{ordered_after}
use Rattle.commit_publishing.proofs.drawing.draw.Goals as goal

pub draft-requires-clause-children : goal.draft-requires-clause-children
draft-requires-clause-children g c =
    let old = c.args.mark.now.log in
    let now = c.loop-tried.mark.log in
    let seen = c.loop-tried.invariant.seen in
    let more = ap next_stamp seen.1 in
    let from = c.requires.from in
    let low : c.args.from ≤ next_stamp now = omega (arith, from, more, next_more old seen.0) in
    ordered_after (next_stamp now) c.args.from c.args.nodes.now low c.requires.order
