use Rattle.std.proofs.Common.{sym, ◌∙◌, ap}
use Rattle.head_word.proofs.Stepping.{opens_moves}
use Rattle.head_word.proofs.head.Head.add_opening.Goals as goal

pub compare_exchange-requires : goal.compare_exchange-requires
compare_exchange-requires g c =
    let words = c.self.invariant.0 in
    let offer = c.offered-offer.ensures in
    let pen = c.no_pen-pen.ensures in
    let book = c.requires.book ∙ sym c.self.view_is in (
      ap (λ w. w.tracked) words,
      book,
      pen.0 ∙ book,
      offer.0 ∙ c.requires.tally.0,
      rw (ap (λ w. w.key) words, pen.1, offer.1, offer.3, c.bits-bits.ensures)
          (opens_moves g.M.Means.means c.args.seen.now.log c.args.seats c.args.to c.requires.stamp),
    )
