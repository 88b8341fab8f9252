use Rattle.std.proofs.Common.{rules, refl, inr}
use Rattle.head_word.proofs.Stepping.{opening_book}
use Rattle.head_word.proofs.Trading.{calm}
use Rattle.head_word.proofs.head.Head.open.Goals as goal

pub open-seen-requires : goal.open-seen-requires
open-seen-requires g c = (
  record {
    head = 0;
    drafts = 2;
    words = refl;
    fits = inr (record { empty = refl; head_is = refl; drafts_are = refl });
  },
  calm c.open-start.result.0.names,
  c.open-start.ensures.0,
)

pub seat_all-requires-clause-opened : goal.seat_all-requires-clause-opened
seat_all-requires-clause-opened g c = (
  c.new.result,
  c.add_opening.ensures.opened,
  opening_book g.M.Means.means c.args.seats c.new.result c.new.ensures.stamp,
)

pub returns : goal.returns
returns g c = search rules
