-- A seat that stays the same over several steps.
use Rattle.std.proofs.Common.{refl, ◌∙◌}
use Rattle.group_history.proofs.Lists.{prefix_self, prefix_trans}
use Rattle.head_word.specs.Marks.{Known}
use Rattle.commit_graph.specs.Seats.{IsLater, IsSameSeat, SeatState}

pub later-self : (m : Known) → IsLater m m
later-self m = record { book = refl; seat = refl; seen = prefix_self m.log }

pub later-trans : (a b c : Known) → IsLater a b → IsLater b c → IsLater a c
later-trans a b c x y = record {
  book = y.book ∙ x.book;
  seat = y.seat ∙ x.seat;
  seen = prefix_trans a.log b.log c.log x.seen y.seen;
}

pub seat-self : (s : SeatState) → IsSameSeat s s
seat-self s = record { table = refl; later = later-self s.mark }

pub seat-trans : (a b c : SeatState) → IsSameSeat a b → IsSameSeat b c → IsSameSeat a c
seat-trans a b c x y = record {
  table = y.table ∙ x.table;
  later = later-trans a.mark b.mark c.mark x.later y.later;
}
