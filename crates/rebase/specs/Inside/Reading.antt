-- What a reader that is kept has beside its client.
use Rattle.std.specs.Prelude.{◌≡◌, true, None}
use Rattle.head_word.specs.Marks.{Known, known}
use Rattle.commit_graph.specs.Seats.{SeatState, is_held}

-- What had been seen at its point is what the seat has seen; and where slots are used again the seat's pin is held.
pub record IsReadingKept (reused : Type 0) (seat : SeatState) (at : Known) : Type 0 where
  pub seen : at ≡ known seat.mark.book seat.mark.log None
  pub held : reused → is_held seat.view.pin ≡ true
