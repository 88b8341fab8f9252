-- What the single steps say of the words and of a reader.
use Rattle.reader_claims.specs.declared.steps.Words.{Words}
use Rattle.reader_claims.specs.declared.steps.TableSeat.{TableSeat}
use Rattle.reader_claims.specs.declared.view.View.{View}
use Rattle.reader_claims.specs.Seats.{ClaimsId}

abbrev pub words_id : Words → ClaimsId
words_id c = record { table = c.table.shared.table_id; sizes = c.sizes }

abbrev pub reader_id : TableSeat → ClaimsId
reader_id s = record { table = s.seat.table_id; sizes = s.seat.me.0.sizes }

abbrev pub view : TableSeat → View
view s = s.seat.me.0
