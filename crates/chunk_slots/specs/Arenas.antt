-- What clauses see of an arena.
use Rattle.logbook.specs.Pages.{Book}
use Rattle.reader_claims.specs.Seats.{ClaimsId}

-- which claims table it has, and which book
pub record ArenaId : Type 0 where
  pub claims : ClaimsId
  pub book : Book
