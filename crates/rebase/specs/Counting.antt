-- What `Client::slots` tells, in the words of the table of slots: how many were found in each state.
pub use Rattle.reader_claims.specs.Counts.{Counts, Found}
pub use Rattle.reader_claims.specs.declared.counts.SlotCounts.{SlotCounts}
