-- Stores. Read Contents (what lies in a slot), Seats (what a seat knows, and what the calls tell: `IsPinned`,
-- `MayRetire`), Arenas, and Missing (why nothing is shown).
pub mod Contents
pub mod Seats
pub mod Arenas
pub mod Missing
-- Words that only private clauses of this crate use.
pub mod Inside
