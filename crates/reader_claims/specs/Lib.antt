-- The claims table. Read Words and Lists, Notes, Deeds and Views (what a seat knows and how each step changes it), then
-- Machine: `Move` is each kind of step, `Reached` the tables that steps lead to. Seats and Passes say what calls tell,
-- Counts what a count is. Laws is what holds of every such table: `HoldLaw` is the promise.
pub mod Words
pub mod Lists
pub mod Notes
pub mod Deeds
pub mod Views
pub mod Machine
pub mod Seats
pub mod Passes
pub mod Counts
pub mod Laws
-- Words that only private clauses of this crate use.
pub mod Inside
