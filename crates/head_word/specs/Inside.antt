-- Words that only private clauses of this crate use: what a step on a word tells its seat, how a tally is parted
-- between the book and its seat, and what holds of a mark's seat.
pub mod Steps
pub mod Parts
pub mod Seats
