-- How a draft becomes part of a group. Read Stamped (what becomes of its numbers), Retiring (what it does to slots, and
-- how it is given up), Placed (when it is placed, and when there was no slot). Laws are proved of these.
pub mod Stamped
pub mod Placed
pub mod Retiring
pub mod Laws
-- Words that only private clauses of this crate use.
pub mod Inside
