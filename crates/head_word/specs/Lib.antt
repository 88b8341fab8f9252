-- The book. Read Books (`IsBook`: what is true of every book), Tallies and Marks (who added what, and what a caller
-- knows), Laws (stamps and records last), and Rules (what the two shared words say of the book).
pub mod Books
pub mod Tallies
pub mod Marks
pub mod Laws
pub mod Rules
-- Words that only private clauses of this crate use.
pub mod Inside
