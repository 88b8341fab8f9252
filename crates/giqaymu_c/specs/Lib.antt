-- What C is told. Read Own (what a host's own mutators mean), Spots and Jobs (what is done to a place), Exports (what
-- the functions that C calls answer), and Owned (what memory a place has). The calls themselves are `host_places`.
pub mod Own
pub mod Spots
pub mod Jobs
pub mod Owned
pub mod Exports
-- Words that only private clauses of this crate use, and codes of ghost data.
pub mod Inside
pub mod Codes
