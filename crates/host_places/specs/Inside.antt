-- Words that only private clauses of this crate use.
pub mod Filling
