-- Words that only private clauses of this crate use.
pub mod Parts
pub mod Copies
pub mod Plain
