-- Words that only private clauses of this crate use.
pub mod Keeping
pub mod Reading
pub mod Rows
pub mod Sitting
pub mod Drafting
