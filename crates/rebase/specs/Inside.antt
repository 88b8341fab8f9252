-- Words that only private clauses of this crate use.
pub mod Keeping
pub mod Watching
pub mod Made
pub mod Shown
pub mod Reading
