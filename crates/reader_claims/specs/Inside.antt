-- Words that only clauses inside the crate use: none of them stands in the contract of a public call.
pub mod Known
pub mod Plays
pub mod Looked
pub mod Scans
