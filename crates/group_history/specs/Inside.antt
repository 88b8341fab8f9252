-- Words that only private clauses of this crate use.
pub mod Fronts
pub mod Newer
pub mod Plain
pub mod Texts
pub mod TextRows
