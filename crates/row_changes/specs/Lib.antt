-- What changed between two lists of rows. Read Changes: which changes there are. Laws holds it against what one
-- expects. Texts: how they are printed.
pub mod Changes
pub mod Laws
pub mod Texts
-- Words that only private clauses of this crate use.
pub mod Inside
