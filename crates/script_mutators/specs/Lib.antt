-- What the mutators of scripts mean: Mutators has each, by arguments, reason and map.
pub mod Mutators
-- Words that only private clauses of this crate use.
pub mod Inside
