-- Words that only private clauses of this crate use: which value arguments are, and what a mutator means at them.
pub mod Arguments
pub mod Mutators
