-- Words that only private clauses of this crate use: what a tree of names stands for, what a parser has read, parts of
-- lines, and how an answer of the parser stands to the right one.
pub mod Names
pub mod Parsing
pub mod Header
pub mod Commands
pub mod Faults
pub mod Reading
