-- What a reader of the public clauses believes: which lines an input has, how things stand between two lines, what a
-- line is answered and how it leaves them, and what a whole input is answered.
pub mod Lines
pub mod Standing
pub mod Answers
pub mod Serving
-- Words that only private clauses of this crate use.
pub mod Inside
