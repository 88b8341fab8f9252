-- The language of rules. Read Rules (what a rule is), Meaning (what it does), Reading (what a text says, `rules_said`),
-- Answers and Faults. Views says which rules the trees of the code are.
pub mod Rules
pub mod Meaning
pub mod Reading
pub mod Answers
pub mod Faults
pub mod Views
-- Words that only private clauses of this crate use.
pub mod Inside
