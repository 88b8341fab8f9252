-- What a script says. Read Words, Context, Header, Names and Commands (what a line says), then Faults (`script_said`:
-- the first fault, or what was said) and Scripts. Kept and Reading are a line that is read by itself.
pub mod Words
pub mod Names
pub mod Context
pub mod Header
pub mod Commands
pub mod Faults
pub mod Scripts
pub mod Kept
pub mod Reading
-- Words that only private clauses of this crate use.
pub mod Inside
