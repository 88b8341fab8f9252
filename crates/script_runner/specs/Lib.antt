-- What a run writes. Read Printing (what is printed of a command), Sights and Commanding (what clients have seen, and
-- what a command may come to), Phases, Records (one record of all changes), and Runs: `HasRun` is what `run` has
-- written. Then, of lines that are done one by one, Answering, Plain (what the group of one thread replies) and
-- Settling. What a script says is in `script_parser`, what a call at a place may tell in `client_desk`
-- (`MayAnswerWaiting`).
pub mod Printing
pub mod Sights
pub mod Commanding
pub mod Phases
pub mod Records
pub mod Runs
pub mod Answering
pub mod Plain
pub mod Settling
-- Words of private clauses of this crate, and in Players what `players_in` of Answering is.
pub mod Inside
