-- Words of private clauses of this crate: the clients and their parts of a phase in the code; a line whose client made
-- its call, and when nobody changes the group beside it; how one record is found; how a script is run that was read;
-- and how a process ends.
pub mod Players
pub mod Calls
pub mod Exact
pub mod Records
pub mod Turns
pub mod Runs
