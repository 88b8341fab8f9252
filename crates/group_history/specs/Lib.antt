-- The record, the base of all contracts: what a map, a mutator, a state and a change are, and which record is legal.
-- Read Map, Meaning, State, Mutating, Pulling and Record in this order; Json, Cookies, Pull, Scans and Queries where
-- these cite them. Laws and Examples hold them against what one expects. Ids: pending ids follow the confirmed one.
-- Then nodes: Refs, Rows, Naming, Folds, Spelling (what chunks and commits spell). The rest are words of contracts:
-- Answers, Ran, Updating, Stops, Orders, TextMap, Refusals.
pub mod Map
pub mod Meaning
pub mod Json
pub mod Cookies
pub mod Refusals
pub mod Pull
pub mod State
pub mod Scans
pub mod Queries
pub mod Mutating
pub mod Pulling
pub mod Record
pub mod Ids
pub mod Laws
pub mod Examples
pub mod Refs
pub mod Rows
pub mod Naming
pub mod Folds
pub mod Spelling
pub mod Answers
pub mod Ran
pub mod Updating
pub mod Stops
pub mod Orders
pub mod TextMap
-- Words that only private clauses of this crate use.
pub mod Inside
