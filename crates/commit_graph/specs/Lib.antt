-- What clients share and what a head spells. Read Seats first: groups, seats, and what a look leaves (`HasLooked`).
-- Then Chains and LastIds, Reach (`IsDropped`: what a new head lets go), and Stores: why a node is not shown.
pub mod Seats
pub mod Chains
pub mod LastIds
pub mod Reach
pub mod Stores
-- Words that only private clauses of this crate use.
pub mod Inside
