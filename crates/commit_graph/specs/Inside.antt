-- Words that only private clauses of this crate use: what one commit tells of its chain, what a walk has found, how a
-- chunk is met by a key of it, and of which kind a node is.
pub mod Chains
pub mod Handing
pub mod Reach
pub mod Meeting
pub mod Kinds
pub mod Gaps
pub mod Telling
pub mod Left
