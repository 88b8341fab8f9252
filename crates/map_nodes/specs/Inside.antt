-- Words that only private clauses of this crate use. Chunks as children, why their sizes fall, what a scan finds below
-- them, a placed chunk copied, and chunks written down as nodes.
pub mod Nodes
pub mod Falls
pub mod Scanning
pub mod Copies
pub mod Freezing
-- A put: the upper half of a chunk that was split, how many keys there are then, what is ready before it, why a row
-- isn't put, and what is made of the chunks.
pub mod Halves
pub mod Counts
pub mod Ready
pub mod Rising
pub mod Unput
pub mod Puts
-- A removal: what chunks with one child each end in, and what becomes of children and root.
pub mod Ends
pub mod Removing
-- The way down from a placed chunk, the change that waits to be asked, and what is made on the way up; where on a
-- trail a key belongs.
pub mod Asking
pub mod Laying
pub mod Spots
