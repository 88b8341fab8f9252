-- What the chunks that a draft owns show. Read Nodes: the pieces of a chunk and what holds of it; Trails: those of a
-- list of chunks on one way; Roots: which of both a root is; Removing: what a root is once a key is removed; then
-- Levels: of which chunks each level consists, and what a put and a removal make of them; Others: which pieces a put
-- leaves alone. No public clause above `map_tree` reaches these.
pub mod Nodes
pub mod Trails
pub mod Roots
pub mod Removing
pub mod Levels
pub mod Others
-- What is put, and what a put and an update make of a map.
pub mod Changes
pub mod Updating
-- Words that only private clauses of this crate use.
pub mod Inside
