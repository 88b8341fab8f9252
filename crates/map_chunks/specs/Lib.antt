-- What placed chunks show and what is read below them. Read Shown, Wide, Drafts and Places first: rows, chunks with
-- more than one child, a draft's nodes, and which references may be looked for. Then keys (KeysSeen, Keys, Search,
-- Inserting: of 17 entries the first 8 stay), and reading (Seeking, Ends, SecondKeys, Sinks, Scanning, Covers). A user
-- of `rebase` needs Sinks alone.
pub mod Shown
pub mod Wide
pub mod Drafts
pub mod Places
pub mod KeysSeen
pub mod Keys
pub mod Search
pub mod Inserting
pub mod Seeking
pub mod Ends
pub mod SecondKeys
pub mod Sinks
pub mod Scanning
pub mod Covers
-- Words that only private clauses of this crate use.
pub mod Inside
