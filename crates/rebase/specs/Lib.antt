-- What a client is told. Read Clients (what a call leaves: `AfterChange`, `AfterLook`) and Calls (`reply_to`:
-- the right reply to each call; lists of calls); and Running for changes whose mutators the caller runs. Configs,
-- Queries, Asking, Replies, Watching, Readers and Asked are where these cite them; Counting hands on words of
-- `reader_claims`. Below it stand `linearized` and `group_history`: read those first.
pub mod Configs
pub mod Clients
pub mod Queries
pub mod Asking
pub mod Replies
pub mod Calls
pub mod Watching
pub mod Readers
pub mod Running
pub mod Asked
pub mod Counting
-- Words that only private clauses of this crate use.
pub mod Inside
