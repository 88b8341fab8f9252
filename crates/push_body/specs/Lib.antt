-- The bytes of requests. Read Bodies: `push_text` and `pull_text` are the texts as printed. Written and ReadBack say
-- that a JSON reader finds just the fields in them. Rows: how the edges print rows and pending mutations, with the same
-- quotes.
pub mod Bodies
pub mod Written
pub mod ReadBack
pub mod Rows
