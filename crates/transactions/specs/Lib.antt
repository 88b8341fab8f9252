-- What a transaction shows. Read Maps (a writing transaction is the map of its tree), Reads (the state that a reader
-- answers at), Staging (placed and drafted nodes as one), Taking (rows beside those told last), Spans (which of these
-- are which chunk's), Rescans (a scan that is made again).
pub mod Maps
pub mod Reads
pub mod Rescans
pub mod Spans
pub mod Staging
pub mod Taking
