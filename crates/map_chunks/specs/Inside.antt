-- Words that only private clauses use. What a look at one placed chunk tells: on the way to a key's value, to how it
-- stands to another one, down the first children, to the second key, past chunks with one child each, along the
-- rows of a scan, and to chunks in which they lie.
pub mod Steps
pub mod Seeking
pub mod Depths
pub mod SecondKeys
pub mod Ends
pub mod Scanning
pub mod Covers
