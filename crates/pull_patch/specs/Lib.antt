-- Which response the bytes are. Read Fields, Operations, Changes, then Grammar, whose `answer_to` is the whole:
-- NotJson, BadShape, NotWhole, or the response. Laws and Worked hold it against bodies that are written out. Writes has
-- which writes a bare list of operations is, and what they make of a map.
pub mod Fields
pub mod Operations
pub mod Changes
pub mod Grammar
pub mod Writes
pub mod Laws
pub mod Worked
-- Words that only private clauses of this crate use.
pub mod Inside
