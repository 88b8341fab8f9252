-- What a host is told. What each call at a place may tell, and how it leaves the place, is `client_desk`'s
-- (`MayAnswer`). Read Asking (what the bytes of a host say), then Numbers: how calls are asked for
-- (`MayAnswerNumbers`). Desks has how a desk stands, Mutators what a group's mutators mean and which of them it has,
-- Opening what a group is opened with.
pub mod Desks
pub mod Asking
pub mod Mutators
pub mod Numbers
pub mod Opening
-- Words that only private clauses of this crate use.
pub mod Inside
