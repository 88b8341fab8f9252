-- What a call at a place tells, and how it leaves the place. Read Kept (what is kept under numbers), Places (how a
-- place stands), Told (what a call came to, and how a client's reply is told), and then Answers: what each call may
-- tell that is no change, and how it leaves the place. Runs has the run that a change may ask for, and the premise of
-- a host's own mutators (`IsRunTold`), Drafts changes and the calls of such a run. Calls puts all together
-- (`MayAnswer`); Waiting has changes that wait for others, Learning what a place learns of another one. Closing has
-- what is left of a place that is closed, Numbers how what was told is said as numbers.
pub mod Kept
pub mod Places
pub mod Sitting
pub mod Told
pub mod Answers
pub mod Runs
pub mod Drafts
pub mod Calls
pub mod Waiting
pub mod Learning
pub mod Closing
pub mod Numbers
-- Words that only private clauses of this crate use.
pub mod Inside
