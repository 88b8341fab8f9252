mod Turns
mod Openings
mod Reading
mod Seated
mod Gathering
mod Closing
mod Telling
mod Grouping
mod Sending
mod Moves
mod Replying
pub mod Steady
mod Plainly
pub mod Lines
