mod Asking
mod Calm
pub mod Crossing
mod Joining
mod Keeping
mod Moving
mod Numbers
pub mod Remaining
mod Staying
mod Telling
mod Querying
mod Waits
mod Watching
