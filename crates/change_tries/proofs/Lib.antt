pub mod Drafting
pub mod Judging
pub mod Finding
pub mod Making
pub mod Rooting
pub mod Answering
pub mod Stopping
pub mod Giving
mod Pinning
pub mod Running
pub mod Since
mod Going
