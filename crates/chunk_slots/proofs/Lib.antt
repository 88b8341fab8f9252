mod Claiming
pub mod Begins
mod Pinning
mod Opened
