pub mod Sound
pub mod Keeps
pub mod Slotted
pub mod Reaching
mod Opens
mod Readers
mod Pins
pub mod Scans
mod Looks
mod Taking
mod Options
mod Lawful
pub mod Moving
mod Bare
pub mod Raising
mod Counting
mod Finding
