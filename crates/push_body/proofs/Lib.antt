pub mod Writings
mod Pieces
mod Growing
pub mod Compact
mod Sent
