mod Answering
mod Escapes
mod Parts
pub mod PickedRules
mod Turns
pub mod Sharing
