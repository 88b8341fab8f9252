mod Mutating
mod Numbering
mod Opened
mod Said
pub mod Sharing
