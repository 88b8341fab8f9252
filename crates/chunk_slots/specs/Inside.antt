pub mod Showing
pub mod Appended
pub mod Blocks
pub mod Places
pub mod Openings
