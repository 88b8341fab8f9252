pub mod Reads
pub mod Stages
pub mod Writes
