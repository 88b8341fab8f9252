pub mod Stacks
pub mod Steps
