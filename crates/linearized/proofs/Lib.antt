pub mod AtOnce
pub mod Moving
pub mod Losing
pub mod Holding
mod Worked
