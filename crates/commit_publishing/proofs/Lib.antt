pub mod Results
mod Renaming
mod Numbers
pub mod Carrying
pub mod Reaching
mod Popping
mod Using
pub mod Passing
pub mod Leaving
mod Lying
mod Stepping
