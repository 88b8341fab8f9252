mod Beginnings
pub mod Books
pub mod Counting
mod Trading
mod Crosses
mod Owning
pub mod Stepping
pub mod BookLaws
