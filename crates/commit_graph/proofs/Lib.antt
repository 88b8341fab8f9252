pub mod Spelled
pub mod Snapshots
mod LastIds
pub mod Chained
mod Rising
pub mod Few
mod Findings
pub mod Reached
mod Listing
mod Leaving
mod Lent
mod Marked
mod Choosing
mod Descending
mod Rooted
mod Narrowing
mod Noting
mod Topping
mod Rowing
mod Lefts
mod Mixing
pub mod Seating
pub mod Gathering
