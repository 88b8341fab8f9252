pub mod CallLemmas
mod Keeping
mod Lasting
pub mod Seating
mod Telling
mod Unread
mod Polling
pub mod Causing
mod Running
