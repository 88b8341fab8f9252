-- A call step by step. Read Places and Missing (where a call stands, why a query is refused), then Proposing
-- (`asked_reply`, `kind_for`), Leaving (`Frees`: what a change does to slots) and Causes (`HasCause`: why it is
-- refused). Arriving, Changing and Rooting are between the steps.
pub mod Places
pub mod Missing
pub mod Arriving
pub mod Proposing
pub mod Changing
pub mod Leaving
pub mod Causes
pub mod Rooting
pub mod Runs
pub mod Going
pub mod Tries
