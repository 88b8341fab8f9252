-- The newest commit of a chain (Chaining), a state with more that is pending (Pending), runs of mutators (Running),
-- what they wrote put back (Undoing), and why a change that is drafted is refused (Refusing). The states are the
-- record's.
pub mod Chaining
pub mod Pending
pub mod Undoing
pub mod Running
pub mod Refusing
