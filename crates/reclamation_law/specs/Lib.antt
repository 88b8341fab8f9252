-- The claims table and the head as one machine. Read Worlds (what it has), Events (what a seat does), Joined (when it
-- may, and what that changes), Laws (`JoinedLaw` first), and Stamps (what lies in the slots).
pub mod Worlds
pub mod Events
pub mod Joined
pub mod Laws
pub mod Stamps
