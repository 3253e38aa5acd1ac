-- The pass over the waiting list, and the rounds of it until nothing changes.
pub mod Sane
pub mod Seats
pub mod Edges
pub mod Rounds
pub mod Idle
pub mod Calls
pub mod Goes
