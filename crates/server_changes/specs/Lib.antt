-- The changes of the server's state, and the runs of calls that make them.
pub mod Changes
pub mod Stores
pub mod Frees
pub mod Values
