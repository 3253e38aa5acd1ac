-- The bytes of the server's state and its step mean document 01's server.
pub mod Meant
pub mod Tests
pub mod Changes
pub mod Waiting
pub mod Frees
pub mod Writes
pub mod Commit
pub mod CycleCases
