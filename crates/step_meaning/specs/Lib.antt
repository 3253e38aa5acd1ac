-- The server's step over bytes means document 01's step.
pub mod Relation
pub mod Posts
pub mod Keeps
pub mod Accept
pub mod Pass
