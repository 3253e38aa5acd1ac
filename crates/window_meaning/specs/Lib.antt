-- What is true of every window of document 02's wish 5.
pub mod Flags
pub mod Changes
pub mod Writes
pub mod Shows
pub mod Keeps
