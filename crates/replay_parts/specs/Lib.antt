-- Plays of parts of an archive.
pub mod Prefix
pub mod Rest
