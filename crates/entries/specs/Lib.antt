-- A record's entries as functions by address, and back.
pub mod Entries
