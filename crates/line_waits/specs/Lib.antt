-- Wish 4 of the functions that hosts call.
pub mod Jams
pub mod Waits
pub mod Victims
pub mod Rounds
