-- What the playback program does between its reads and writes.
pub mod Play
pub mod Steps
pub mod Close
pub mod Moves
pub mod Tallied
