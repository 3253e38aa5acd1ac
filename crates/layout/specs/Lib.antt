-- Document 01's record and archive: what they say, their bytes, and how they are replayed.
pub mod Record
pub mod Replay
