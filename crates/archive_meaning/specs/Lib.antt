-- The archive reader and the replay mean document 01's archive.
pub mod Facts
pub mod Reader
pub mod Parts
pub mod Stored
pub mod Replay
pub mod Playback
