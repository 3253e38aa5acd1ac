pub mod Facts
pub mod Parts
pub mod Playback
pub mod Reader
pub mod Replay
pub mod Stored
