-- The playback program's arguments.
pub mod Words
pub mod Modes
pub mod Numbers
