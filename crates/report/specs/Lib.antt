-- The text that playback prints of an archive.
pub mod Text
pub mod Turns
pub mod Closing
pub mod Fits
