-- The sum of an address's changes over a stretch of an archive, and its fee.
pub mod Frames
pub mod Fee
pub mod Turns
