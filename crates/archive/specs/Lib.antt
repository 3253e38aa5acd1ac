-- What the archive reader gives at a position of an archive.
pub mod Read
pub mod Answered
pub mod Parts
pub mod Told
pub mod Facts
