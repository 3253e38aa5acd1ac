-- What the reader of a counts file gives at a position of it.
pub mod File
pub mod Answered
pub mod Facts
