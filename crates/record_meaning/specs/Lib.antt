-- Record check and record writer mean document 01's record.
pub mod Parse
pub mod Layout
pub mod Head
pub mod Answers
pub mod Meaning
