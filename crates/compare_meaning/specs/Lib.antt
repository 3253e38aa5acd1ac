-- The comparison of two archives over bytes means document 02's (wish 14).
pub mod Walk
pub mod Meaning
pub mod Parts
pub mod Counts
