-- The licence over bytes means document 02's (wish 7).
pub mod Stretch
pub mod Rounding
pub mod Steps
pub mod Sum
pub mod Meaning
