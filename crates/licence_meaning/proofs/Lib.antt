pub mod Meaning
pub mod Rounding
pub mod Steps
pub mod Sum
