pub mod Counters
pub mod Whole
pub mod Written
