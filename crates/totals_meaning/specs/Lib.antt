-- The table of counters means document 01's archive.
pub mod Whole
pub mod Written
pub mod Counters
