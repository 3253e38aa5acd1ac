-- Runs that the library stores at once.
pub mod Runs
