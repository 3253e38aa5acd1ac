-- The counts of a record.
pub mod Counts
pub mod Record
pub mod Facts
