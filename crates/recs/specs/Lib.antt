-- The line's records as document 01's.
pub mod Recs
