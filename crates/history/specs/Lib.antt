-- The changes of one counter.
pub mod History
