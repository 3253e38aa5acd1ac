-- Clause 14: frames that several stations add to one counter.
pub mod Counting
