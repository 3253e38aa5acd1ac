-- Callbacks done and kept, and the end of a transaction.
pub mod Callbacks
pub mod Posting
pub mod Copies
