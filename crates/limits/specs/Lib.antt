-- Document 02, wish 1: how much one transaction may read and write.
pub mod Limit
