-- Document 02's block of records: its bytes, and whether bytes are one.
pub mod Block
pub mod Places
pub mod Check
pub mod Parts
pub mod Facts
