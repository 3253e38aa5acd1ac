-- A record out of two sets of addresses and their values: its fields, the stores that write it, and that they leave its bytes.
pub mod Record
pub mod Stores
pub mod Filled
pub mod Spans
