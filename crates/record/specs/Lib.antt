-- What record check and record writer give, from the bytes handed in.
pub mod Check
pub mod Write
pub mod Few
pub mod Facts
pub mod Stores
pub mod Copies
