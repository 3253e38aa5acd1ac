-- The archive of every run, written as bytes, is read back and replayed.
pub mod Bytes
pub mod Fits
pub mod Written
