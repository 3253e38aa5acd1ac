-- Tests over a range of indices, lists of bytes, and what follows from a test that passed.
pub mod Tests
pub mod Bytes
pub mod Stores
pub mod Parts
