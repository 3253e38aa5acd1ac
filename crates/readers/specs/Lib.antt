-- The two readers of an archive.
pub mod Readers
pub mod Facts
