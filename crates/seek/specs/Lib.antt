-- The record of a commit of an archive.
pub mod Seek
pub mod Facts
