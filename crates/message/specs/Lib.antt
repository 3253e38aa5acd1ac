-- Document 01's messages, by document 02 "144 bytes": the layout, and the numbers 2 to 5 for both ends.
pub mod Layout
pub mod Range
pub mod Words
pub mod Commit
pub mod Number
pub mod Stores
pub mod Facts
pub mod Accepted
pub mod Kinds
