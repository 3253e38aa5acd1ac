-- The registers of document 02's wish 5.
pub mod Layout
pub mod Registers
pub mod Facts
