-- The bytes of the server's state: where each field stands, number 1, a fresh state, the age counter.
pub mod Layout
pub mod Valid
pub mod Ages
pub mod Stores
pub mod Facts
pub mod Eights
pub mod Sets
pub mod Pages
pub mod Members
