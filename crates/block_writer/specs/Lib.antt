-- What writing a block gives, from the records handed in.
pub mod Write
pub mod Stripes
pub mod Facts
pub mod Stores
