-- What reading a block gives, and what a look-up does.
pub mod Read
pub mod Stores
