-- The bytes of a station's state: where each field stands, number 1, a fresh state, and the small changes.
pub mod Layout
pub mod Taken
pub mod Valid
pub mod Changes
pub mod Stores
pub mod Facts
pub mod Sets
pub mod Runs
pub mod Few
