-- Sets of stations as bytes.
pub mod Sets
