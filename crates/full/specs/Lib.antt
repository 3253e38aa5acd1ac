-- One record in full.
pub mod Full
