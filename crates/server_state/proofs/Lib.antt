-- What the proofs share.
pub mod Lowest
