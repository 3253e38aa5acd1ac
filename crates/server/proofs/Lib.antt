-- What the proofs share.
pub mod Refused
