-- Demand 3 over the bytes of states, messages and archive.
-- the line, and the claim
pub mod Bytes
pub mod Claim
-- number 1 in the model's words, and back
pub mod Fits
pub mod Flags
pub mod Valid
-- every call is one of the model's
pub mod Served
pub mod Kinds
pub mod Arrivals
pub mod Simulates
pub mod Runs
-- so the claim holds
pub mod Truth
-- and number 1 turns back no state of a run; from every state that it takes, a call leaves one, and what is sent fits
pub mod Stays
pub mod Ready
-- so with output long enough the line is the model's: C12 as an example
pub mod Whole
pub mod Example
