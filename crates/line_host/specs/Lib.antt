-- Demand 3 of the functions that hosts call.
-- the line, and the claim
pub mod Line
pub mod Claim
-- it is the line of `line_bytes`, and so of `line`
pub mod Refusals
pub mod Same
pub mod Runs
-- what happened on it
pub mod Archives
pub mod Moves
pub mod Noted
pub mod Events
pub mod History
-- so the claim holds
pub mod Truth
-- .. and clause 14
pub mod Counted
-- what the server archives, as the reader hands it out
pub mod Records
-- with buffers long enough it is the line of `line`, call by call: two runs as examples
pub mod Whole
pub mod Example
