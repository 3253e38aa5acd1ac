-- The server's step: what it answers, and that its calls leave what document 01's definition gives.
pub mod Outcome
pub mod Facts
pub mod Stepped
