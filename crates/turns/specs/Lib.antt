-- Document 02's turns: what a turn is, and what is true of every run of them.
pub mod Turn
pub mod Lowest
pub mod Chosen
