-- What is true of every run of document 02's turns, and its cases as one table.
pub mod Run
pub mod Sums
pub mod Turns
pub mod Rounds
pub mod Within
pub mod Lines
pub mod Needed
pub mod Cases
