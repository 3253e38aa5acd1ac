-- Changes of a counter as integers, and what the machine computes with signed numbers.
pub mod Change
pub mod Machine
pub mod Bounds
pub mod Opposite
