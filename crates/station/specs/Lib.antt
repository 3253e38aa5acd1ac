-- The station's step.
pub mod Station
pub mod Facts
