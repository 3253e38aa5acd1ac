-- The bytes of a station's state and its calls mean document 01's station and its steps.
pub mod Meant
pub mod Named
pub mod Changes
pub mod Pages
