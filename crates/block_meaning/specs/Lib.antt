-- Writing, reading and looking up mean document 02's block.
pub mod Lists
pub mod Parts
pub mod Planes
pub mod Held
pub mod Laid
pub mod Packed
pub mod Blocks
pub mod Own
pub mod Cases
