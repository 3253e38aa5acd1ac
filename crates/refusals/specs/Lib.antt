-- The numbers of refusals.
pub mod Refusals
pub mod Laws
