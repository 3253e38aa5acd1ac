-- The operations of a station's owner.
pub mod Owner
pub mod Facts
