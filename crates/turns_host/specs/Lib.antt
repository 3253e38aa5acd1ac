-- A turn over lent lines.
pub mod Host
pub mod Laws
