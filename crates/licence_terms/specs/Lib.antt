-- Document 02, wish 7: the tariff, the chargeable frames of an address over a stretch of commits, and the answer of a call.
pub mod Tariff
pub mod Frames
pub mod Licence
