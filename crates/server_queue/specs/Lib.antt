-- The waiting list's order by insertion.
pub mod Queue
pub mod Carry
