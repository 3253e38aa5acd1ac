-- The waiting list's order, cycles of waits-for edges, and the victim.
pub mod Order
pub mod Known
pub mod Words
pub mod Closure
pub mod Cycles
pub mod Victims
