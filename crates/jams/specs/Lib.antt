-- No message between ends that keep the rules is ever refused.
-- statements
pub mod Clauses
-- lines and locks
pub mod Until
pub mod Freed
-- the layer of numbers
pub mod Numbers
pub mod NumbersStation
pub mod NumbersServer
pub mod NumbersAccept
pub mod NumbersLayer
-- the layer of sets
pub mod SetsLayer
-- de-escalation
pub mod Deescalation
pub mod DeescalationStation
pub mod DeescalationServer
pub mod DeescalationLayer
-- a station that keeps its pages
pub mod Keeping
pub mod KeepingStation
pub mod KeepingServer
pub mod KeepingLayer
-- the layer of locks
pub mod Locks
pub mod LocksHeld
pub mod LocksStation
pub mod LocksServer
pub mod LocksAccept
pub mod LocksLayer
-- the heads of the lines are taken
pub mod Taken
-- the layers together, and the theorem
pub mod Theorem
pub mod Jams
