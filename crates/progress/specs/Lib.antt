-- Nobody waits on a ring.
pub mod Clauses
pub mod Lines
pub mod Waits
pub mod Asked
pub mod Owed
pub mod OwedStation
pub mod OwedServer
pub mod Moving
pub mod Held
pub mod Ring
pub mod Edges
pub mod Kept
pub mod Out
pub mod Causes
pub mod Victims
pub mod Example
