-- What the server asks of its state: number 6, the gates of the pass, the waits-for edges.
pub mod Kinds
pub mod Tests
pub mod Blockers
pub mod Shorter
pub mod Alone
pub mod Words
pub mod Members
pub mod Groups
pub mod Causes
