-- The bytes of messages mean the line's messages.
pub mod Meant
pub mod Numbers
pub mod Inverse
pub mod Sent
pub mod Uses
pub mod CommitSent
pub mod WorkSent
pub mod UpAccepted
