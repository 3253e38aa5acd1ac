-- The server's acceptance of a message.
pub mod Facts
pub mod Chains
