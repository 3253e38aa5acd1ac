-- The server's calls as C takes them.
pub mod Host
