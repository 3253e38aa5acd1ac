-- Document 02's window for C.
pub mod Host
