-- A write to a register of document 02's window, and a message delivered to its station.
pub mod Window
pub mod Operations
pub mod Facts
