-- Demand 3 of lines whose stations stand behind windows of document 02's wish 5.
pub mod Line
pub mod Same
pub mod Truth
