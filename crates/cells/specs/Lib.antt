-- A list of bytes as cells, and bits as sets. Knows no layout and nothing of the line.
pub mod Upd
pub mod Num
pub mod Bits
pub mod Each
pub mod Cells
pub mod Tells
pub mod Loops
pub mod Pages
