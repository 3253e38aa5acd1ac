-- Sets and functions by index, and paths between nodes. Knows nothing of the line.
pub mod Base
pub mod Laws
pub mod Size
pub mod Reach
