-- The commit that a station sends: its bytes, and the stores that leave them.
pub mod Commit
pub mod Filled
