-- How many messages one step of the server adds to the line of one station.
pub mod Count
pub mod Left
pub mod Leaves
pub mod Locking
pub mod Validating
pub mod Most
