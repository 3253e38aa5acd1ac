-- What playback keeps, and how each record changes it.
pub mod Replay
pub mod Few
pub mod Played
pub mod Fuel
