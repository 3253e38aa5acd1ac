-- How much longer one call of the functions that hosts call makes the line down to one station.
pub mod Adds
