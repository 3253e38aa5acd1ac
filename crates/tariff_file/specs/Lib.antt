-- A line of a tariff file.
pub mod Line
pub mod Turns
