-- The line of words for a fault.
pub mod Words
pub mod Fits
pub mod Table
