-- What two archives are to each other.
pub mod Compare
pub mod Words
pub mod Told
pub mod Steps
