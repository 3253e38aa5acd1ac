-- What a station's call does and says, and two questions to a state.
pub mod Did
pub mod Ask
pub mod Handed
