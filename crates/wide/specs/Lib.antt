-- Numbers of two words.
pub mod Wide
pub mod Laws
