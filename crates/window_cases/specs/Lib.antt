-- Wish 5's sentences as rows of one table.
pub mod Cases
