-- The server's actions and its pass, over the bytes of a state.
pub mod Actions
pub mod Pass
pub mod Step
pub mod Posting
pub mod Parts
pub mod Informs
pub mod Stores
pub mod Chains
