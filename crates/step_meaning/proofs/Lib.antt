pub mod Accept
pub mod Actions
pub mod Keeps
pub mod Pass
pub mod Posts
pub mod Relation
