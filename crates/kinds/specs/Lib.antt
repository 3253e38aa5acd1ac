-- The kinds of stations.
pub mod Kinds
