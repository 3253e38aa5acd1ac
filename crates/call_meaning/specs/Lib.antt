-- A station's calls over bytes mean the owner's operations and the step of document 01.
pub mod Relation
pub mod Callbacks
pub mod Valid
pub mod Sets
pub mod Delivery
pub mod Commit
pub mod Buffers
pub mod Calls
pub mod Stays
