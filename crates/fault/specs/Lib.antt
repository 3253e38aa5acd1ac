-- What is wrong with a record, and that it is what replay refuses it for.
pub mod First
pub mod Fault
pub mod Search
pub mod Number
pub mod Place
