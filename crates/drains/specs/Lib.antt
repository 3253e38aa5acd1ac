-- Deliveries alone come to an end, and waits end with the transactions that they wait for.
pub mod Weights
pub mod Server
pub mod Station
pub mod Drains
pub mod Ends
pub mod Rounds
pub mod Runs
