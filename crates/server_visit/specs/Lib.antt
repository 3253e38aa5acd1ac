-- A waiter's turn: what its calls leave is what the definitions of server_actions give.
pub mod Asked
pub mod Visits
pub mod Rest
