-- What a station does with each message from the server.
pub mod Delivery
pub mod Laws
