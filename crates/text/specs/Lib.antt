-- Text as bytes, and how it is put into a lent output.
pub mod Text
pub mod Decimal
pub mod Stores
