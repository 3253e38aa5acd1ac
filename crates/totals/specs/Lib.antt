-- How often each counter was written, and the table that says so.
pub mod Totals
pub mod Tally
pub mod Table
pub mod Writers
