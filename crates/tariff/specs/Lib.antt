-- A tariff as bytes: its rules, and what frames cost by it.
pub mod Table
pub mod Facts
