-- Document 02, wish 14: what two archives are to each other, on lists of records.
pub mod Relation
pub mod Order
