-- Cases of document 02's wish 8, as rows of one table.
pub mod Cases
