-- Cases of document 02's wish 14, as rows of one table.
pub mod Cases
