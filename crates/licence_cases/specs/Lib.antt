-- Cases of document 02's wish 7, as rows of one table.
pub mod Cases
