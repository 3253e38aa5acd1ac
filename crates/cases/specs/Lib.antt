-- Document 01's cases, as rows of one table.
pub mod Archive
