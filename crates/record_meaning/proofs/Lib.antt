pub mod Answers
pub mod Entries
pub mod Head
pub mod LayoutLaws
pub mod Meaning
pub mod Rise
pub mod Writer
