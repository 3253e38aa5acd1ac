-- Changes of a station's state page by page: dropped pages, marks, arriving pages, versions.
pub mod Pages
pub mod Groups
pub mod Drops
pub mod Versions
