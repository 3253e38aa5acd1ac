pub mod Changes
pub mod Counts
pub mod Meant
pub mod Named
pub mod Pages
pub mod Tests
