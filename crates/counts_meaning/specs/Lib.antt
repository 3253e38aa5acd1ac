-- What the counts reader shows of an archive, and that it shows nothing else (document 02, wish 8).
pub mod View
pub mod Record
pub mod Shown
pub mod Same
pub mod Stream
pub mod File
