-- Document 01's cases C1 to C12 of the steps over bytes, as one table.
-- what a call shows, and the table
pub mod Seen
pub mod Rows
pub mod Table
-- a message that is read is document 01's bytes of what it is read as
pub mod Wire
pub mod Parts
pub mod Records
pub mod Down
pub mod Up
-- so calls over bytes show what the model's show, and the archive is what they show to be archived
pub mod Shown
pub mod Archived
-- the table holds, and of calls that can be made
pub mod Cases
pub mod Lent
