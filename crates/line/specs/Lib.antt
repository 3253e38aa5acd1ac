-- Document 01's server, stations, owner operations, messages and lines, as definitions, and what is shown of them.
-- the definitions
pub mod Messages
pub mod Station
pub mod Server
pub mod Line
pub mod Truth
-- document 01's cases, computed
pub mod Fields
pub mod Rows
pub mod Cases
pub mod KeptCases
-- what a write of a set asks for; the set of one
pub mod Asks
pub mod One
-- a step is its actions, ends, and is at rest then
pub mod Laws
pub mod Pass
pub mod Fuel
pub mod Order
pub mod Rest
-- what holds of every call, and after every list of calls
pub mod Bounds
pub mod All
pub mod Runs
pub mod Apart
pub mod Counters
pub mod Says
pub mod Kept
pub mod Ordered
-- wish 2: what a kept age is for
pub mod KeptAges
-- number 1 asks it, every call keeps it, and what is sent fits
pub mod Fit
pub mod FitServer
pub mod FitCalls
pub mod Turns
