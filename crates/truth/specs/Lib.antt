-- The archive is true after every list of calls: `truth` in Truth.
-- statements, and what every layer needs
pub mod Clauses
pub mod Frame
pub mod Inv
-- the layers
pub mod Tokens
pub mod Coverage
pub mod CallbacksServer
pub mod CallbacksStation
pub mod CallbacksWaiters
pub mod CallbacksLayer
pub mod Exclusion
pub mod ExclusionStation
pub mod ExclusionFields
pub mod ValuesEvents
pub mod ValuesStation
pub mod ValuesServer
pub mod Values
pub mod ValidatedHist
pub mod ValidatedEvents
pub mod ValidatedStation
pub mod ValidatedServer
pub mod Validated
pub mod GoalsLists
pub mod GoalsEight
pub mod GoalsTold
pub mod GoalsSent
pub mod GoalsOwner
pub mod GoalsStation

-- the layers together, and the theorem
