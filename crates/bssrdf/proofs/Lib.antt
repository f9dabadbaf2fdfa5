-- The laws of queries.

-- check 8
pub mod FiniteSums
-- weights and rows
pub mod Products
pub mod Cells
pub mod AcceptedQueries
pub mod NeededRows
pub mod Marks
-- questions
pub mod Answering
pub mod TwoParts
-- channels
pub mod Channels
pub mod ThreeChannels
pub mod OneChannel
-- the calls
pub mod AfterChecks
pub mod Same
-- all together
pub mod QueryLaws
pub mod ByQuery
