-- The laws of lists of calls.
pub mod Batches
pub mod Tallying
pub mod StartingNodes
pub mod Asking
pub mod Agreeing
pub mod JointClaim
pub mod Progressing
pub mod ByStart
