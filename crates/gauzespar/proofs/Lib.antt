-- What the proofs of the calls cite, and what a number returned says.
pub mod Replies
pub mod Refusals
pub mod Opened
