-- The definitions that other crates cite.
pub mod Answer
pub mod Checks
pub mod Refusal
