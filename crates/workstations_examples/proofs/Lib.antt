-- The examples' proofs.
pub mod Row2
pub mod Computed
