-- The definitions that the facade's contracts cite.
pub mod Outputs
pub mod Calls
