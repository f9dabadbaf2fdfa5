-- The definitions that the contract cites.
pub mod Examples
