-- The laws of refusals.
pub mod Refusals
pub mod Numbers
pub mod Results
