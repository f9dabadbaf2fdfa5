-- The definitions that the contracts of `interpolation` cite, in the order in which they rest on each other.
pub mod Interval
pub mod Nodes
pub mod Weights
pub mod Slope
pub mod Integral
pub mod Blend
pub mod Solve
pub mod Sample
pub mod Checks
pub mod Own
pub mod Laws
pub mod ProvedTable
