-- The definitions that the contracts of `bssrdf` cite, in the order in which they rest on each other.
pub mod Coefficients
pub mod Axes
pub mod Needed
pub mod Checks
pub mod Question
pub mod Radiance
pub mod Cells
pub mod Density
pub mod Drawing
pub mod Laws
