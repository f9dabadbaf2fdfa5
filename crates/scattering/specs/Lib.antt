-- The definitions that the contracts of `scattering` cite, in the order in which they rest on each other.
pub mod Literals
pub mod Clamp
pub mod Fresnel
pub mod Phase
pub mod Moments
pub mod Samples
pub mod Single
pub mod Multiple
pub mod Spectrum
pub mod Checks
pub mod Exitance
