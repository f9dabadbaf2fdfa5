-- The laws that other crates cite.
pub mod Near
pub mod Sizes
pub mod Rounded
pub mod Held
pub mod Bounds
pub mod Order
pub mod Literals
pub mod Distance
pub mod Unique
