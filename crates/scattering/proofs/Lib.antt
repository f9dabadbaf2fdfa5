-- The laws of `scattering` that belong to no one function.

-- the constants, by computation
pub mod Literals
-- the sums over lists
pub mod Steps
pub mod SingleSum
pub mod MultipleSum
