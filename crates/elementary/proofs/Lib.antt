-- Laws that belong to no one function. The public ones are for the crates above, too.

-- values, their patterns and their sizes
pub mod Values
pub mod Patterns
pub mod Magnitude
pub mod Signs
pub mod Lengths
-- rounding and quotients
pub mod Rounded
pub mod Monotone
pub mod Quotients
mod Rounding
-- lists
pub mod Filled
pub mod Mapped
pub mod Listed
pub mod Pairs
-- the root
pub mod Squares
pub mod Nearest
pub mod Instruction
mod Scaled
-- the logarithm
pub mod Inside
-- by computation
pub mod Literals
pub mod Examples
