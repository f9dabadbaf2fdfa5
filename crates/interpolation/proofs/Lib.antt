-- The laws of `interpolation` that belong to no one function. What the main ones say is in specs/Laws.

-- the search
pub mod Bisection
-- check 6, and accepted node lists
pub mod Finite
pub mod Accepted
pub mod Rising
pub mod Counting
-- eight nodes at once
pub mod Lanes
-- the weights
pub mod Reach
pub mod Hermite
pub mod Bounded
pub mod OnNode
-- blends and draws
pub mod Rows
pub mod Needed
-- refusals, rounds and allowances
pub mod Refusals
pub mod Ending
pub mod Draws
pub mod Allowance
-- by computation
pub mod Table
-- all together
pub mod Joint
