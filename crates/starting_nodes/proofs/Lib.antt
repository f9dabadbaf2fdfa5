-- The laws of the nodes.
pub mod Literals
pub mod NodeLists
pub mod Holding
-- E at the exponents of the albedos, over whole numbers: a term, the series, the squarings
pub mod Steps
pub mod Horner
pub mod Squarings
pub mod Exponentials
-- the nodes
pub mod Arguments
pub mod Albedos
pub mod Radii
-- all together
pub mod NodeLaws
