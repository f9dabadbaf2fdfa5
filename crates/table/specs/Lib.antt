-- The definitions that the contracts of `table` cite, in the order in which they rest on each other.
pub mod Parameters
pub mod Checks
pub mod Nodes
pub mod Row
pub mod TableRow
pub mod Starting
pub mod Building
pub mod Sets
pub mod Laws
