-- The definitions that the contracts of `workstations` cite, in the order in which they rest on each other.
pub mod Calls
pub mod Tally
pub mod Joint
