-- The definitions that the contracts of `starting_nodes` cite, in the order in which they rest on each other.
pub mod Nodes
pub mod Laws
