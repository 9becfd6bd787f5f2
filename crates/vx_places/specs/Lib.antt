pub mod Nodes
pub mod Refusals
pub mod Faults
pub mod Walked
pub mod Holes
