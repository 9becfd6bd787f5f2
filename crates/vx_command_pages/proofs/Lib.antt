mod Floats
mod SpansBelow
mod Unbinding
mod Partitions
mod Statements
pub mod Told
