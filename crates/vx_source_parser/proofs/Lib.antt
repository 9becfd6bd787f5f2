pub mod Parsing
pub mod BehindOperands
