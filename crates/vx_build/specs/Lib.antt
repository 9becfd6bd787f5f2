pub mod Operands
pub mod Rounds
pub mod Collects
