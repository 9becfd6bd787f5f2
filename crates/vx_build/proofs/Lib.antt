pub mod CaseOperands
pub mod Rounding
pub mod RoundLoops
pub mod Depths
pub mod Collecting
pub mod Truths
