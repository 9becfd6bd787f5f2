mod MaskRuns
mod Stretches
pub mod Pairs
pub mod Writing
mod Limits
pub mod Apart
