pub mod Records
pub mod Reading
pub mod Skipped
pub mod Outcomes
pub mod Chunks
pub mod Laws
pub mod Tallies
