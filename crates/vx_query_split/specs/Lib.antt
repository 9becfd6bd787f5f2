pub mod Reading
pub mod Reads
pub mod Division
pub mod Splits
pub mod Sources
