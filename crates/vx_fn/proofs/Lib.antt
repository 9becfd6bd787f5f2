pub mod Rows
pub mod Monotone
pub mod Sound
pub mod Cases
pub mod Patterns
pub mod Swaps
pub mod Kleene
pub mod Fills
